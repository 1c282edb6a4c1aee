-- The rows of a case and of a default.
use Rattle.std.proofs.Common.{ℕ, Bool, true, false, ◌≡◌, sym, subst}
use Rattle.flow_walks.specs.declared.action.Action.TheVariants.{Test}
use Rattle.flow_walks.specs.Comes.{Comes, act, emit, either, choice}
use Rattle.flow_walks.proofs.More.{either_in}
use Rattle.flow_rows.specs.Paths.{Graph}
use Rattle.flow_rows.specs.Laying.{Grown, LaidAt, LedAt}
use Rattle.flow_rows.proofs.Laws.{leads, lead_self, lays_then, keeps_then}

pub case_laid : (g h : Graph) (d o at chosen entry other : ℕ) → Grown g h → LaidAt g chosen (λ k. emit (act (Test d o)) (k entry)) → LaidAt h at (λ k. either (k chosen) (k other)) → LaidAt h at (λ k. either (emit (act (Test d o)) (k entry)) (k other))
case_laid g h d o at chosen entry other gh a b j k =
    lays_then j at chosen (λ k v. either v (k other)) (λ k. emit (act (Test d o)) (k entry)) (λ k u v q. either_in _ _ _ _ q (λ r z. z)) (b j k) (leads j chosen (λ k. emit (act (Test d o)) (k entry)) (a j (keeps_then g h j gh.keeps k)))

pub default_led : (h : Graph) (at entry other : ℕ) (b : Bool) → b ≡ true → LaidAt h at (λ k. k entry) → LedAt h at (λ k. choice b (k entry) (k other))
default_led h at entry other b is a = subst (λ b. LedAt h at (λ k. choice b (k entry) (k other))) (sym is) (λ j k. leads j at (λ k. k entry) (a j k))

pub other_led : (h : Graph) (at entry : ℕ) (b : Bool) → b ≡ false → LedAt h at (λ k. choice b (k entry) (k at))
other_led h at entry b is = subst (λ b. LedAt h at (λ k. choice b (k entry) (k at))) (sym is) (λ j k. lead_self j at)

pub laid_led : (h : Graph) (r : ℕ) (F : (ℕ → Comes) → Comes) → LaidAt h r F → LedAt h r F
laid_led h r F a j k = leads j r F (a j k)
