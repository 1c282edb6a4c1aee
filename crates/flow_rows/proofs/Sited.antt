-- The rows of decisions, uses, definitions and calls.
use Rattle.std.proofs.Common.{ℕ, ◌≡◌, Bool, true, false, Some, sym, subst}
use Rattle.flow_walks.specs.declared.action.Action.TheVariants.{Test}
use Rattle.flow_walks.specs.Comes.{Met, act, Comes, emit, emit_if, either}
use Rattle.flow_walks.proofs.More.{In, either_in}
use Rattle.flow_rows.specs.Paths.{Graph, tells}
use Rattle.flow_rows.specs.Laying.{Grown, LaidAt, LedAt}
use Rattle.flow_rows.proofs.Laws.{lead_self, leads, lays_then, leads_then, keeps_then, grown_then}

pub grown_three : (g h i j : Graph) → Grown g h → Grown h i → Grown i j → Grown g j
grown_three g h i j p q r = grown_then g i j (grown_then g h i p q) r

-- a row that was laid before a graph grew
pub laid_before : (g h : Graph) (r : ℕ) (F : (ℕ → Comes) → Comes) → Grown g h → LaidAt g r F → LaidAt h r F
laid_before g h r F p l j k = l j (keeps_then g h j p.keeps k)

pub led_before : (g h : Graph) (r : ℕ) (F : (ℕ → Comes) → Comes) → Grown g h → LedAt g r F → LedAt h r F
led_before g h r F p l j k = l j (keeps_then g h j p.keeps k)

pub laid_led : (g : Graph) (r : ℕ) (F : (ℕ → Comes) → Comes) → LaidAt g r F → LedAt g r F
laid_led g r F l j k = leads j r F (l j k)

pub self_led : (g : Graph) (r : ℕ) → LedAt g r (λ k. k r)
self_led g r j k = lead_self j r

-- a row leads to one that leads there
pub led_then : (g h : Graph) (r x : ℕ) (F : Comes → Comes) (G : (ℕ → Comes) → Comes) → ((i j : Comes) → In i j → In (F i) (F j)) → Grown g h → LedAt h r (λ k. F (k x)) → LedAt g x G → LedAt h r (λ k. F (G k))
led_then g h r x F G mono p f l j k = leads_then j r x (λ m. F) G (λ m. mono) (f j k) (l j (keeps_then g h j p.keeps k))

pub laid_then : (g h : Graph) (r x : ℕ) (F : Comes → Comes) (G : (ℕ → Comes) → Comes) → ((i j : Comes) → In i j → In (F i) (F j)) → Grown g h → LaidAt h r (λ k. F (k x)) → LedAt g x G → LaidAt h r (λ k. F (G k))
laid_then g h r x F G mono p f l j k = lays_then j r x (λ m. F) G (λ m. mono) (f j k) (l j (keeps_then g h j p.keeps k))

-- ---- decisions

pub decided_laid : (g h i : Graph) (d r p q t u : ℕ) → Grown g h → Grown h i → LaidAt g p (λ k. emit (act (Test d 1)) (k t)) → LaidAt h q (λ k. emit (act (Test d 2)) (k u)) → LaidAt i r (λ k. either (k p) (k q)) → LaidAt i r (λ k. either (emit (act (Test d 1)) (k t)) (emit (act (Test d 2)) (k u)))
decided_laid g h i d r p q t u gh hi a b f j k =
    let first = leads j p (λ m. emit (act (Test d 1)) (m t)) (a j (keeps_then g i j (keeps_then g h i gh.keeps hi.keeps) k)) in
    let second = leads j q (λ m. emit (act (Test d 2)) (m u)) (b j (keeps_then h i j hi.keeps k)) in
    let one = lays_then j r p (λ m x. either x (m q)) (λ m. emit (act (Test d 1)) (m t)) (λ m x y v. either_in x (m q) y (m q) v (λ w z. z)) (f j k) first in
    lays_then j r q (λ m x. either (emit (act (Test d 1)) (m t)) x) (λ m. emit (act (Test d 2)) (m u)) (λ m x y v. either_in (emit (act (Test d 1)) (m t)) x (emit (act (Test d 1)) (m t)) y (λ w z. z) v) one second

-- ---- what is met, or isn't

pub told_led : (g : Graph) (r x : ℕ) (b : Bool) (a : Met) → b ≡ true → LaidAt g r (λ k. tells (Some a) (k x)) → LedAt g r (λ k. emit_if b a (k x))
told_led g r x b a e l = subst (λ b. LedAt g r (λ k. emit_if b a (k x))) (sym e) (laid_led g r (λ k. emit a (k x)) l)

pub untold_led : (g : Graph) (x : ℕ) (b : Bool) (a : Met) → b ≡ false → LedAt g x (λ k. emit_if b a (k x))
untold_led g x b a e = subst (λ b. LedAt g x (λ k. emit_if b a (k x))) (sym e) (self_led g x)

pub same_led : (g : Graph) (r x : ℕ) (b b' : Bool) (n n' : ℕ) (a : ℕ → Met) → b ≡ b' → n ≡ n' → LedAt g r (λ k. emit_if b (a n) (k x)) → LedAt g r (λ k. emit_if b' (a n') (k x))
same_led g r x b b' n n' a e f l = subst (λ b. LedAt g r (λ k. emit_if b (a n') (k x))) e (subst (λ n. LedAt g r (λ k. emit_if b (a n) (k x))) f l)
