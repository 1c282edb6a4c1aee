-- What tests say.
use Rattle.std.proofs.Common.{arith, ◌≡◌, ℕ, Bool, true, false, Option, Some, None, refl, sym, ap, ◌∙◌, inl, inr}
use Rattle.std.specs.Prelude.{◌↔◌, ◌⊎◌, ◌&&◌, ◌||◌, not, nat_eq, IsTrue}
use Rattle.std.proofs.lemmas.Bool.{eqb-true}
use Rattle.std.proofs.lemmas.Bool.Decides.{nat_tests}
use Rattle.c_events.specs.declared.events.Cell.{Cell}
use Rattle.cover_law.specs.Covers.{is_number, same_cell}

pub both : (a b : Bool) → IsTrue (a && b) → IsTrue a × IsTrue b
both true b h = (refl, h)
both false b h = absurd (let e : false ≡ true = h in cc)

pub make_both : (a b : Bool) → IsTrue a → IsTrue b → IsTrue (a && b)
make_both true b h k = k
make_both false b h k = absurd (let e : false ≡ true = h in cc)

pub one_of : (a b : Bool) → IsTrue (a || b) → IsTrue a ⊎ IsTrue b
one_of true b h = inl refl
one_of false b h = inr h

pub make_first : (a b : Bool) → IsTrue a → IsTrue (a || b)
make_first true b h = refl
make_first false b h = absurd (let e : false ≡ true = h in cc)

pub make_second : (a b : Bool) → IsTrue b → IsTrue (a || b)
make_second true b h = refl
make_second false b h = h

pub no : IsTrue false → ⊥
no h = let e : false ≡ true = h in cc

pub refused : (b : Bool) → IsTrue (not b) → IsTrue b → ⊥
refused true h k = no h
refused false h k = no k

pub make_not : (b : Bool) → (IsTrue b → ⊥) → IsTrue (not b)
make_not true h = absurd (h refl)
make_not false h = refl

pub same : (m n : ℕ) → IsTrue (nat_eq m n) → m ≡ n
same m n h = eqb-true m n h

pub make_same : (m n : ℕ) → m ≡ n → IsTrue (nat_eq m n)
make_same m n e = grind (arith, nat_tests)

pub numbered : (n : ℕ) (o : Option ℕ) → IsTrue (is_number n o) → o ≡ Some n
numbered n None h = absurd (no h)
numbered n (Some m) h = ap Some (sym (same n m h))

pub make_numbered : (n : ℕ) (o : Option ℕ) → o ≡ Some n → IsTrue (is_number n o)
make_numbered n None e = absurd (cc)
make_numbered n (Some m) e = make_same n m (let s : Some m ≡ Some n = e in cc)

cell : ℕ → ℕ → Cell
cell i j = record { instance = i; index = j }

pub cell_same : (c d : Cell) → IsTrue (same_cell c d) → c ≡ d
unfolding cell
cell_same c d h =
    let p = both (nat_eq c.instance d.instance) (nat_eq c.index d.index) h in
    ap (λ i. cell i c.index) (same c.instance d.instance p.0) ∙ ap (cell d.instance) (same c.index d.index p.1)

pub make_cell_same : (c d : Cell) → c ≡ d → IsTrue (same_cell c d)
make_cell_same c d e = make_both (nat_eq c.instance d.instance) (nat_eq c.index d.index) (make_same c.instance d.instance (ap (λ (x : Cell). x.instance) e)) (make_same c.index d.index (ap (λ (x : Cell). x.index) e))

-- two tests that hold of the same are the same
pub tests_agree : (a b : Bool) → (IsTrue a → IsTrue b) → (IsTrue b → IsTrue a) → a ≡ b
tests_agree true b f g = sym (f refl)
tests_agree false true f g = absurd (no (g refl))
tests_agree false false f g = refl
