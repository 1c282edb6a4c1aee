-- The table of the cells of variables.
use Rattle.std.proofs.Common.{◌≡◌, ℕ, zero, suc, ◌-◌, ◌<◌, ◌≤◌, List, [], ◌∷◌, ◌++◌, length, get_or, Option, Some, None, refl, sym, ap, ◌∙◌, subst, arith, ne_eqb, nat_eq, Bool, true, false}
use Rattle.std.specs.Prelude.{slice_get, slice_set}
use Rattle.std.proofs.lemmas.Bool.{eqb-true, eqb-false}
use Rattle.std.proofs.lemmas.List.{get_or-set_other, get_or-set_same}
use Rattle.c_syntax.specs.Shape.{TypeOf}
use Rattle.c_tables.specs.Tables.{VariableShape, TablesShape}
use Rattle.c_tables.specs.Rows.{row}
use Rattle.c_meaning.specs.Layout.{cells, kind_in, variable_kind}
use Rattle.c_compute.specs.Sizes.{IsMeasured}
use Rattle.c_base.specs.Kept.{kept}

longer : (t : List ℕ) (v : ℕ) → get_or (t ++ 0 ∷ []) v 0 ≡ get_or t v 0
longer [] zero = refl
longer [] (suc v) = refl
longer (x ∷ t) zero = refl
longer (x ∷ t) (suc v) = longer t v

pub measured_grown : (t : TablesShape) (sizes : List ℕ) → IsMeasured t sizes → IsMeasured t (sizes ++ 0 ∷ [])
measured_grown t sizes m v k is some = longer sizes v ∙ m v k is (λ z. some (longer sizes v ∙ z))

-- ---- the row of a variable

pub row_kind : (rows : List VariableShape) (v : ℕ) (x : VariableShape) → 1 ≤ v → slice_get rows (v - 1) ≡ Some x → kind_in (row rows v) ≡ Some x.kind
row_kind rows zero x h e = absurd (omega (arith, h))
row_kind rows (suc v) x h e = rw (ne_eqb (suc v) 0 (λ f. absurd (omega (arith, f)))) (ap kind_in e)

abbrev the : {A : Type 0} → A → Option A → A
the d None = d
the d (Some a) = a

some_same : {A : Type 0} (o : Option A) (a b : A) → o ≡ Some a → o ≡ Some b → a ≡ b
some_same o a b e f = ap (λ x. the a x) (sym e ∙ f)

pub measured_row : (t : TablesShape) (v n : ℕ) (x : VariableShape) → 1 ≤ v → slice_get t.variables (v - 1) ≡ Some x → n ≡ kept (cells t x.kind) → (k : TypeOf) → variable_kind t v ≡ Some k → n ≡ kept (cells t k)
measured_row t v n x h e is k kind = is ∙ ap (λ y. kept (cells t y)) (some_same (variable_kind t v) x.kind k (row_kind t.variables v x h e) kind)

measured_at : (t : TablesShape) (sizes : List ℕ) (v n w : ℕ) (k : TypeOf) → IsMeasured t sizes → v < length sizes → ((k : TypeOf) → variable_kind t v ≡ Some k → n ≡ kept (cells t k)) → variable_kind t w ≡ Some k → (get_or (slice_set sizes v n) w 0 ≡ 0 → ⊥) → (same : Bool) → nat_eq v w ≡ same → get_or (slice_set sizes v n) w 0 ≡ kept (cells t k)
measured_at t sizes v n w k m inside is kind some true e =
    let f : v ≡ w = eqb-true v w e in
    let P : ℕ → Type 0 = λ w. variable_kind t w ≡ Some k → get_or (slice_set sizes v n) w 0 ≡ kept (cells t k) in
    subst P f (λ kind. get_or-set_same sizes v n 0 inside ∙ is k kind) kind
measured_at t sizes v n w k m inside is kind some false e =
    let o = get_or-set_other sizes v w n 0 (λ f. eqb-false v w e (sym f)) in
    o ∙ m w k kind (λ z. some (o ∙ z))

pub measured_set : (t : TablesShape) (sizes : List ℕ) (v n : ℕ) → IsMeasured t sizes → v < length sizes → ((k : TypeOf) → variable_kind t v ≡ Some k → n ≡ kept (cells t k)) → IsMeasured t (slice_set sizes v n)
measured_set t sizes v n m inside is w k kind some = measured_at t sizes v n w k m inside is kind some (nat_eq v w) refl
