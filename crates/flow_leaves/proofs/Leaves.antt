-- Scalars in local variables are found at cells of their leaf names.
use Rattle.std.proofs.Common.{◌≡◌, ◌∙◌, ℕ, ◌+◌, ◌<◌, [], ◌∷◌, ap, refl, sym, subst, inl, inr, arith, Option, Some, None, true}
use Rattle.std.specs.Prelude.{Contains, slice_get}
use Rattle.c_syntax.specs.declared.text.Text.{Text}
use Rattle.c_syntax.specs.Shape.{TypeOf, int, pointer, array, structure, nothing}
use Rattle.c_type_rules.specs.Kinds.{is_scalar}
use Rattle.c_store.specs.Cells.{cell_of}
use Rattle.c_tables.specs.Tables.{TablesShape}
use Rattle.c_meaning.specs.State.{found_in, found_within, or_else}
use Rattle.c_meaning.specs.Layout.{cells, variable_kind}
use Rattle.flow_calls.proofs.Lists.{some_not, or_some}
use Rattle.flow_places.specs.Sited.{StandsFor}
use Rattle.flow_leaves.specs.Parts.{IsPart}
use Rattle.flow_leaves.specs.Standing.{root_of, StandsAt}
use Rattle.flow_leaves.specs.CellNames.{cell_names, AreLayered}
use Rattle.flow_leaves.proofs.Layers.{parts_have_names}
use Rattle.flow_leaves.proofs.Places.{places_stand}
use Rattle.flow_leaves.specs.Leaves.{text_in, name_in, leaf_in, DirectPlacesAreFound, DirectSitesMayBeTold}

-- a scalar is one cell, which has its name
one_cell : (t : TablesShape) (k : TypeOf) → is_scalar k ≡ true → 0 < cells t k
one_cell t (int k) e = omega arith
one_cell t (pointer k) e = omega arith
one_cell t (array k n) e = cc
one_cell t (structure n) e = cc
one_cell t nothing e = cc

own_name : (t : TablesShape) (x : Text) (k : TypeOf) → is_scalar k ≡ true → slice_get (cell_names t x k) 0 ≡ Some x
own_name t x (int k) e = refl
own_name t x (pointer k) e = refl
own_name t x (array k n) e = cc
own_name t x (structure n) e = cc
own_name t x nothing e = cc

leaf_of : (t : TablesShape) → AreLayered t → (x y : Text) (v o : ℕ) (k j : TypeOf) → variable_kind t v ≡ Some k → IsPart t k x o j y → is_scalar j ≡ true → leaf_in t x v o ≡ y
leaf_of t l x y v o k j e h is =
    let one = parts_have_names t l v k j x y o e h 0 (one_cell t j is) in
    let at : o ≡ o + 0 = omega arith in
    ap (λ p. name_in t x p o) e ∙ ap (λ (c : ℕ). text_in (slice_get (cell_names t x k) c)) at ∙ ap text_in one.1 ∙ ap text_in (own_name t y j is)

-- a variable that isn't one of file scope is found in the active call
pub local_instance : (o p : Option ℕ) (j : ℕ) → or_else o p ≡ Some j → p ≡ None → o ≡ Some j
local_instance o p j e h = elim (or_some o p j e) [ inl k ↦ k | inr k ↦ absurd (some_not j (sym h ∙ k.1)) ]

pub places_are_found : DirectPlacesAreFound
places_are_found t l F a d h = record {
  by = λ k keeps r i s u q e g lt.
      let one = places_stand t k keeps a d h.kinded h.is r i s u q g in
      let at : StandsAt t (root_of a) d u q = one.1 in
      let file = ap (found_in d.variable) (one.0.file ∙ e) ∙ h.local in
      (local_instance (found_within d.variable u.calls) (found_in d.variable u.file) q.instance at.there file, leaf_of t l (root_of a) d.name d.variable (cell_of q) at.kind d.kind at.is (at.part lt) h.scalar);
}

head_in : (x : Text) → Contains (x ∷ []) x
head_in x = (0, omega arith, refl)

pub sites_may_be_told : DirectSitesMayBeTold
sites_may_be_told t l S F a d v h e names leaf =
    let found = places_are_found t l F a d h in
    let stands : StandsFor F t a v.variable (λ c. leaf_in t (root_of a) v.variable c ≡ d.name) = subst (λ (x : ℕ). StandsFor F t a x (λ c. leaf_in t (root_of a) x c ≡ d.name)) (sym e) found in
    let called : StandsFor F t a v.variable (λ c. S.leaf v.variable c ≡ d.name) = record { by = λ k keeps r i s u q f g lt. let one = stands.by k keeps r i s u q f g lt in (one.0, leaf (cell_of q) ∙ one.1) } in (
      record { by = λ k keeps r i s u q f g lt. let one = called.by k keeps r i s u q f g lt in (one.0, subst (λ xs. Contains xs (S.leaf v.variable (cell_of q))) (sym names) (subst (λ x. Contains (d.name ∷ []) x) (sym one.1) (head_in d.name))) },
      λ other. (other, record { by = λ k keeps r i s u q f g lt. let one = called.by k keeps r i s u q f g lt in (one.0, names ∙ ap (λ x. x ∷ []) (sym one.1)) }),
    )
