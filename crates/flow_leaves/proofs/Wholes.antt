-- Structures and arrays in local variables stand as wholes, and may be told of by the leaf names that their sites are listed with.
use Rattle.std.proofs.Common.{◌≡◌, ◌∙◌, ℕ, zero, suc, ◌+◌, ◌<◌, List, [], ◌∷◌, length, ap, refl, sym, subst, arith, Some, None, false}
use Rattle.std.specs.Prelude.{Contains, slice_get}
use Rattle.std.proofs.lemmas.Option.{slice_get_within, slice_get-get_or, get_or_from_slice_get}
use Rattle.c_syntax.specs.declared.text.Text.{Text}
use Rattle.c_syntax.specs.Shape.{TypeOf, NodeShape}
use Rattle.c_store.specs.declared.value.Pointer.{Pointer}
use Rattle.c_store.specs.Cells.{cell_of}
use Rattle.c_tables.specs.Tables.{TablesShape}
use Rattle.c_walk.specs.Items.{Direct}
use Rattle.c_walk.specs.Places.{direct}
use Rattle.c_sites.specs.Names.{site_leaves}
use Rattle.c_meaning.specs.State.{Bound, found_in, found_within}
use Rattle.c_meaning.specs.Layout.{cells, variable_kind}
use Rattle.flow_initial.specs.Lengths.{AreFilled, IsFilled}
use Rattle.flow_calls.specs.Placing.{Local, Sites}
use Rattle.flow_places.specs.Sited.{StandsWhole, AreNamedFrom, AreAllFrom, IsUsedWhole, IsDefinedWhole}
use Rattle.flow_leaves.specs.Kinded.{IsKinded}
use Rattle.flow_leaves.specs.Parts.{IsPart, itself}
use Rattle.flow_leaves.specs.Standing.{root_of, StandsAt}
use Rattle.flow_leaves.specs.CellNames.{cell_names, AreLayered}
use Rattle.flow_leaves.proofs.Layers.{some_same, names_counted, parts_have_names}
use Rattle.flow_leaves.proofs.Places.{places_stand}
use Rattle.flow_leaves.specs.Leaves.{text_in, name_in, leaf_in, HasCells, DirectWholesAreFound}
use Rattle.flow_leaves.proofs.Leaves.{local_instance}
use Rattle.flow_leaves.proofs.Names.{cell_names_are_leaves, leaves_are_cell_names, variable_filled, part_filled}

-- ---- what is there

there : (xs : List Text) (i : ℕ) → i < length xs → slice_get xs i ≡ Some (text_in (slice_get xs i))
there [] i lt = absurd (omega (arith, lt))
there (x ∷ xs) zero lt = refl
there (x ∷ xs) (suc i) lt = there xs i (omega (arith, lt))

-- a part's cell has the name that it has in the whole
part_named : (t : TablesShape) → AreLayered t → (x y : Text) (v o : ℕ) (k j : TypeOf) → variable_kind t v ≡ Some k → IsPart t k x o j y → (i : ℕ) → i < cells t j → slice_get (cell_names t y j) i ≡ Some (leaf_in t x v (o + i))
part_named t l x y v o k j e h i lt =
    let one = parts_have_names t l v k j x y o e h i lt in
    let size = names_counted t x k in
    let at : leaf_in t x v (o + i) ≡ text_in (slice_get (cell_names t x k) (o + i)) = ap (λ p. name_in t x p (o + i)) e in
    sym one.1 ∙ there (cell_names t x k) (o + i) (omega (arith, one.0, size)) ∙ ap Some (sym at)

-- a part of so many cells of its variable
record IsAt (t : TablesShape) (x : Text) (d : Direct) (q : Pointer) : Type 0 where
  kind : TypeOf
  is : variable_kind t d.variable ≡ Some kind
  size : q.size ≡ cells t d.kind
  part : IsPart t kind x (cell_of q) d.kind d.name

parts_are_found : (t : TablesShape) (F : List Bound) (a : NodeShape) (d : Direct) → IsKinded t a → direct a ≡ Some d → found_in d.variable F ≡ None → StandsWhole F t a d.variable (IsAt t (root_of a) d)
parts_are_found t F a d kinded is local = record {
  by = λ k keeps r i s u q e g lt.
      let one = places_stand t k keeps a d kinded is r i s u q g in
      let at : StandsAt t (root_of a) d u q = one.1 in
      let file = ap (found_in d.variable) (one.0.file ∙ e) ∙ local in
      (local_instance (found_within d.variable u.calls) (found_in d.variable u.file) q.instance at.there file, record { kind = at.kind; is = at.is; size = at.size; part = at.part lt });
}

has_cells : (t : TablesShape) → AreLayered t → (x : Text) (d : Direct) (q : Pointer) → IsAt t x d q → HasCells t x d q
has_cells t l x d q h = record { size = h.size; named = part_named t l x d.name d.variable (cell_of q) h.kind d.kind h.is h.part }

whole_by : (F : List Bound) (t : TablesShape) (a : NodeShape) (x : ℕ) (P Q : Pointer → Type 0) → ((q : Pointer) → P q → Q q) → StandsWhole F t a x P → StandsWhole F t a x Q
whole_by F t a x P Q f h = record { by = λ k keeps r i s u q e g lt. let one = h.by k keeps r i s u q e g lt in (one.0, f q one.1) }

pub wholes_are_found : DirectWholesAreFound
wholes_are_found t l F a d kinded is local = whole_by F t a d.variable (IsAt t (root_of a) d) (HasCells t (root_of a) d) (λ q h. has_cells t l (root_of a) d q h) (parts_are_found t F a d kinded is local)

-- ---- by the leaf names of its site

module _ (t : TablesShape) (l : AreLayered t) (S : Sites) (x : Text) (d : Direct) (leaf : (c : ℕ) → S.leaf d.variable c ≡ leaf_in t x d.variable c) where
  named_from : (q : Pointer) → HasCells t x d q → AreNamedFrom S d.variable (site_leaves t.structures (Some d)) (cell_of q) q.size
  named_from q h = λ i lt.
      let size = h.size in
      let is = h.named i (omega (arith, lt, size)) in
      subst (λ (m : Text). Contains (site_leaves t.structures (Some d)) m) (sym (leaf (cell_of q + i)))
      (cell_names_are_leaves t d (leaf_in t x d.variable (cell_of q + i)) (i, slice_get_within (cell_names t d.name d.kind) i (leaf_in t x d.variable (cell_of q + i)) is, get_or_from_slice_get (cell_names t d.name d.kind) i (leaf_in t x d.variable (cell_of q + i)) (leaf_in t x d.variable (cell_of q + i)) is))

  all_from : AreFilled t → (q : Pointer) → IsFilled d.kind → HasCells t x d q → AreAllFrom S d.variable (site_leaves t.structures (Some d)) (cell_of q) q.size
  all_from filled q fit h = λ m has.
      let one = leaves_are_cell_names t filled d fit m has in
      let size = h.size in
      let counted = names_counted t d.name d.kind in
      let within : one.0 < cells t d.kind = omega (arith, counted, one.1) in
      (one.0, omega (arith, size, within), leaf (cell_of q + one.0) ∙ some_same (leaf_in t x d.variable (cell_of q + one.0)) m (sym (h.named one.0 within) ∙ slice_get-get_or (cell_names t d.name d.kind) one.0 m one.1 ∙ ap Some one.2))

-- each cell of a variable has one of its leaf names
pub whole_named : (t : TablesShape) → AreLayered t → (d : Direct) → variable_kind t d.variable ≡ Some d.kind → (i : ℕ) → i < cells t d.kind → Contains (site_leaves t.structures (Some d)) (leaf_in t d.name d.variable i)
whole_named t l d e i lt =
    let m = leaf_in t d.name d.variable i in
    let is = part_named t l d.name d.name d.variable 0 d.kind d.kind e itself i lt in
    let at : Some (leaf_in t d.name d.variable (0 + i)) ≡ Some m = ap (λ (c : ℕ). Some (leaf_in t d.name d.variable c)) (omega arith) in
    let there = is ∙ at in
    cell_names_are_leaves t d m (i, slice_get_within (cell_names t d.name d.kind) i m there, get_or_from_slice_get (cell_names t d.name d.kind) i m m there)

-- a use of the whole, and a definition
pub wholes_may_be_told : (t : TablesShape) → AreLayered t → AreFilled t → (S : Sites) (F : List Bound) (a : NodeShape) (d : Direct) (v : Local) → IsKinded t a → direct a ≡ Some d → found_in d.variable F ≡ None
    → v.variable ≡ d.variable → v.names ≡ site_leaves t.structures (Some d) → ((c : ℕ) → S.leaf d.variable c ≡ leaf_in t (root_of a) d.variable c) → IsUsedWhole S F t a (Some v) × (v.parameter ≡ false → IsDefinedWhole S F t a (Some v))
wholes_may_be_told t l filled S F a d v kinded is local e names leaf =
    let x = root_of a in
    let found = parts_are_found t F a d kinded is local in
    let all = site_leaves t.structures (Some d) in
    let used : StandsWhole F t a d.variable (λ q. AreNamedFrom S d.variable all (cell_of q) q.size) =
    whole_by F t a d.variable (IsAt t x d) (λ q. AreNamedFrom S d.variable all (cell_of q) q.size) (λ q h. named_from t l S x d leaf q (has_cells t l x d q h)) found in
    let defined : StandsWhole F t a d.variable (λ q. AreNamedFrom S d.variable all (cell_of q) q.size × AreAllFrom S d.variable all (cell_of q) q.size) =
    whole_by F t a d.variable (IsAt t x d) (λ q. AreNamedFrom S d.variable all (cell_of q) q.size × AreAllFrom S d.variable all (cell_of q) q.size)
    (λ q h. let has = has_cells t l x d q h in (named_from t l S x d leaf q has, all_from t l S x d leaf filled q (part_filled t filled h.kind x (cell_of q) d.kind d.name (variable_filled t filled d.variable h.kind h.is) h.part) has)) found in (
      subst (λ (y : ℕ). StandsWhole F t a y (λ q. AreNamedFrom S y v.names (cell_of q) q.size)) (sym e)
          (subst (λ (ns : List Text). StandsWhole F t a d.variable (λ q. AreNamedFrom S d.variable ns (cell_of q) q.size)) (sym names) used),
      λ other. (
        other,
        subst (λ (y : ℕ). StandsWhole F t a y (λ q. AreNamedFrom S y v.names (cell_of q) q.size × AreAllFrom S y v.names (cell_of q) q.size)) (sym e)
            (subst (λ (ns : List Text). StandsWhole F t a d.variable (λ q. AreNamedFrom S d.variable ns (cell_of q) q.size × AreAllFrom S d.variable ns (cell_of q) q.size)) (sym names) defined),
      ),
    )
