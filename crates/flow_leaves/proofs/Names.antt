-- The names of the cells of a place are the leaf names that its site is listed with.
use Rattle.std.proofs.Common.{inl, inr, ◌≡◌, ℕ, zero, suc, ◌+◌, ◌-◌, ◌≤◌, ◌++◌, List, [], ◌∷◌, length, subst, arith, Some, None, Bool, true, false}
use Rattle.std.specs.Prelude.{Contains, slice_get, nat_eq, bytes_eq, if◌then◌else◌}
use Rattle.std.specs.List.{repeat, AllByRecursion}
use Rattle.std.proofs.lemmas.List.Elements.{Contains-append_left, Contains-append_right, Contains-append_cases}
use Rattle.c_syntax.specs.declared.text.Text.{Text}
use Rattle.c_syntax.specs.Shape.{TypeOf, int, pointer, array, structure, nothing}
use Rattle.c_tables.specs.Tables.{StructShape, FieldShape, VariableShape, TablesShape}
use Rattle.c_tables.specs.Rows.{row, fields_in}
use Rattle.c_walk.specs.Places.{element_text, field_text}
use Rattle.c_sites.specs.Names.{field_leaves, type_leaves, leaves, depth_of}
use Rattle.c_meaning.specs.Layout.{Part, cells, kind_in, part_from, variable_kind}
use Rattle.flow_initial.specs.Lengths.{IsFilled, HasFilledFields, AreFilled}
use Rattle.flow_leaves.specs.Parts.{IsPart, itself, element, member}
use Rattle.flow_leaves.specs.CellNames.{field_names, type_names, names_to}
use Rattle.flow_leaves.proofs.Layers.{some_same}
use Rattle.flow_leaves.specs.LeafNames.{CellNamesAreLeaves, LeavesAreCellNames}

-- ---- lists

none_in : {A : Type 0} {B : Type 0} (x : A) → Contains [] x → B
none_in x h = let lt = h.1 in absurd (omega (arith, lt))

in_repeated : {A : Type 0} (n : ℕ) (xs : List A) (x : A) → Contains (repeat n xs) x → Contains xs x
in_repeated zero xs x h = none_in x h
in_repeated (suc n) xs x h = elim (Contains-append_cases xs (repeat n xs) x h) [ inl a ↦ a | inr b ↦ in_repeated n xs x b ]

repeated_in : {A : Type 0} (n : ℕ) (xs : List A) (x : A) → 1 ≤ n → Contains xs x → Contains (repeat n xs) x
repeated_in zero xs x le h = absurd (omega (arith, le))
repeated_in (suc n) xs x le h = Contains-append_left xs (repeat n xs) x h

module _ (rows : List StructShape) where
  -- ---- a cell's name is a leaf name

  abbrev AreAmong : (Text → TypeOf → List Text) → (Text → TypeOf → List Text) → Type 0
  AreAmong names all = (x : Text) (k : TypeOf) (m : Text) → Contains (names x k) m → Contains (all x k) m

  fields_among : (names all : Text → TypeOf → List Text) → AreAmong names all → (x : Text) (fs : List FieldShape) (m : Text) → Contains (field_names names x fs) m → Contains (field_leaves all x fs) m
  fields_among names all h x [] m g = g
  fields_among names all h x (f ∷ fs) m g =
      let z = x ++ field_text f.name in
      elim (Contains-append_cases (names z f.kind) (field_names names x fs) m g) [
        | inl a ↦ Contains-append_left (all z f.kind) (field_leaves all x fs) m (h z f.kind m a)
        | inr b ↦ Contains-append_right (all z f.kind) (field_leaves all x fs) m (fields_among names all h x fs m b)
      ]

  type_among : (names all : Text → TypeOf → List Text) → AreAmong names all → AreAmong (type_names names rows) (type_leaves all rows)
  type_among names all h x (int k) m g = g
  type_among names all h x (pointer t) m g = g
  type_among names all h x (array t n) m g = type_among names all h (x ++ element_text) t m (in_repeated n (type_names names rows (x ++ element_text) t) m g)
  type_among names all h x (structure n) m g = fields_among names all h x (fields_in (row rows n)) m g
  type_among names all h x nothing m g = g

  among : (depth : ℕ) → AreAmong (names_to depth rows) (leaves depth rows)
  among zero x k m g = g
  among (suc depth) x k m g = type_among (names_to depth rows) (leaves depth rows) (among depth) x k m g

  -- ---- and a leaf name is a cell's, where each array has an element

  abbrev HasAll : (Text → TypeOf → List Text) → (Text → TypeOf → List Text) → Type 0
  HasAll names all = (x : Text) (k : TypeOf) → IsFilled k → (m : Text) → Contains (all x k) m → Contains (names x k) m

  abbrev HasFilled : Type 0
  HasFilled = (n : ℕ) → AllByRecursion (λ (f : FieldShape). IsFilled f.kind) (fields_in (row rows n))

  fields_all : (names all : Text → TypeOf → List Text) → HasAll names all → (x : Text) (fs : List FieldShape) → AllByRecursion (λ (f : FieldShape). IsFilled f.kind) fs → (m : Text) → Contains (field_leaves all x fs) m → Contains (field_names names x fs) m
  fields_all names all h x [] fit m g = g
  fields_all names all h x (f ∷ fs) fit m g =
      let z = x ++ field_text f.name in
      elim (Contains-append_cases (all z f.kind) (field_leaves all x fs) m g) [
        | inl a ↦ Contains-append_left (names z f.kind) (field_names names x fs) m (h z f.kind fit.0 m a)
        | inr b ↦ Contains-append_right (names z f.kind) (field_names names x fs) m (fields_all names all h x fs fit.1 m b)
      ]

  type_all : (names all : Text → TypeOf → List Text) → HasFilled → HasAll names all → HasAll (type_names names rows) (type_leaves all rows)
  type_all names all filled h x (int k) fit m g = g
  type_all names all filled h x (pointer t) fit m g = g
  type_all names all filled h x (array t n) fit m g =
      repeated_in n (type_names names rows (x ++ element_text) t) m fit.0 (type_all names all filled h (x ++ element_text) t fit.1 m g)
  type_all names all filled h x (structure n) fit m g = fields_all names all h x (fields_in (row rows n)) (filled n) m g
  type_all names all filled h x nothing fit m g = g

  has_all : HasFilled → (depth : ℕ) → HasAll (names_to depth rows) (leaves depth rows)
  has_all filled zero x k fit m g = g
  has_all filled (suc depth) x k fit m g = type_all (names_to depth rows) (leaves depth rows) filled (has_all filled depth) x k fit m g

-- ---- filled tables

fields_filled : (rows : List StructShape) → AllByRecursion HasFilledFields rows → (b : Bool) (i : ℕ) → AllByRecursion (λ (f : FieldShape). IsFilled f.kind) (fields_in (if b then None else slice_get rows i))
fields_filled rows h true i = tt
fields_filled [] h false i = tt
fields_filled (r ∷ rows) h false zero = h.0
fields_filled (r ∷ rows) h false (suc i) = fields_filled rows h.1 false i

kind_filled : (vs : List VariableShape) → AllByRecursion (λ (v : VariableShape). IsFilled v.kind) vs → (b : Bool) (i : ℕ) (k : TypeOf) → kind_in (if b then None else slice_get vs i) ≡ Some k → IsFilled k
kind_filled vs h true i k e = cc
kind_filled [] h false i k e = cc
kind_filled (v ∷ vs) h false zero k e = subst IsFilled (some_same v.kind k e) h.0
kind_filled (v ∷ vs) h false (suc i) k e = kind_filled vs h.1 false i k e

module _ (t : TablesShape) (filled : AreFilled t) where
  structure_filled : (n : ℕ) → AllByRecursion (λ (f : FieldShape). IsFilled f.kind) (fields_in (row t.structures n))
  structure_filled n = fields_filled t.structures filled.0 (nat_eq n 0) (n - 1)

  pub variable_filled : (v : ℕ) (k : TypeOf) → variable_kind t v ≡ Some k → IsFilled k
  variable_filled v k e = kind_filled t.variables filled.1 (nat_eq v 0) (v - 1) k e

  -- a field of a structure
  either_filled : (a : ℕ) (f : Text) (g : FieldShape) (fs : List FieldShape) (p : Part) (b : Bool) → IsFilled g.kind → (part_from t (a + cells t g.kind) f fs ≡ Some p → IsFilled p.kind)
      → (if b then Some (record { offset = a; kind = g.kind }) else part_from t (a + cells t g.kind) f fs) ≡ Some p → IsFilled p.kind
  either_filled a f g fs p true here later is = subst (λ (p : Part). IsFilled p.kind) (some_same _ p is) here
  either_filled a f g fs p false here later is = later is

  field_filled : (a : ℕ) (f : Text) (fs : List FieldShape) (p : Part) → AllByRecursion (λ (g : FieldShape). IsFilled g.kind) fs → part_from t a f fs ≡ Some p → IsFilled p.kind
  field_filled a f [] p all is = cc
  field_filled a f (g ∷ fs) p all is = either_filled a f g fs p (bytes_eq f g.name) all.0 (field_filled (a + cells t g.kind) f fs p all.1) is

  -- a part of what is filled is filled
  pub part_filled : (k : TypeOf) (x : Text) (o : ℕ) (j : TypeOf) (y : Text) → IsFilled k → IsPart t k x o j y → IsFilled j
  part_filled k x o j y fit itself = fit
  part_filled k x o j y fit (element p n i y2 z h lt) = (part_filled k x p (array y2 n) z fit h).1
  part_filled k x o j y fit (member p m z f q h is) = field_filled 0 f (fields_in (row t.structures m)) q (structure_filled m) is

-- ---- the laws

pub cell_names_are_leaves : CellNamesAreLeaves
cell_names_are_leaves t d m h =
    let e : suc (length t.structures) ≡ depth_of t.structures = omega arith in
    subst (λ (n : ℕ). Contains (leaves n t.structures d.name d.kind) m) e (among t.structures (suc (length t.structures)) d.name d.kind m h)

pub leaves_are_cell_names : LeavesAreCellNames
leaves_are_cell_names t filled d fit m h =
    let e : depth_of t.structures ≡ suc (length t.structures) = omega arith in
    has_all t.structures (structure_filled t filled) (suc (length t.structures)) d.name d.kind fit m (subst (λ (n : ℕ). Contains (leaves n t.structures d.name d.kind) m) e h)
