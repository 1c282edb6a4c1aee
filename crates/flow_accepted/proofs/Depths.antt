-- How deep structures lie in structures, where each variable's type is one in which no structure lies in itself.
use Rattle.std.proofs.Common.{◌≡◌, ℕ, zero, suc, ◌-◌, ◌<◌, ◌≤◌, List, [], ◌∷◌, length, Some, None, nat_eq, Bool, true, false, refl, ap₂, subst, arith}
use Rattle.std.specs.Prelude.{max, slice_get, if◌then◌else◌}
use Rattle.std.specs.List.{AllByRecursion}
use Rattle.c_syntax.specs.Shape.{TypeOf, int, pointer, array, structure, nothing}
use Rattle.c_tables.specs.Tables.{FieldShape, StructShape, VariableShape, TablesShape}
use Rattle.c_tables.specs.Rows.{row, fields_in}
use Rattle.c_meaning.specs.Layout.{kind_in}
use Rattle.flow_values.specs.Made.{IsOver, IsNested}
use Rattle.flow_leaves.specs.CellNames.{depth_in, AreLayered}

-- ---- depths

-- one more than the deepest field's, where these are the depths of structures
abbrev fields_depth : (ℕ → ℕ) → List FieldShape → ℕ
fields_depth depths [] = 0
fields_depth depths (f ∷ fs) = max (suc (depth_in depths f.kind)) (fields_depth depths fs)

-- of a structure, as far as one looks; what lies deeper counts as one
abbrev pub depth_to : ℕ → List StructShape → ℕ → ℕ
depth_to zero rows n = 1
depth_to (suc d) rows n = fields_depth (depth_to d rows) (fields_in (row rows n))

max_least : (a b c : ℕ) → a ≤ c → b ≤ c → max a b ≤ c
max_least a b c h g = omega (arith, h, g)

max_left : (a b : ℕ) → a ≤ max a b
max_left a b = omega arith

max_right : (a b : ℕ) → b ≤ max a b
max_right a b = omega arith

fields_below : (depths : ℕ → ℕ) (m : ℕ) (fs : List FieldShape) → fields_depth depths fs ≤ m → AllByRecursion (λ (f : FieldShape). depth_in depths f.kind < m) fs
fields_below depths m [] h = tt
fields_below depths m (f ∷ fs) h =
    let one = max_left (suc (depth_in depths f.kind)) (fields_depth depths fs) in
    let rest = max_right (suc (depth_in depths f.kind)) (fields_depth depths fs) in
    (omega (arith, h, one), fields_below depths m fs (omega (arith, h, rest)))

fields_least : (depths : ℕ → ℕ) (m : ℕ) (fs : List FieldShape) → AllByRecursion (λ (f : FieldShape). depth_in depths f.kind < m) fs → fields_depth depths fs ≤ m
fields_least depths m [] h = omega arith
fields_least depths m (f ∷ fs) h = max_least (suc (depth_in depths f.kind)) (fields_depth depths fs) m (omega (arith, h.0)) (fields_least depths m fs h.1)

-- ---- what is less deep than one looks is as deep if one looks further

type_same : (f g : ℕ → ℕ) (m : ℕ) → ((n : ℕ) → f n < m → g n ≡ f n) → (k : TypeOf) → depth_in f k < m → depth_in g k ≡ depth_in f k
type_same f g m h (int k) lt = refl
type_same f g m h (pointer k) lt = refl
type_same f g m h (array k c) lt = type_same f g m h k lt
type_same f g m h (structure n) lt = h n lt
type_same f g m h nothing lt = refl

fields_same : (f g : ℕ → ℕ) (m : ℕ) → ((n : ℕ) → f n < m → g n ≡ f n) → (fs : List FieldShape) → AllByRecursion (λ (x : FieldShape). depth_in f x.kind < m) fs → fields_depth g fs ≡ fields_depth f fs
fields_same f g m h [] all = refl
fields_same f g m h (x ∷ fs) all = ap₂ (λ (a b : ℕ). max (suc a) b) (type_same f g m h x.kind all.0) (fields_same f g m h fs all.1)

further : (d : ℕ) (rows : List StructShape) (n : ℕ) → depth_to d rows n < d → depth_to (suc d) rows n ≡ depth_to d rows n
further zero rows n lt = absurd (omega (arith, lt))
further (suc d) rows n lt =
    let fs = fields_in (row rows n) in
    fields_same (depth_to d rows) (depth_to (suc d) rows) d (further d rows) fs (fields_below (depth_to d rows) d fs (omega (arith, lt)))

below_all : (f g : ℕ → ℕ) (m b : ℕ) → b ≤ m → ((n : ℕ) → f n < m → g n ≡ f n) → (fs : List FieldShape) → AllByRecursion (λ (x : FieldShape). depth_in f x.kind < b) fs → AllByRecursion (λ (x : FieldShape). depth_in g x.kind < b) fs
below_all f g m b le h [] all = tt
below_all f g m b le h (x ∷ fs) all = let one = all.0 in let same = type_same f g m h x.kind (omega (arith, one, le)) in (omega (arith, one, same), below_all f g m b le h fs all.1)

fields_deeper : (rows : List StructShape) (n d : ℕ) → depth_to (suc d) rows n ≤ d → AllByRecursion (λ (f : FieldShape). depth_in (depth_to (suc d) rows) f.kind < depth_to (suc d) rows n) (fields_in (row rows n))
fields_deeper rows n d small =
    let fs = fields_in (row rows n) in
    below_all (depth_to d rows) (depth_to (suc d) rows) d (depth_to (suc d) rows n) small (further d rows) fs (fields_below (depth_to d rows) (depth_to (suc d) rows n) fs (omega arith))

-- ---- nested types are no deeper

no_fields : (depths : ℕ → ℕ) (fs : List FieldShape) → AllByRecursion (λ (f : FieldShape). ⊥) fs → fields_depth depths fs ≤ 0
no_fields depths [] h = omega arith
no_fields depths (f ∷ fs) h = absurd h.0

all_below : (P : TypeOf → Type 0) (depths : ℕ → ℕ) (m : ℕ) → ((k : TypeOf) → P k → depth_in depths k < m) → (fs : List FieldShape) → AllByRecursion (λ (f : FieldShape). P f.kind) fs → AllByRecursion (λ (f : FieldShape). depth_in depths f.kind < m) fs
all_below P depths m g [] h = tt
all_below P depths m g (f ∷ fs) h = (g f.kind h.0, all_below P depths m g fs h.1)

over_shallow : (P : TypeOf → Type 0) (rows : List StructShape) (depths : ℕ → ℕ) (m : ℕ) → ((n : ℕ) → AllByRecursion (λ (f : FieldShape). P f.kind) (fields_in (row rows n)) → depths n ≤ m) → (k : TypeOf) → IsOver P rows k → depth_in depths k ≤ m
over_shallow P rows depths m g (array k n) h = over_shallow P rows depths m g k h
over_shallow P rows depths m g (structure n) h = g n h
over_shallow P rows depths m g (int k) h = omega arith
over_shallow P rows depths m g (pointer k) h = omega arith
over_shallow P rows depths m g nothing h = omega arith

shallow : (d : ℕ) (rows : List StructShape) (k : TypeOf) → IsNested (suc d) rows k → depth_in (depth_to (suc d) rows) k ≤ d
shallow zero rows k h = over_shallow (IsNested zero rows) rows (depth_to 1 rows) 0 (λ n g. no_fields (depth_to 0 rows) (fields_in (row rows n)) g) k h
shallow (suc d) rows k h =
    over_shallow (IsNested (suc d) rows) rows (depth_to (suc (suc d)) rows) (suc d)
    (λ n g. fields_least (depth_to (suc d) rows) (suc d) (fields_in (row rows n)) (all_below (IsNested (suc d) rows) (depth_to (suc d) rows) (suc d) (λ j i. let one = shallow d rows j i in omega (arith, one)) (fields_in (row rows n)) g)) k h

-- ---- tables

-- no structure lies in itself, in a type of these
abbrev pub AreNested : TablesShape → List VariableShape → Type 0
AreNested t vs = AllByRecursion (λ (v : VariableShape). IsNested (suc (length t.structures)) t.structures v.kind) vs

one_of : (P : TypeOf → Type 0) (vs : List VariableShape) (i : ℕ) (k : TypeOf) → AllByRecursion (λ (v : VariableShape). P v.kind) vs → kind_in (slice_get vs i) ≡ Some k → P k
one_of P [] i k h e = cc
one_of P (v ∷ vs) zero k h e = let same : v.kind ≡ k = cc in subst P same h.0
one_of P (v ∷ vs) (suc i) k h e = one_of P vs i k h.1 e

in_rows : (P : TypeOf → Type 0) (vs : List VariableShape) (b : Bool) (i : ℕ) (k : TypeOf) → AllByRecursion (λ (v : VariableShape). P v.kind) vs → kind_in (if b then None else slice_get vs i) ≡ Some k → P k
in_rows P vs true i k h e = cc
in_rows P vs false i k h e = one_of P vs i k h e

pub nested_layered : (t : TablesShape) → AreNested t t.variables → AreLayered t
nested_layered t h =
    let size = length t.structures in
    let depths = depth_to (suc size) t.structures in
    record {
      depths = depths;
      below = λ n small. fields_deeper t.structures n size small;
      few = λ v k e. shallow size t.structures k (in_rows (IsNested (suc size) t.structures) t.variables (nat_eq v 0) (v - 1) k h e);
    }
