-- The names of the cells of an object, one for each scalar in it, in order: the elements of an array have one in common.
use Rattle.std.specs.Prelude.{◌≡◌, ◌<◌, ◌≤◌, ℕ, zero, suc, ◌+◌, ◌++◌, List, [], ◌∷◌, length, slice_get, Some}
use Rattle.std.specs.List.{repeat, AllByRecursion}
use Rattle.c_syntax.specs.declared.text.Text.{Text}
use Rattle.c_syntax.specs.Shape.{TypeOf, int, pointer, array, structure, nothing}
use Rattle.c_tables.specs.Tables.{StructShape, FieldShape, TablesShape}
use Rattle.c_tables.specs.Rows.{row, fields_in}
use Rattle.c_walk.specs.Places.{element_text, field_text}
use Rattle.c_meaning.specs.Layout.{cells, variable_kind}
use Rattle.flow_leaves.specs.Parts.{IsPart}

-- of each field of an object with that name, where these are the names of what has that name and type
abbrev pub field_names : (Text → TypeOf → List Text) → Text → List FieldShape → List Text
field_names inner x [] = []
field_names inner x (f ∷ fs) = inner (x ++ field_text f.name) f.kind ++ field_names inner x fs

abbrev pub type_names : (Text → TypeOf → List Text) → List StructShape → Text → TypeOf → List Text
type_names inner rows x (int k) = x ∷ []
type_names inner rows x (pointer t) = x ∷ []
type_names inner rows x (array t n) = repeat n (type_names inner rows (x ++ element_text) t)
type_names inner rows x (structure n) = field_names inner x (fields_in (row rows n))
type_names inner rows x nothing = []

-- of an object in which structures lie no deeper one in another than that
abbrev pub names_to : ℕ → List StructShape → Text → TypeOf → List Text
names_to zero rows x t = []
names_to (suc depth) rows x t = type_names (names_to depth rows) rows x t

abbrev pub cell_names : TablesShape → Text → TypeOf → List Text
cell_names t x k = names_to (suc (length t.structures)) t.structures x k

-- ---- structures in structures

-- how deep structures lie in that type, where these are the depths of structures
abbrev pub depth_in : (ℕ → ℕ) → TypeOf → ℕ
depth_in depths (structure n) = depths n
depth_in depths (array k n) = depth_in depths k
depth_in depths k = 0

-- no structure lies in itself, of those that lie in a variable
pub record AreLayered (t : TablesShape) : Type 0 where
  pub depths : ℕ → ℕ
  pub below : (n : ℕ) → depths n ≤ length t.structures → AllByRecursion (λ (f : FieldShape). depth_in depths f.kind < depths n) (fields_in (row t.structures n))
  pub few : (v : ℕ) (k : TypeOf) → variable_kind t v ≡ Some k → depth_in depths k ≤ length t.structures

-- ---- the law

-- the cells of a part of a variable have the names that they have in the whole
abbrev pub PartsHaveNames : Type 0
PartsHaveNames = (t : TablesShape) → AreLayered t → (v : ℕ) (k j : TypeOf) (x y : Text) (o : ℕ) → variable_kind t v ≡ Some k → IsPart t k x o j y → (i : ℕ) → i < cells t j → (o + i < cells t k) × (slice_get (cell_names t x k) (o + i) ≡ slice_get (cell_names t y j) i)
