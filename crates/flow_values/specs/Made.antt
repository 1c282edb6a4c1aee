-- Variables of file scope that were made, of types that have room.
use Rattle.std.specs.Prelude.{◌≡◌, ℕ, zero, suc, ◌≤◌, List, true, is_some, length, Some}
use Rattle.std.specs.List.{AllByRecursion}
use Rattle.c_syntax.specs.Shape.{TypeOf, int, pointer, array, structure, nothing}
use Rattle.c_tables.specs.Tables.{FieldShape, StructShape, VariableShape, TablesShape}
use Rattle.c_tables.specs.Rows.{row, fields_in}
use Rattle.c_meaning.specs.State.{Bound, found_in}
use Rattle.c_meaning.specs.Layout.{cells}
use Rattle.c_meaning.specs.Places.{room}
use Rattle.flow_values.specs.Bodies.{ConstantsHaveValues}

-- a type in which structures lie no deeper one in another than that, where the types of fields are inner ones
abbrev pub IsOver : (TypeOf → Type 0) → List StructShape → TypeOf → Type 0
IsOver inner rows (array k n) = IsOver inner rows k
IsOver inner rows (structure n) = AllByRecursion (λ (f : FieldShape). inner f.kind) (fields_in (row rows n))
IsOver inner rows (int k) = Unit {0}
IsOver inner rows (pointer k) = Unit {0}
IsOver inner rows nothing = Unit {0}

abbrev pub IsNested : ℕ → List StructShape → TypeOf → Type 0
IsNested zero rows k = ⊥
IsNested (suc depth) rows k = IsOver (IsNested depth rows) rows k

-- no structure lies in itself, and there are no more cells than may live
abbrev pub HasRoom : TablesShape → TypeOf → Type 0
HasRoom t k = IsNested (suc (length t.structures)) t.structures k × (cells t k ≤ room)

-- each variable of file scope has room, and stands for an instance
abbrev pub HaveRoom : TablesShape → Type 0
HaveRoom t = (n : ℕ) (v : VariableShape) → row t.variables n ≡ Some v → v.function ≡ 0 → HasRoom t v.kind

abbrev pub AreBound : TablesShape → List Bound → Type 0
AreBound t b = (n : ℕ) (v : VariableShape) → row t.variables n ≡ Some v → v.function ≡ 0 → is_some (found_in n b) ≡ true

-- then what typing takes for a constant initialiser has a value
abbrev pub MadeGiveConstants : Type 0
MadeGiveConstants = (t : TablesShape) (b : List Bound) → HaveRoom t → AreBound t b → ConstantsHaveValues t b
