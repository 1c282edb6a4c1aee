-- The cells of an object: one for each of its scalars, in order (C89, 3.1.2.5).
use Rattle.std.specs.Prelude.{ℕ, zero, suc, ◌+◌, ◌++◌, List, [], ◌∷◌, length, map, bytes_eq, pos, Option, Some, None, if◌then◌else◌}
use Rattle.std.specs.List.{repeat}
use Rattle.c_syntax.specs.declared.text.Text.{Text}
use Rattle.c_syntax.specs.Shape.{TypeOf, int, pointer, array, structure, nothing}
use Rattle.c_store.specs.declared.value.Value.{Value}
use Rattle.c_store.specs.declared.value.Value.TheVariants.{Int, Null}
use Rattle.c_tables.specs.Tables.{StructShape, FieldShape, VariableShape, TablesShape}
use Rattle.c_tables.specs.Rows.{row, fields_in}

-- ---- scalars

-- of each field, where these are the scalars of a type
abbrev pub field_scalars : (TypeOf → List TypeOf) → List FieldShape → List TypeOf
field_scalars inner [] = []
field_scalars inner (f ∷ fs) = inner f.kind ++ field_scalars inner fs

abbrev pub type_scalars : (TypeOf → List TypeOf) → List StructShape → TypeOf → List TypeOf
type_scalars inner rows (int k) = int k ∷ []
type_scalars inner rows (pointer t) = pointer t ∷ []
type_scalars inner rows (array t n) = repeat n (type_scalars inner rows t)
type_scalars inner rows (structure n) = field_scalars inner (fields_in (row rows n))
type_scalars inner rows nothing = []

-- of a type in which structures lie no deeper one in another than that
abbrev pub scalars_to : ℕ → List StructShape → TypeOf → List TypeOf
scalars_to zero rows t = []
scalars_to (suc depth) rows t = type_scalars (scalars_to depth rows) rows t

-- no structure lies in itself
abbrev pub scalars : TablesShape → TypeOf → List TypeOf
scalars t k = scalars_to (suc (length t.structures)) t.structures k

abbrev pub cells : TablesShape → TypeOf → ℕ
cells t k = length (scalars t k)

-- ---- zeros, and nulls

abbrev pub zero_of : TypeOf → Option Value
zero_of (int k) = Some (Int (pos 0))
zero_of k = Some Null

abbrev pub zeros : TablesShape → TypeOf → List (Option Value)
zeros t k = map zero_of (scalars t k)

-- ---- fields

-- how many cells stand before a field in its structure, and its type
pub record Part : Type 0 where
  pub offset : ℕ
  pub kind : TypeOf

-- the field of that name among those that begin at the offset
abbrev pub part_from : TablesShape → ℕ → Text → List FieldShape → Option Part
part_from t offset x [] = None
part_from t offset x (f ∷ fs) =
    if bytes_eq x f.name then Some (record { offset = offset; kind = f.kind }) else part_from t (offset + cells t f.kind) x fs

abbrev pub part_in : TablesShape → Text → TypeOf → Option Part
part_in t x (structure n) = part_from t 0 x (fields_in (row t.structures n))
part_in t x k = None

-- ---- variables

abbrev pub kind_in : Option VariableShape → Option TypeOf
kind_in None = None
kind_in (Some v) = Some v.kind

abbrev pub variable_kind : TablesShape → ℕ → Option TypeOf
variable_kind t n = kind_in (row t.variables n)
