-- How many cells a type has, counted by its structures (C89, 3.1.2.5).
use Rattle.std.specs.Prelude.{◌≡◌, get_or, Some, ℕ, zero, suc, ◌+◌, ◌*◌, ◌-◌, ◌^◌, min, List, [], ◌∷◌}
use Rattle.c_base.specs.Kept.{kept}
use Rattle.c_syntax.specs.Shape.{TypeOf, int, pointer, array, structure}
use Rattle.c_tables.specs.Tables.{StructShape, FieldShape, TablesShape}
use Rattle.c_tables.specs.Rows.{row, fields_in}
use Rattle.c_meaning.specs.Layout.{cells, variable_kind}

-- what its elements are, where it is an array, one in another
abbrev pub element : TypeOf → TypeOf
element (array t n) = element t
element t = t

-- how many such elements there are
abbrev pub elements : TypeOf → ℕ
elements (array t n) = n * elements t
elements t = 1

-- of a structure with these fields, where a type has so many
abbrev pub field_count : (TypeOf → ℕ) → List FieldShape → ℕ
field_count inner [] = 0
field_count inner (f ∷ fs) = inner f.kind + field_count inner fs

-- of a type that is no array
abbrev pub element_count : (TypeOf → ℕ) → List StructShape → TypeOf → ℕ
element_count inner rows (int k) = 1
element_count inner rows (pointer t) = 1
element_count inner rows (structure n) = field_count inner (fields_in (row rows n))
element_count inner rows _ = 0

-- of a type in which structures lie no deeper one in another than that
abbrev pub scalar_count : ℕ → List StructShape → TypeOf → ℕ
scalar_count zero rows t = 0
scalar_count (suc depth) rows t = elements t * element_count (scalar_count depth rows) rows (element t)

-- ---- the cells of variables, kept in a table

-- each number is that of its variable, or 0 where its cells aren't yet counted
abbrev pub IsMeasured : TablesShape → List ℕ → Type 0
IsMeasured t sizes = (v : ℕ) (k : TypeOf) → variable_kind t v ≡ Some k → (get_or sizes v 0 ≡ 0 → ⊥) → get_or sizes v 0 ≡ kept (cells t k)
