-- How many leaf names a place has.
use Rattle.std.specs.Prelude.{ℕ, zero, suc, ◌+◌, List, [], ◌∷◌}
use Rattle.c_syntax.specs.Shape.{TypeOf, int, pointer, structure}
use Rattle.c_tables.specs.Tables.{StructShape, FieldShape}
use Rattle.c_tables.specs.Rows.{row, fields_in}
use Rattle.c_sites.specs.Elements.{element}

abbrev pub field_counts : (TypeOf → ℕ) → List FieldShape → ℕ
field_counts inner [] = 0
field_counts inner (f ∷ fs) = inner f.kind + field_counts inner fs

-- of a type that is no array
abbrev pub element_count : (TypeOf → ℕ) → List StructShape → TypeOf → ℕ
element_count inner rows (int k) = 1
element_count inner rows (pointer t) = 1
element_count inner rows (structure n) = field_counts inner (fields_in (row rows n))
element_count inner rows _ = 0

abbrev pub leaf_count : ℕ → List StructShape → TypeOf → ℕ
leaf_count zero rows t = 0
leaf_count (suc depth) rows t = element_count (leaf_count depth rows) rows (element t)
