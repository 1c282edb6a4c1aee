use Rattle.std.proofs.Common.{◌≡◌, ◌++◌, map, drop}
use Rattle.c_tables.specs.Tables.{tables_shape, field_shape}
use Rattle.c_meaning.specs.Constants.{all_zeros}
use Rattle.c_compute.proofs.zeros.push_field_zeros.Given as goal

abbrev pub invariant-loop-field : goal.invariant-loop-field
invariant-loop-field l = l.cells.items ++ all_zeros (tables_shape l.tables) (map (λ f. f.kind) (map field_shape (drop l.field-index l.fields))) ≡ l.fn.cells.items ++ all_zeros (tables_shape l.tables) (map (λ f. f.kind) (map field_shape l.fields))
