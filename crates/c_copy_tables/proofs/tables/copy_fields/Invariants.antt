use Rattle.std.proofs.Common.{◌≡◌, map, take}
use Rattle.c_tables.specs.Tables.{field_shape}
use Rattle.c_copy_tables.proofs.tables.copy_fields.Given as goal

abbrev pub invariant-loop-field : goal.invariant-loop-field
invariant-loop-field l = map field_shape l.copies.items ≡ map field_shape (take l.field-index l.fields)
