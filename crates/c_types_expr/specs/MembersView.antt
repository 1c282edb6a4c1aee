-- The fields of a member list, wherever they lie in memory.
use Rattle.std.specs.Prelude.{List, map}
use Rattle.c_tables.specs.Tables.{FieldShape, field_shape}
use Rattle.c_types_expr.specs.declared.fields.Members.{Members}

abbrev pub fields_of : Members → List FieldShape
fields_of m = map field_shape m.rows.items
