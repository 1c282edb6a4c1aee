use Rattle.std.proofs.Common.{◌≡◌, ◌≤◌, drop, map}
use Rattle.c_tables.specs.Tables.{tables_shape, field_shape}
use Rattle.c_meaning.specs.Layout.{part_from}
use Rattle.c_compute.specs.Parts.{kept_part}
use Rattle.c_compute.proofs.layout.part_among.Given as goal

abbrev pub invariant-loop-field : goal.invariant-loop-field
invariant-loop-field l =
    record {
      rest : kept_part (part_from (tables_shape l.tables) l.offset l.name (map field_shape (drop l.field-index l.fields))) ≡ kept_part (part_from (tables_shape l.tables) 0 l.name (map field_shape l.fields));
      small : l.offset ≤ 4294967295;
    }
