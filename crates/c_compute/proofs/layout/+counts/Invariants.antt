use Rattle.std.proofs.Common.{◌≡◌, ◌+◌, ◌*◌, ◌≤◌, drop, map}
use Rattle.c_tables.specs.Tables.{tables_shape, field_shape}
use Rattle.c_compute.specs.Sizes.{field_count, scalar_count}
use Rattle.c_base.specs.Kept.{kept}
use Rattle.c_compute.proofs.layout.+counts.Given as goal

abbrev pub decreases-scalar_count : goal.decreases-scalar_count
decreases-scalar_count a = 4 * a.depth

abbrev pub decreases-element_count : goal.decreases-element_count
decreases-element_count a = 4 * a.depth + 3

abbrev pub decreases-structure_count : goal.decreases-structure_count
decreases-structure_count a = 4 * a.depth + 2

abbrev pub decreases-field_count : goal.decreases-field_count
decreases-field_count a = 4 * a.depth + 1

abbrev pub invariant-field_count-loop-field : goal.invariant-field_count-loop-field
invariant-field_count-loop-field l =
    let inner = scalar_count l.depth (tables_shape l.tables).structures in
    record {
      rest : kept (l.count + field_count inner (map field_shape (drop l.field-index l.fields))) ≡ kept (field_count inner (map field_shape l.fields));
      small : l.count ≤ 4294967295;
    }
