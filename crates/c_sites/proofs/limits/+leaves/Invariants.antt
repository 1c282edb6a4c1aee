use Rattle.std.proofs.Common.{◌≡◌, ◌+◌, ◌*◌, ◌≤◌, drop, map}
use Rattle.c_tables.specs.Tables.{tables_shape, field_shape}
use Rattle.c_sites.specs.Counts.{field_counts, leaf_count}
use Rattle.c_sites.specs.Limits.{kept}
use Rattle.c_sites.proofs.limits.+leaves.Given as goal

abbrev pub decreases-leaf_count : goal.decreases-leaf_count
decreases-leaf_count a = 3 * a.depth

abbrev pub decreases-field_counts : goal.decreases-field_counts
decreases-field_counts a = 3 * a.depth + 2

abbrev pub decreases-fields_count : goal.decreases-fields_count
decreases-fields_count a = 3 * a.depth + 1

abbrev pub invariant-fields_count-loop-field : goal.invariant-fields_count-loop-field
invariant-fields_count-loop-field l =
    let inner = leaf_count l.depth (tables_shape l.tables).structures in
    record {
      rest : kept (l.count + field_counts inner (map field_shape (drop l.field-index l.fields))) ≡ kept (field_counts inner (map field_shape l.fields));
      small : l.count ≤ 4294967295;
    }
