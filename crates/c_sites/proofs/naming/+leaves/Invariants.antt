use Rattle.std.proofs.Common.{◌+◌, ◌*◌, map, take}
use Rattle.c_tables.specs.Tables.{tables_shape, field_shape}
use Rattle.c_sites.specs.Names.{field_leaves, leaves}
use Rattle.c_sites.specs.SpellingView.{IsNamed}
use Rattle.c_sites.proofs.naming.+leaves.Given as goal

abbrev pub decreases-put_leaves : goal.decreases-put_leaves
decreases-put_leaves a = 5 * a.depth

abbrev pub decreases-put_field : goal.decreases-put_field
decreases-put_field a = 5 * a.depth + 1

abbrev pub decreases-put_fields : goal.decreases-put_fields
decreases-put_fields a = 5 * a.depth + 2

abbrev pub decreases-put_structure : goal.decreases-put_structure
decreases-put_structure a = 5 * a.depth + 3

abbrev pub decreases-put_element : goal.decreases-put_element
decreases-put_element a = 5 * a.depth + 4

-- the fields so far are named
abbrev pub invariant-put_fields-loop-field : goal.invariant-put_fields-loop-field
invariant-put_fields-loop-field l =
    IsNamed l.initial.names l.names l.initial.site l.site (field_leaves (leaves l.depth (tables_shape l.tables).structures) l.initial.site.text.items (map field_shape (take l.field-index l.fields)))
