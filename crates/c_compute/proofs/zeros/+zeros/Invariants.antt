use Rattle.std.proofs.Common.{◌≡◌, ◌++◌, ◌+◌, ◌*◌, ◌-◌, map, drop}
use Rattle.std.specs.List.{repeat}
use Rattle.c_syntax.specs.View.{type_of}
use Rattle.c_tables.specs.Tables.{tables_shape, field_shape}
use Rattle.c_meaning.specs.Layout.{field_scalars, scalars_to, zero_of}
use Rattle.c_compute.specs.Cells.{element_scalars}
use Rattle.c_compute.proofs.zeros.+zeros.Given as goal

abbrev pub decreases-push_scalars : goal.decreases-push_scalars
decreases-push_scalars a = 3 * a.depth

abbrev pub decreases-push_element : goal.decreases-push_element
decreases-push_element a = 3 * a.depth + 2

abbrev pub decreases-push_fields : goal.decreases-push_fields
decreases-push_fields a = 3 * a.depth + 1

abbrev pub invariant-push_scalars-loop-left : goal.invariant-push_scalars-loop-left
invariant-push_scalars-loop-left l =
    let rows = (tables_shape l.tables).structures in
    let one = element_scalars (scalars_to (l.depth - 1) rows) rows (type_of l.of) in
    l.cells.items ++ map zero_of (repeat l.left one) ≡ l.fn.cells.items ++ map zero_of (repeat l.count one)

abbrev pub decreases-push_scalars-loop-left : goal.decreases-push_scalars-loop-left
decreases-push_scalars-loop-left l = l.left

abbrev pub invariant-push_fields-loop-field : goal.invariant-push_fields-loop-field
invariant-push_fields-loop-field l =
    let inner = scalars_to l.depth (tables_shape l.tables).structures in
    l.cells.items ++ map zero_of (field_scalars inner (map field_shape (drop l.field-index l.fields))) ≡ l.fn.cells.items ++ map zero_of (field_scalars inner (map field_shape l.fields))
