use Rattle.std.proofs.Common.{◌≡◌, ◌++◌, ◌+◌, ◌*◌, map, drop, replicate}
use Rattle.c_syntax.specs.View.{type_of, init_shape, init_list}
use Rattle.c_tables.specs.Tables.{tables_shape, field_shape}
use Rattle.c_meaning.specs.Constants.{items_cells}
use Rattle.c_compute.specs.Cells.{init_size, inits_size}
use Rattle.c_compute.proofs.objects.+initials.Given as goal

abbrev pub decreases-push_init : goal.decreases-push_init
decreases-push_init a = 3 * init_size (init_shape a.init.now)

abbrev pub decreases-push_list : goal.decreases-push_list
decreases-push_list a = 3 * inits_size (init_list a.items.now) + 2

abbrev pub decreases-push_elements : goal.decreases-push_elements
decreases-push_elements a = 3 * inits_size (init_list a.items.now) + 1

abbrev pub decreases-push_fields : goal.decreases-push_fields
decreases-push_fields a = 3 * inits_size (init_list a.items.now) + 1

abbrev pub invariant-push_elements-loop-item : goal.invariant-push_elements-loop-item
invariant-push_elements-loop-item l =
    l.cells.items ++ items_cells (tables_shape l.tables) l.filing (replicate l.left (type_of l.kind)) (init_list (drop l.item-index l.items))
    ≡ l.fn.cells.items ++ items_cells (tables_shape l.tables) l.filing (replicate l.length (type_of l.kind)) (init_list l.items)

abbrev pub invariant-push_fields-loop-item : goal.invariant-push_fields-loop-item
invariant-push_fields-loop-item l =
    l.cells.items ++ items_cells (tables_shape l.tables) l.filing (map (λ f. f.kind) (map field_shape l.fields)) (init_list (drop l.item-index l.items))
    ≡ l.fn.cells.items ++ items_cells (tables_shape l.tables) l.filing (map (λ f. f.kind) (map field_shape l.fn.fields)) (init_list l.items)
