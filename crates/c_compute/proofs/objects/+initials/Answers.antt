use Rattle.std.proofs.Common.{◌∙◌, arith}
use Rattle.c_syntax.specs.View.{type_of, init_list}
use Rattle.c_tables.specs.Tables.{tables_shape}
use Rattle.c_compute.proofs.Cells.{nothing_listed, not_listed, elements_next, item_size}
use Rattle.c_compute.proofs.objects.+initials.Goals as goal

pub push_elements-loop-item-preserved : goal.push_elements-loop-item-preserved
push_elements-loop-item-preserved t c =
    elements_next (tables_shape c.args.tables.now) c.args.filing.now (type_of c.args.kind.now) c.loop-item.left c.loop-item.item-index c.args.items.now c.item-item.result c.loop-item.cells.items c.push_init.new.cells.items c.if-left-eq0.false c.loop-item-test.true c.item-item.is c.in_ok-push_init.ensures ∙ c.loop-item.invariant

pub push_elements-push_init-requires : goal.push_elements-push_init-requires
push_elements-push_init-requires t c =
    let k = item_size c.args.items.now c.loop-item.item-index c.item-item.result c.loop-item-test.true c.item-item.is in
    (omega (arith, k, c.decreases), tt)

pub push_fields-push_init-requires : goal.push_fields-push_init-requires
push_fields-push_init-requires t c =
    let k = item_size c.args.items.now c.loop-item.item-index c.item-item.result c.loop-item-test.true c.item-item.is in
    (omega (arith, k, c.decreases), tt)

pub push_list-returns-in-Int : goal.push_list-returns-in-Int
push_list-returns-in-Int t c = nothing_listed (tables_shape c.args.tables.now) c.args.filing.now _ c.args.cells.now.items (init_list c.args.items.now) (not_listed (tables_shape c.args.tables.now) c.args.kind.now c.in-Int.is)

pub push_list-returns-in-Int-2 : goal.push_list-returns-in-Int-2
push_list-returns-in-Int-2 t c = nothing_listed (tables_shape c.args.tables.now) c.args.filing.now _ c.args.cells.now.items (init_list c.args.items.now) (not_listed (tables_shape c.args.tables.now) c.args.kind.now c.in-Int.is)

pub push_list-returns-in-Int-3 : goal.push_list-returns-in-Int-3
push_list-returns-in-Int-3 t c = nothing_listed (tables_shape c.args.tables.now) c.args.filing.now _ c.args.cells.now.items (init_list c.args.items.now) (not_listed (tables_shape c.args.tables.now) c.args.kind.now c.in-Int.is)
