use Rattle.std.proofs.Common.{refl, ap, ◌∙◌}
use Rattle.c_syntax.specs.View.{node_shape, init_shape, init_list}
use Rattle.c_syntax.proofs.Open.{inits_open}
use Rattle.c_tables.specs.Tables.{tables_shape}
use Rattle.flow_rows.proofs.Declared.{init_one, init_list_placed}
use Rattle.flow_rows.proofs.declarations.lay_init.Goals as goal

pub returns-in_ok-lay_node-in-One : goal.returns-in_ok-lay_node-in-One
returns-in_ok-lay_node-in-One c x =
    init_one (tables_shape c.args.tables.now) x _ _ _ _ _ _ c.in_ok-number.number c.args.at c.in_ok-defined-in-One.defined c.args.to (init_shape c.args.init.now) (node_shape c.in-One.node) (rw c.in-One.is refl)
    c.in_ok-defined-in-One.ensures.grown c.in_ok-defined-in-One.ensures.laid c.in_ok-number.ensures c.in_ok-def-in-One.ensures c.in_ok-lay_node-in-One.ensures

pub returns-in_ok-fill-in-List : goal.returns-in_ok-fill-in-List
returns-in_ok-fill-in-List c x =
    init_list_placed (tables_shape c.args.tables.now) x _ _ _ _ c.in_ok-number.number c.args.at c.args.to (init_shape c.args.init.now) c.in-List.field-0 (init_list c.in-List.field-1.items) c.in-List.field-2 (ap init_shape c.in-List.is ∙ inits_open c.in-List.field-0 c.in-List.field-1 c.in-List.field-2)
    c.in_ok-fill-in-List.ensures.grown c.in_ok-fill-in-List.ensures.laid c.in_ok-number.ensures c.in_ok-def-in-List.ensures
