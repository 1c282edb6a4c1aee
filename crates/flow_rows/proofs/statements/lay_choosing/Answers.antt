use Rattle.c_syntax.specs.View.{node_shape}
use Rattle.c_tables.specs.Tables.{tables_shape}
use Rattle.flow_rows.proofs.Choosing.{choice_placed}
use Rattle.flow_rows.proofs.statements.lay_choosing.Goals as goal

pub returns-clause-placed : goal.returns-clause-placed
returns-clause-placed c items = choice_placed (tables_shape c.args.tables.now) (node_shape c.args.node.now) items _ _ _ _ _ c.args.at c.args.to c.in_ok-decision.ensures c.in_ok-lay_node.ensures
