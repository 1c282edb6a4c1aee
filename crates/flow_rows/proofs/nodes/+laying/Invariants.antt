use Rattle.std.proofs.Common.{take}
use Rattle.c_tables.specs.Tables.{tables_shape}
use Rattle.flow_rows.specs.View.{rows_of}
use Rattle.flow_rows.proofs.Runs.{RunPlaced, arguments}
use Rattle.flow_rows.proofs.nodes.+laying.Given as goal

abbrev pub invariant-lay_nodes-loop-node : goal.invariant-lay_nodes-loop-node
invariant-lay_nodes-loop-node l = RunPlaced (arguments (tables_shape l.tables)) (rows_of l.fn.out.rows) (rows_of l.out.rows) l.fn.out.numbers l.out.numbers l.at l.entry (take l.node-index l.nodes)
