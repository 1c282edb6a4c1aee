use Rattle.std.proofs.Common.{take}
use Rattle.c_tables.specs.Tables.{TablesShape}
use Rattle.flow_rows.specs.View.{rows_of}
use Rattle.flow_rows.proofs.Runs.{RunPlaced}
use Rattle.flow_graph.proofs.Defined.{params_run}
use Rattle.flow_graph.proofs.parameters.lay_param_list.Given as goal

abbrev pub invariant-loop-param : goal.invariant-loop-param
invariant-loop-param l = (t : TablesShape) → RunPlaced (params_run t) (rows_of l.fn.out.rows) (rows_of l.out.rows) l.fn.out.numbers l.out.numbers l.at l.entry (take l.param-index l.list)
