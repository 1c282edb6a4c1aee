use Rattle.std.proofs.Common.{take}
use Rattle.c_tables.specs.Tables.{tables_shape}
use Rattle.flow_rows.specs.View.{rows_of}
use Rattle.flow_rows.proofs.Runs.{RunPlaced, names_run}
use Rattle.flow_rows.proofs.declarations.lay_declarators.Given as goal

abbrev pub invariant-loop-name : goal.invariant-loop-name
invariant-loop-name l = RunPlaced (names_run (tables_shape l.tables)) (rows_of l.fn.out.rows) (rows_of l.out.rows) l.fn.out.numbers l.out.numbers l.at l.entry (take l.name-index l.names)
