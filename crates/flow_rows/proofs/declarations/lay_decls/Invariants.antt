use Rattle.std.proofs.Common.{take}
use Rattle.c_tables.specs.Tables.{tables_shape}
use Rattle.flow_rows.specs.View.{rows_of}
use Rattle.flow_rows.proofs.Runs.{RunPlaced, decls_run}
use Rattle.flow_rows.proofs.declarations.lay_decls.Given as goal

abbrev pub invariant-loop-decl : goal.invariant-loop-decl
invariant-loop-decl l = RunPlaced (decls_run (tables_shape l.tables)) (rows_of l.fn.out.rows) (rows_of l.out.rows) l.fn.out.numbers l.out.numbers l.at l.entry (take l.decl-index l.decls)
