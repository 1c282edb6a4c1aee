use Rattle.std.proofs.Common.{arith}
use Rattle.c_tables.specs.Tables.{tables_shape}
use Rattle.flow_rows.proofs.Runs.{names_run, run_none, run_next, run_all}
use Rattle.flow_rows.proofs.declarations.lay_declarators.Goals as goal

pub loop-name-init : goal.loop-name-init
loop-name-init c = run_none (names_run (tables_shape c.args.tables.now)) _ _ _ c.args.out.now.numbers c.args.at c.in_ok-entry.entry c.in_ok-entry.ensures.grown c.in_ok-fill.ensures.grown c.in_ok-fill.ensures.laid

pub loop-name-preserved : goal.loop-name-preserved
loop-name-preserved c =
    run_next (names_run (tables_shape c.args.tables.now)) _ _ _ _ _ _ _ c.args.at c.loop-name.entry c.in_ok-next.next c.args.names.now c.loop-name.name-index c.name-item.result c.loop-name-test.true c.name-item.is c.loop-name.invariant c.in_ok-next.ensures.grown c.in_ok-lay_declarator.ensures

pub returns : goal.returns
returns c =
    run_all (names_run (tables_shape c.args.tables.now)) _ _ _ _ _ c.args.at c.loop-name.entry c.args.to c.loop-name.name-index c.args.names.now (omega arith) c.loop-name.invariant c.in_ok-fill-2.ensures.grown c.in_ok-fill-2.ensures.laid
