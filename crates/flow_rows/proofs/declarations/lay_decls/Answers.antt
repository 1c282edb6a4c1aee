use Rattle.std.proofs.Common.{arith}
use Rattle.c_tables.specs.Tables.{tables_shape}
use Rattle.flow_rows.proofs.Runs.{decls_run, run_none, run_next, run_all}
use Rattle.flow_rows.proofs.declarations.lay_decls.Goals as goal

pub loop-decl-init : goal.loop-decl-init
loop-decl-init c = run_none (decls_run (tables_shape c.args.tables.now)) _ _ _ c.args.out.now.numbers c.args.at c.in_ok-entry.entry c.in_ok-entry.ensures.grown c.in_ok-fill.ensures.grown c.in_ok-fill.ensures.laid

pub loop-decl-preserved : goal.loop-decl-preserved
loop-decl-preserved c =
    run_next (decls_run (tables_shape c.args.tables.now)) _ _ _ _ _ _ _ c.args.at c.loop-decl.entry c.in_ok-next.next c.args.decls.now c.loop-decl.decl-index c.decl-item.result c.loop-decl-test.true c.decl-item.is c.loop-decl.invariant c.in_ok-next.ensures.grown c.in_ok-lay_decl.ensures

pub returns : goal.returns
returns c =
    run_all (decls_run (tables_shape c.args.tables.now)) _ _ _ _ _ c.args.at c.loop-decl.entry c.args.to c.loop-decl.decl-index c.args.decls.now (omega arith) c.loop-decl.invariant c.in_ok-fill-2.ensures.grown c.in_ok-fill-2.ensures.laid
