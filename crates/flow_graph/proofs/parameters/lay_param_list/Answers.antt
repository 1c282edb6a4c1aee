use Rattle.std.proofs.Common.{arith}
use Rattle.flow_rows.proofs.Runs.{run_none, run_next, run_all}
use Rattle.flow_graph.proofs.Defined.{params_run}
use Rattle.flow_graph.proofs.parameters.lay_param_list.Goals as goal

pub loop-param-init : goal.loop-param-init
loop-param-init c t = run_none (params_run t) _ _ _ c.args.out.now.numbers c.args.at c.in_ok-entry.entry c.in_ok-entry.ensures.grown c.in_ok-fill.ensures.grown c.in_ok-fill.ensures.laid

pub loop-param-preserved : goal.loop-param-preserved
loop-param-preserved c t =
    run_next (params_run t) _ _ _ _ _ _ _ c.args.at c.loop-param.entry c.in_ok-next.next c.args.list.now c.loop-param.param-index c.param-item.result c.loop-param-test.true c.param-item.is (c.loop-param.invariant t) c.in_ok-next.ensures.grown (c.in_ok-lay_param.ensures t)

pub returns : goal.returns
returns c t =
    run_all (params_run t) _ _ _ _ _ c.args.at c.loop-param.entry c.args.to c.loop-param.param-index c.args.list.now (omega arith) (c.loop-param.invariant t) c.in_ok-fill-2.ensures.grown c.in_ok-fill-2.ensures.laid
