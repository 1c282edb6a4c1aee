use Rattle.std.proofs.Common.{refl, sym, ap, ◌∙◌, arith}
use Rattle.c_syntax.specs.View.{node_shape, expr_shape, note_shape}
use Rattle.c_syntax.proofs.Made.{nodes_made}
use Rattle.probe_expr.specs.Numbers.{counts}
use Rattle.probe_expr.proofs.Listing.{one_more, ended}
use Rattle.probe_expr.proofs.Lists.{arguments}
use Rattle.probe_expr.proofs.Joined.{step_numbered, choose_numbered, test_numbered, arm_numbered, loop_test_numbered}
use Rattle.probe_expr.proofs.nodes.Prober.+probed.Goals as goal

pub arm-returns : goal.arm-returns
arm-returns t c =
    let a = c.args.node.now in
    arm_numbered _ _ _ a.pos a.op (note_shape a.note) (expr_shape a.form) _ _ c.in_ok-block.ensures c.in_ok-inner.ensures c.in_ok-made.ensures

pub test-returns : goal.test-returns
test-returns t c =
    let a = c.args.node.now in
    test_numbered _ _ _ _ a.pos a.op (note_shape a.note) (expr_shape a.form) _ _ c.in_ok-test.ensures c.in_ok-inner.ensures c.is_logical.ensures c.in_ok-made.ensures

pub loop_test-returns : goal.loop_test-returns
loop_test-returns t c = loop_test_numbered _ _ _ (node_shape c.args.node.now) _ _ c.in_ok-block.ensures c.in_ok-inner.ensures c.in_ok-made.ensures

pub form-returns-in_ok-node-in-Step : goal.form-returns-in_ok-node-in-Step
form-returns-in_ok-node-in-Step t c =
    step_numbered _ _ c.in-Step.op c.args.taken (expr_shape c.args.form.now) (node_shape c.deref-in-Step.result.now) _ (rw (c.in-Step.is, c.deref-in-Step.ensures) refl) c.in_ok-node-in-Step.ensures

pub form-returns-in_ok-arm-in-Cond-2 : goal.form-returns-in_ok-arm-in-Cond-2
form-returns-in_ok-arm-in-Cond-2 t c =
    choose_numbered _ _ _ _ c.args.taken (expr_shape c.args.form.now) (node_shape c.deref-in-Cond.result.now) (node_shape c.deref-in-Cond-2.result.now) (node_shape c.deref-in-Cond-3.result.now) _ _ _ (rw (c.in-Cond.is, c.deref-in-Cond.ensures, c.deref-in-Cond-2.ensures, c.deref-in-Cond-3.ensures) refl) c.in_ok-test-in-Cond.ensures c.in_ok-arm-in-Cond.ensures c.in_ok-arm-in-Cond-2.ensures

pub form-returns-in_ok-call-in-Call : goal.form-returns-in_ok-call-in-Call
form-returns-in_ok-call-in-Call t c = rw (c.in-Call.is, nodes_made c.in-Call.args, sym c.deref-in-Call.ensures.value) c.in_ok-call-in-Call.ensures

pub nodes-loop-node-preserved : goal.nodes-loop-node-preserved
nodes-loop-node-preserved t c c' w h =
    one_more (arguments c') _ _ _ _ _ _ c.args.nodes.now c.loop-node.node-index w c.in_ok-put_inner.ensures c.loop-node-test.true c.node-item.is (λ v e. c.in_ok-inner.ensures c' v e) (c.loop-node.invariant c' w h)

pub nodes-returns : goal.nodes-returns
nodes-returns t c c' w h =
    let p = ended (arguments c') _ _ c.args.nodes.now c.loop-node.node-index w (omega arith) (c.loop-node.invariant c' w h) in
    (p.2, ap counts p.3 ∙ p.1)
