use Rattle.std.proofs.Common.{arith}
use Rattle.flow_rows.specs.View.{rows_of}
use Rattle.flow_rows.proofs.Labels.{labels_none, labels_next, labels_all}
use Rattle.flow_rows.proofs.cases.lay_labels.Goals as goal

pub loop-label-init : goal.loop-label-init
loop-label-init c = labels_none (rows_of c.args.rows.now) c.args.decision c.args.from.order c.args.from.at c.args.entry

pub loop-label-preserved : goal.loop-label-preserved
loop-label-preserved c =
    labels_next _ _ _ c.args.decision c.args.from.order c.args.from.at c.args.entry _ _ c.in_ok-next.next.at c.in_ok-next.next.order c.args.labels.now c.loop-label.label-index c.label-item.result c.loop-label-test.true c.label-item.is c.loop-label.invariant c.in_ok-next.ensures.grown c.in_ok-next.ensures.led c.in_ok-next.ensures.order

pub returns-clause-grown : goal.returns-clause-grown
returns-clause-grown c = c.loop-label.invariant.grown

pub returns-clause-led : goal.returns-clause-led
returns-clause-led c = (labels_all _ _ c.args.decision c.args.from.order c.args.from.at c.args.entry _ _ c.loop-label.label-index c.args.labels.now (omega arith) c.loop-label.invariant).led

pub returns-clause-order : goal.returns-clause-order
returns-clause-order c = (labels_all _ _ c.args.decision c.args.from.order c.args.from.at c.args.entry _ _ c.loop-label.label-index c.args.labels.now (omega arith) c.loop-label.invariant).numbered
