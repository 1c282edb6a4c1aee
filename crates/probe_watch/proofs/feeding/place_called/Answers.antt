-- The first of a name, and the step past one that hasn't it.
use Rattle.std.proofs.Common.{sym, ◌∙◌}
use Rattle.probe_watch.proofs.Finding.{find_read, find_past}
use Rattle.probe_watch.proofs.feeding.place_called.Goals as goal

pub returns-then-is_called : goal.returns-then-is_called
returns-then-is_called g c =
    (c.loop-i-test.true, find_read _ c.args.watchers.now c.loop-i.i c.index-watchers-i.result c.loop-i.invariant c.loop-i-test.true c.index-watchers-i.is (sym c.is_called.ensures ∙ c.if-is_called.true))

pub loop-i-preserved : goal.loop-i-preserved
loop-i-preserved g c = find_past _ c.args.watchers.now c.loop-i.i c.index-watchers-i.result c.loop-i.invariant c.index-watchers-i.is (sym c.is_called.ensures ∙ c.if-is_called.false)
