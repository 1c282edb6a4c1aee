-- One more of a block.
use Rattle.probe_watch.proofs.Counting.{set_counted}
use Rattle.probe_watch.proofs.counter.count.Goals as goal

pub returns-clause-counted : goal.returns-clause-counted
returns-clause-counted c h counts =
    let w = c.in_ok-widen.ensures in
    rw c.from-k.ensures (set_counted c.args.counts.now.items c.widen.new.counts.items h c.args.k c.index.result.now c.saturating_add.result
    (rw c.from-k.ensures at w.wide) w.longer w.same (rw c.from-k.ensures at c.index.ensures) c.saturating_add.ensures counts)
