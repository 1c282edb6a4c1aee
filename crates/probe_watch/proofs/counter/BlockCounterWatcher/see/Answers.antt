-- An event that enters no block.
use Rattle.probe_watch.proofs.Counting.{other_passes}
use Rattle.probe_watch.proofs.counter.BlockCounterWatcher.see.Goals as goal

pub returns-in_default-clause-seen : goal.returns-in_default-clause-seen
returns-in_default-clause-seen c h counts = other_passes _ h c.args.event c.in_default.not-Block counts
