use Rattle.std.proofs.Common.{◌≡◌, List, ◌++◌}
use Rattle.c_events.specs.declared.events.Event.{Event}
use Rattle.atac_base.specs.Outside.{IsFront}
use Rattle.probe_watch.specs.Counts.{Counts, lines_below}
use Rattle.probe_watch.proofs.counter.put_counts.Given as goal

-- the lines of the blocks so far
abbrev pub invariant-loop-k : goal.invariant-loop-k
invariant-loop-k l = record {
  lines : (h : List Event) → Counts l.counts h → l.text.items ≡ l.fn.text.items ++ lines_below l.k h;
  front : IsFront l.fn.text.items l.text.items;
}
