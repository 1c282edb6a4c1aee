-- From the end of the part down to i, those of the decision are out.
use Rattle.std.proofs.Common.{◌≡◌, ◌≤◌, ◌++◌, take, drop}
use Rattle.cover_parts.specs.Waits.{others}
use Rattle.cover_parts.proofs.pending.forget_in.Given as goal

abbrev pub invariant-loop-i : goal.invariant-loop-i
invariant-loop-i l = record {
  from : l.low ≤ l.i;
  to : l.i ≤ l.high;
  items : l.waits.items ≡ take l.i l.fn.waits.items ++ others l.decision l.activation (drop l.i l.fn.waits.items);
}

abbrev pub decreases-loop-i : goal.decreases-loop-i
decreases-loop-i l = l.i
