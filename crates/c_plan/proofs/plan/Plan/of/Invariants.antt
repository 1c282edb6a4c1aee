use Rattle.std.proofs.Common.{◌≡◌, ◌+◌, length}
use Rattle.c_meaning.specs.Sources.{source_of}
use Rattle.c_plan.specs.Starts.{AreStarts}
use Rattle.c_plan.proofs.plan.Plan.of.Given as goal

abbrev pub invariant-loop-i : goal.invariant-loop-i
invariant-loop-i l = record {
  count : length l.starts.items ≡ l.i + 1;
  starts : AreStarts (source_of l.program) (l.i + 1) l.starts.items l.extents.items;
}
