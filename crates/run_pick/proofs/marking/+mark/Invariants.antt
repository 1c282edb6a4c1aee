use Rattle.std.proofs.Common.{length}
use Rattle.run_pick.proofs.marking.+mark.Given as goal

abbrev pub decreases-mark : goal.decreases-mark
decreases-mark l = length l.runs.now
