-- What the rows so far and the rows that are left sum up to.
use Rattle.std.proofs.Common.{◌+◌, length}
use Rattle.atac_facts.proofs.Sums.{Keeps}
use Rattle.atac_facts.proofs.sum.merged.Given as goal

abbrev pub invariant-loop-row : goal.invariant-loop-row
invariant-loop-row l = Keeps l.sum l.a l.b l.first l.second

abbrev pub decreases-loop-row : goal.decreases-loop-row
decreases-loop-row l = length l.a + length l.b
