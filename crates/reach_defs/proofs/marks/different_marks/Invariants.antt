use Rattle.reach_defs.proofs.Listing.{Lists}
use Rattle.reach_defs.proofs.marks.different_marks.Given as goal

abbrev pub invariant-loop-row : goal.invariant-loop-row
invariant-loop-row l = Lists l.rows l.marks.items l.row-index
