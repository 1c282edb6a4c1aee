use Rattle.pair_list.proofs.Meeting.{DefsLeft}
use Rattle.pair_list.proofs.hits.defs_of.Given as goal

abbrev pub invariant-loop-left : goal.invariant-loop-left
invariant-loop-left l = DefsLeft l.marks l.start l.first l.word l.left l.bits

abbrev pub decreases-loop-left : goal.decreases-loop-left
decreases-loop-left l = l.left
