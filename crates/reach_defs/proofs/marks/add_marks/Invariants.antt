use Rattle.reach_defs.specs.Listing.{AddsMarks}
use Rattle.reach_defs.proofs.marks.add_marks.Given as goal

abbrev pub invariant-loop-mark : goal.invariant-loop-mark
invariant-loop-mark l = AddsMarks l.fn.marks.items l.more l.marks.items l.mark-index
