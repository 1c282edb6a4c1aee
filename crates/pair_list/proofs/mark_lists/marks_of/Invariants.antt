use Rattle.pair_list.specs.Marks.{AreMarks}
use Rattle.pair_list.proofs.mark_lists.marks_of.Given as goal

abbrev pub invariant-loop-i : goal.invariant-loop-i
invariant-loop-i l = AreMarks l.sites l.function l.first l.i l.marks.items
