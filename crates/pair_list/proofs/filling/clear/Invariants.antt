use Rattle.pair_list.specs.Tables.{IsLeft}
use Rattle.pair_list.proofs.filling.clear.Given as goal

abbrev pub invariant-loop-i : goal.invariant-loop-i
invariant-loop-i l = IsLeft l.by l.marks l.start l.low l.i l.words.items
