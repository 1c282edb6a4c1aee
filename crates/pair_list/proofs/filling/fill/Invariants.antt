use Rattle.pair_list.specs.Tables.{IsTable}
use Rattle.pair_list.proofs.filling.fill.Given as goal

abbrev pub invariant-loop-i : goal.invariant-loop-i
invariant-loop-i l = IsTable l.by l.marks l.start l.low l.i l.words.items
