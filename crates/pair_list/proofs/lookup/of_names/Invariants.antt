use Rattle.std.proofs.Common.{ℕ, List}
use Rattle.pair_list.specs.declared.marks.Mark.{Mark}
use Rattle.pair_list.specs.Masks.{IsMask}
use Rattle.pair_list.specs.Tables.{AreTables}
use Rattle.pair_list.proofs.Tabling.{NamedBelow}
use Rattle.pair_list.proofs.lookup.of_names.Given as goal

abbrev pub invariant-loop-i : goal.invariant-loop-i
invariant-loop-i l = (marks : List Mark) (start : ℕ) → AreTables marks start l.tables → IsMask marks start (NamedBelow l.names l.i) l.word
