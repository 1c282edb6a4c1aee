use Rattle.std.proofs.Common.{◌≡◌, ◌++◌, take}
use Rattle.pair_list.specs.Items.{label_rows}
use Rattle.pair_list.proofs.kinds.put_labels.Given as goal

abbrev pub invariant-loop-i : goal.invariant-loop-i
invariant-loop-i l = l.items ≡ record l.fn.items { outcomes = l.fn.items.outcomes ++ label_rows l.decision l.pos (take l.i l.labels) }
