use Rattle.std.proofs.Common.{◌≡◌, ◌++◌, take}
use Rattle.pair_list.specs.Items.{c_use_rows}
use Rattle.pair_list.proofs.kinds.put_c_uses.Given as goal

abbrev pub invariant-loop-i : goal.invariant-loop-i
invariant-loop-i l = l.items ≡ record l.fn.items { c_uses = l.fn.items.c_uses ++ c_use_rows l.sites (take l.i l.pairs) }
