use Rattle.std.proofs.Common.{◌≡◌, ◌++◌, take}
use Rattle.pair_list.specs.Items.{p_use_rows}
use Rattle.pair_list.proofs.kinds.put_p_uses.Given as goal

abbrev pub invariant-loop-n : goal.invariant-loop-n
invariant-loop-n l = l.items ≡ record l.fn.items { p_uses = l.fn.items.p_uses ++ p_use_rows l.sites (take l.n l.pairs) }
