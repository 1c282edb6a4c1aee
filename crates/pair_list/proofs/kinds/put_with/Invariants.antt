use Rattle.std.proofs.Common.{◌≡◌, ◌++◌, take}
use Rattle.pair_list.specs.Items.{with_outcomes}
use Rattle.pair_list.proofs.kinds.put_with.Given as goal

abbrev pub invariant-loop-n : goal.invariant-loop-n
invariant-loop-n l = l.items ≡ record l.fn.items { p_uses = l.fn.items.p_uses ++ with_outcomes l.row (take l.n l.labels) }
