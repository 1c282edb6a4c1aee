use Rattle.std.proofs.Common.{◌≡◌, ◌++◌, take}
use Rattle.pair_list.proofs.kinds.put_blocks.Given as goal

abbrev pub invariant-loop-k : goal.invariant-loop-k
invariant-loop-k l = l.items ≡ record l.fn.items { blocks = l.fn.items.blocks ++ take l.k l.sites.lists.blocks.items }
