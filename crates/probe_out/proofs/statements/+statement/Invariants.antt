use Rattle.std.proofs.Common.{◌≡◌, map, take}
use Rattle.probe_out.proofs.Lists.{item_pair, left_item}
use Rattle.probe_out.proofs.statements.+statement.Given as goal

abbrev pub invariant-erased_items-loop-item : goal.invariant-erased_items-loop-item
invariant-erased_items-loop-item l = map item_pair l.made.items ≡ map left_item (take l.item-index l.items)
