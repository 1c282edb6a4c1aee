use Rattle.std.proofs.Common.{◌≡◌, max, drop}
use Rattle.c_syntax.specs.View.{item_list}
use Rattle.c_syntax.specs.Levels.{items_height}
use Rattle.c_syntax.proofs.height.+statement.Given as goal

abbrev pub invariant-items_height-loop-item : goal.invariant-items_height-loop-item
invariant-items_height-loop-item l = max l.most (items_height (item_list (drop l.item-index l.items))) ≡ items_height (item_list l.items)
