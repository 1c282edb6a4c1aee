use Rattle.std.proofs.Common.{◌≡◌, ◌+◌, ◌++◌, drop}
use Rattle.c_syntax.specs.View.{item_list}
use Rattle.c_meaning.specs.Counts.{items_variables}
use Rattle.c_plan.specs.Extents.{items_extents}
use Rattle.c_plan.proofs.listing.+statement.Given as goal

abbrev pub invariant-put_items-loop-item : goal.invariant-put_items-loop-item
invariant-put_items-loop-item l =
    (l.out.items ++ items_extents (item_list (drop l.item-index l.items)) ≡ l.initial.out.items ++ items_extents (item_list l.items))
    × (l.count + items_variables (item_list (drop l.item-index l.items)) ≡ items_variables (item_list l.items))
