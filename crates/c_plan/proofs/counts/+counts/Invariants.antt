use Rattle.std.proofs.Common.{◌≡◌, ◌+◌, ◌≤◌, drop}
use Rattle.c_syntax.specs.View.{item_list}
use Rattle.c_meaning.specs.Counts.{items_variables}
use Rattle.c_base.specs.Kept.{kept}
use Rattle.c_plan.proofs.counts.+counts.Given as goal

abbrev pub invariant-items_variables-loop-item : goal.invariant-items_variables-loop-item
invariant-items_variables-loop-item l = record {
  rest : kept (l.count + items_variables (item_list (drop l.item-index l.items))) ≡ kept (items_variables (item_list l.items));
  small : l.count ≤ 4294967295;
}
