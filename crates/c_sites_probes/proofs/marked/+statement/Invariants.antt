use Rattle.std.proofs.Common.{◌≡◌, drop}
use Rattle.c_syntax.specs.View.{item_list}
use Rattle.c_sites_probes.specs.Marked.{items_mark}
use Rattle.c_sites_probes.proofs.marked.+statement.Given as goal

abbrev pub invariant-items_mark-loop-item : goal.invariant-items_mark-loop-item
invariant-items_mark-loop-item l = items_mark (item_list (drop l.item-index l.items)) ≡ items_mark (item_list l.items)
