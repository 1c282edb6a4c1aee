use Rattle.std.proofs.Common.{◌≡◌, drop}
use Rattle.c_syntax.specs.View.{item_list}
use Rattle.c_sites_probes.specs.Owned.{own_items}
use Rattle.c_sites_probes.proofs.owned.+owning.Given as goal

abbrev pub invariant-own_items-loop-item : goal.invariant-own_items-loop-item
invariant-own_items-loop-item l = own_items (item_list (drop l.item-index l.items)) l.out.items ≡ own_items (item_list l.items) l.initial.out.items
