use Rattle.std.proofs.Common.{◌≡◌, drop, map}
use Rattle.c_walk.specs.ItemView.{item_shape}
use Rattle.c_sites_counts.specs.Counts.{no_counts, with_all}
use Rattle.c_sites_counts.proofs.counting.counted.Given as goal

abbrev pub invariant-loop-item : goal.invariant-loop-item
invariant-loop-item l = with_all (map item_shape (drop l.item-index l.items)) l.counts ≡ with_all (map item_shape l.items) no_counts
