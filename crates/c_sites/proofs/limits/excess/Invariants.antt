use Rattle.std.proofs.Common.{◌≡◌, drop, map}
use Rattle.c_tables.specs.Tables.{tables_shape}
use Rattle.c_walk.specs.ItemView.{item_shape}
use Rattle.c_sites.specs.Limits.{no_counts, excess}
use Rattle.c_sites.proofs.limits.excess.Given as goal

abbrev pub invariant-loop-item : goal.invariant-loop-item
invariant-loop-item l =
    excess (tables_shape l.tables).structures l.counts (map item_shape (drop l.item-index l.items)) ≡ excess (tables_shape l.tables).structures no_counts (map item_shape l.items)
