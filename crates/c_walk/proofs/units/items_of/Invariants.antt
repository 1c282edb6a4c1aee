use Rattle.std.proofs.Common.{◌≡◌, drop, map}
use Rattle.c_syntax.specs.View.{external_shape}
use Rattle.c_tables.specs.Tables.{tables_shape}
use Rattle.c_walk.specs.Units.{walk_externals, no_items}
use Rattle.c_walk.specs.WalkerView.{walked}
use Rattle.c_walk.proofs.units.items_of.Given as goal

abbrev pub invariant-loop-external : goal.invariant-loop-external
invariant-loop-external l =
    walk_externals (tables_shape l.tables) (map external_shape (drop l.external-index l.external-items)) (walked l.out)
    ≡ walk_externals (tables_shape l.tables) (map external_shape l.external-items) no_items
