use Rattle.std.proofs.Common.{◌≡◌, drop, false}
use Rattle.c_syntax.specs.View.{item_list}
use Rattle.c_tables.specs.Tables.{tables_shape}
use Rattle.c_walk.specs.Stating.{walk_items}
use Rattle.c_walk.specs.WalkerView.{walked}
use Rattle.c_walk.proofs.stating.+statement.Given as goal

abbrev pub invariant-walk_items-loop-item : goal.invariant-walk_items-loop-item
invariant-walk_items-loop-item l =
    walk_items (tables_shape l.tables) l.around l.after (item_list (drop l.item-index l.items)) (walked l.out)
    ≡ walk_items (tables_shape l.tables) l.around false (item_list l.items) (walked l.initial.out)
