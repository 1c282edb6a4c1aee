use Rattle.std.proofs.Common.{◌≡◌, length, map}
use Rattle.std.specs.List.{AllByRecursion}
use Rattle.std.specs.Vec.Iter.{into_iter_items, into_iter_len}
use Rattle.c_tables.specs.Tables.{tables_shape}
use Rattle.c_walk.specs.ItemView.{item_shape}
use Rattle.c_sites.specs.Few.{HasShortOwner}
use Rattle.c_sites.specs.Numbers.{names_of}
use Rattle.c_sites.specs.ListsView.{lists_shape}
use Rattle.c_sites.proofs.Joined.{AreLeft}
use Rattle.c_sites.proofs.lists.lists_of.Given as goal

abbrev pub invariant-loop-item : goal.invariant-loop-item
invariant-loop-item l =
    let rows = (tables_shape l.tables).structures in
    let is = map item_shape (into_iter_items l.initial.item-iterator) in
    record {
      left : AreLeft l.names (names_of rows is) rows (map item_shape (into_iter_items l.item-iterator)) is (lists_shape l.lists);
      owners : AllByRecursion HasShortOwner (map item_shape (into_iter_items l.item-iterator));
      all : into_iter_len l.item-iterator ≡ length (into_iter_items l.item-iterator);
    }
