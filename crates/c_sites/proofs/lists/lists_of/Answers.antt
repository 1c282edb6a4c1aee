use Rattle.std.proofs.Common.{◌≡◌, ◌∷◌, length, ap, map, subst, arith}
use Rattle.std.specs.List.{AllByRecursion}
use Rattle.std.specs.Vec.Iter.{into_iter_items}
use Rattle.c_tables.specs.Tables.{tables_shape}
use Rattle.c_walk.specs.ItemView.{item_shape}
use Rattle.c_sites.specs.Few.{HasShortOwner}
use Rattle.c_sites.specs.Numbers.{names_of}
use Rattle.c_sites.specs.ListsView.{lists_shape}
use Rattle.c_sites.proofs.Joined.{AreLeft, one_left}
use Rattle.c_sites.proofs.lists.lists_of.Goals as goal

pub add-requires : goal.add-requires
add-requires c =
    let at = c.loop-item in
    let steps : into_iter_items at.item-iterator ≡ c.in-Some.item ∷ into_iter_items c.next.new.self = c.in-Some.ensures.steps.0 in
    let all = subst (λ l. AllByRecursion HasShortOwner (map item_shape l)) steps at.invariant.owners in
    all.0

pub loop-item-preserved : goal.loop-item-preserved
loop-item-preserved c =
    let at = c.loop-item in
    let rows = (tables_shape c.args.tables.now).structures in
    let is = map item_shape (into_iter_items c.into_iter-item-iterator.result) in
    let all = names_of rows is in
    let x = c.in-Some.item in
    let rest = into_iter_items c.next.new.self in
    let steps : into_iter_items at.item-iterator ≡ x ∷ rest = c.in-Some.ensures.steps.0 in
    let left = subst (λ l. AreLeft at.names all rows (map item_shape l) is (lists_shape at.lists)) steps at.invariant.left in
    let owners = subst (λ l. AllByRecursion HasShortOwner (map item_shape l)) steps at.invariant.owners in
    record {
      owners = owners.1;
      left = one_left at.names c.add.new.names all rows (item_shape x) (map item_shape rest) is (lists_shape at.lists) (lists_shape c.add.new.self) c.in_ok-add.ensures left;
      all =
          let was = at.invariant.all in
          let gone = c.in-Some.ensures.steps.1 in
          let short = ap length steps in
          omega arith;
    }
