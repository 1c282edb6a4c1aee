use Rattle.std.proofs.Common.{sym, subst}
use Rattle.std.specs.Prelude.{◌≤◌, All}
use Rattle.c_syntax.specs.View.{unit_shape}
use Rattle.c_tables.specs.Tables.{tables_shape}
use Rattle.pair_list.specs.Placed.{IsPlaced}
use Rattle.pair_list.specs.PairLists.{AreThose, all_pairs, items_in}
use Rattle.pair_list.specs.Items.{IsListed, most_items}
use Rattle.pair_list.proofs.Placing.{are_items, all_placed, excluded}
use Rattle.pair_list.proofs.MissingRows.{misses_none}
use Rattle.pair_list.proofs.listing.list.Goals as goal

pub items_with-requires : goal.items_with-requires
items_with-requires c = subst (All (IsPlaced c.args.sites.now)) (sym c.deref.ensures.value) (all_placed (tables_shape c.tables.result.now) (unit_shape c.unit.result.now) c.args.sites.now c.requires.reads c.in-Ok.pairs.items c.in-Ok.ensures.pairs)

pub returns-in-Err-clause-apart : goal.returns-in-Err-clause-apart
returns-in-Err-clause-apart c = excluded (tables_shape c.args.program.now.tables) (unit_shape c.args.program.now.unit) c.args.sites.now

pub returns-in-Ok-items_with-clause-apart : goal.returns-in-Ok-items_with-clause-apart
returns-in-Ok-items_with-clause-apart c = excluded (tables_shape c.args.program.now.tables) (unit_shape c.args.program.now.unit) c.args.sites.now

pub returns-clause-apart : goal.returns-clause-apart
returns-clause-apart c = excluded (tables_shape c.args.program.now.tables) (unit_shape c.args.program.now.unit) c.args.sites.now

pub returns-in-Ok-items_with-clause-misses_none : goal.returns-in-Ok-items_with-clause-misses_none
returns-in-Ok-items_with-clause-misses_none c =
    let p = c.args.program.now in
    let s = c.args.sites.now in
    let here = subst (λ t. AreThose (IsListed (tables_shape t) (unit_shape c.unit.result.now) s) (all_pairs s) c.in-Ok.pairs.items) c.tables.ensures.tables c.in-Ok.ensures.pairs in
    let both = subst (λ u. AreThose (IsListed (tables_shape p.tables) (unit_shape u) s) (all_pairs s) c.in-Ok.pairs.items) c.unit.ensures.unit here in
    let are = subst (AreThose (IsListed (tables_shape p.tables) (unit_shape p.unit) s) (all_pairs s)) (sym c.deref.ensures.value) both in
    let few = subst (λ l. items_in s l ≤ most_items) (sym c.deref.ensures.value) c.in-Ok.ensures.few in
    misses_none p s c.requires c.in-Ok-items_with.items (are_items (tables_shape p.tables) (unit_shape p.unit) s c.deref.result.now c.in-Ok-items_with.items are few c.in-Ok-items_with.ensures) p.typed
