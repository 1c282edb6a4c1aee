use Rattle.std.proofs.Common.{length, map, sym, subst}
use Rattle.std.specs.Prelude.{All}
use Rattle.std.specs.String.{string_bytes}
use Rattle.c_tables.specs.Tables.{tables_shape}
use Rattle.c_walk.specs.ItemView.{item_shape}
use Rattle.c_sites.specs.Refused.{IsRead}
use Rattle.c_sites.proofs.Bounds.{have_texts}
use Rattle.c_sites.proofs.Few.{are_few, decisions_few}
use Rattle.c_sites.proofs.Owned.{are_read, owners_short}
use Rattle.c_sites.proofs.all_sites.numbered.Goals as goal

pub lists_of-requires : goal.lists_of-requires
lists_of-requires c =
    let rows = (tables_shape c.args.tables.now).structures in
    let is = map item_shape c.args.items.items in
    owners_short is (decisions_few rows is c.requires.few) c.requires.sound

pub new-requires-clause-few : goal.new-requires-clause-few
new-requires-clause-few c =
    let rows = (tables_shape c.args.tables.now).structures in
    are_few c.in_ok-lists.names rows (map item_shape c.args.items.items) c.in_ok-lists.lists c.requires.few c.in_ok-lists.ensures.lists

pub new-requires-clause-named : goal.new-requires-clause-named
new-requires-clause-named c =
    let rows = (tables_shape c.args.tables.now).structures in
    let is = map item_shape c.args.items.items in
    have_texts rows is c.in_ok-lists.names c.in_ok-lists.lists c.in_ok-lists.ensures.names c.in_ok-lists.ensures.lists (map string_bytes c.in_ok-texts.texts.items) c.in_ok-texts.ensures

pub returns-clause-reads : goal.returns-clause-reads
returns-clause-reads c =
    let rows = (tables_shape c.args.tables.now).structures in
    let is = map item_shape c.args.items.items in
    let reads = are_read c.in_ok-lists.names rows is c.in_ok-lists.lists c.requires.sound c.in_ok-lists.ensures.lists in
    subst (λ l. All (IsRead (length l.decisions.items)) l.uses.items) (sym c.new.ensures.lists) reads
