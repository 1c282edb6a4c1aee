use Rattle.std.proofs.Common.{◌≡◌, map, sym, subst, arith}
use Rattle.std.proofs.lemmas.Grind.{common_steps}
use Rattle.c_syntax.specs.View.{unit_shape}
use Rattle.c_tables.specs.Tables.{tables_shape}
use Rattle.c_walk.specs.ItemView.{item_shape}
use Rattle.c_walk.specs.Sound.{AreSound}
use Rattle.c_walk.specs.Units.{items_of}
use Rattle.c_walk.proofs.Goes.{items_sound}
use Rattle.c_walk.proofs.units.items_of.Goals as goal

pub returns-clause-sound : goal.returns-clause-sound
returns-clause-sound c =
    let t = tables_shape c.args.tables.now in
    let u = unit_shape c.args.unit.now in
    let same : map item_shape c.into_items.result.items ≡ items_of t u = grind (arith, common_steps) in
    subst AreSound (sym same) (items_sound t u)
