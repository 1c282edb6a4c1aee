use Rattle.std.proofs.Common.{◌≡◌, drop}
use Rattle.c_syntax.specs.View.{declarator_list}
use Rattle.c_tables.specs.Tables.{tables_shape}
use Rattle.c_walk.specs.Units.{define_declarators}
use Rattle.c_walk.specs.WalkerView.{walked}
use Rattle.c_walk.proofs.units.define_declarators.Given as goal

abbrev pub invariant-loop-name : goal.invariant-loop-name
invariant-loop-name l =
    define_declarators (tables_shape l.tables) l.function (declarator_list (drop l.name-index l.names)) (walked l.out)
    ≡ define_declarators (tables_shape l.tables) l.function (declarator_list l.names) (walked l.initial.out)
