use Rattle.std.proofs.Common.{◌≡◌, drop}
use Rattle.c_syntax.specs.View.{declarator_list}
use Rattle.c_tables.specs.Tables.{tables_shape}
use Rattle.c_walk.specs.Stating.{walk_declarators}
use Rattle.c_walk.specs.WalkerView.{walked}
use Rattle.c_walk.proofs.stating.walk_declarators.Given as goal

abbrev pub invariant-loop-name : goal.invariant-loop-name
invariant-loop-name l =
    walk_declarators (tables_shape l.tables) l.around (declarator_list (drop l.name-index l.names)) (walked l.out)
    ≡ walk_declarators (tables_shape l.tables) l.around (declarator_list l.names) (walked l.initial.out)
