use Rattle.std.proofs.Common.{◌≡◌, drop}
use Rattle.c_syntax.specs.View.{param_list}
use Rattle.c_tables.specs.Tables.{tables_shape}
use Rattle.c_walk.specs.Units.{define_decls}
use Rattle.c_walk.specs.WalkerView.{walked}
use Rattle.c_walk.proofs.units.define_param_list.Given as goal

abbrev pub invariant-loop-param : goal.invariant-loop-param
invariant-loop-param l =
    define_decls (tables_shape l.tables) l.function (param_list (drop l.param-index l.list)) (walked l.out)
    ≡ define_decls (tables_shape l.tables) l.function (param_list l.list) (walked l.initial.out)
