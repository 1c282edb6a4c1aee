use Rattle.std.proofs.Common.{◌≡◌, drop}
use Rattle.c_syntax.specs.View.{decl_list}
use Rattle.c_tables.specs.Tables.{tables_shape}
use Rattle.c_walk.specs.Stating.{walk_decls}
use Rattle.c_walk.specs.WalkerView.{walked}
use Rattle.c_walk.proofs.stating.walk_decls.Given as goal

abbrev pub invariant-loop-decl : goal.invariant-loop-decl
invariant-loop-decl l =
    walk_decls (tables_shape l.tables) l.around (decl_list (drop l.decl-index l.decls)) (walked l.out)
    ≡ walk_decls (tables_shape l.tables) l.around (decl_list l.decls) (walked l.initial.out)
