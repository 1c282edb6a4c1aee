-- The optional parts of the code's trees as those of a shape.
use Rattle.std.specs.Prelude.{Option, Some, None}
use Rattle.std.specs.declared.vec.Vec.{Vec}
use Rattle.std.specs.declared.boxed.Box.{Box}
use Rattle.std.specs.declared.alloc.Global.{Global}
use Rattle.c_syntax.specs.declared.tree.Decl.{Decl}
use Rattle.c_syntax.specs.declared.tree.Enumer.{Enumer}
use Rattle.c_syntax.specs.declared.tree.Stmt.{Stmt}
use Rattle.c_syntax.specs.Shape.{NodeShape, MaybeDecls, no_members, members, MaybeEnumers, no_rows, rows, StmtShape, FormShape, when, either}
use Rattle.c_syntax.specs.View.{decl_list, enumer_list, stmt_shape}

abbrev pub maybe_members : Option (Vec Decl Global) → MaybeDecls
maybe_members None = no_members
maybe_members (Some v) = members (decl_list v.items)

abbrev pub maybe_rows : Option (Vec Enumer Global) → MaybeEnumers
maybe_rows None = no_rows
maybe_rows (Some v) = rows (enumer_list v.items)

-- an `if`, and the statement behind its `else`, where it has one
abbrev pub if_form : NodeShape → StmtShape → Option (Box Stmt Global) → FormShape
if_form n s None = when n s
if_form n s (Some t) = either n s (stmt_shape t.value)
