use Rattle.std.proofs.Common.{◌≡◌, length}
use Rattle.c_syntax.specs.View.{declarator_list, decl_list}
use Rattle.c_plan.specs.Names.{joined, names_of}
use Rattle.c_plan.proofs.block.Block.next.Given as goal

abbrev pub invariant-loop-name : goal.invariant-loop-name
invariant-loop-name l = joined (declarator_list l.names) (names_of (decl_list l.decls)) ≡ joined (declarator_list l.initial.names) (names_of (decl_list l.initial.decls))

abbrev pub decreases-loop-name : goal.decreases-loop-name
decreases-loop-name l = length l.decls
