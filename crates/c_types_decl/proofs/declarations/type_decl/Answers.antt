use Rattle.std.proofs.Common.{ap, sym, ◌∙◌}
use Rattle.c_syntax.proofs.Open.{decl_open}
use Rattle.c_syntax.proofs.Made.{decl_made}
use Rattle.c_tree.specs.Declaring.{type_decl}
use Rattle.c_checker.specs.CheckerView.{state_of}
use Rattle.c_types_decl.proofs.declarations.type_decl.Goals as goal

pub returns-clause-tree : goal.returns-clause-tree
returns-clause-tree c =
    decl_made _ _ _ ∙ c.in_ok-type_parts.ensures.tree ∙ ap (λ d. (type_decl d (state_of c.args.checker.now)).decl) (sym (decl_open c.args.decl.now))
