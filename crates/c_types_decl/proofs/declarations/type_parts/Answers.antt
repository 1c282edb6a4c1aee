use Rattle.std.proofs.Common.{ap, ◌∙◌}
use Rattle.c_type_rules.specs.Kinds.{type_in}
use Rattle.c_syntax.specs.View.{spec_list, declarator_list}
use Rattle.c_tree.specs.Declaring.{none_declared}
use Rattle.c_checker.specs.CheckerView.{state_of}
use Rattle.c_types_decl.proofs.Parts.{decl_tree, decl_state}
use Rattle.c_types_decl.proofs.declarations.type_parts.Goals as goal

pub returns-clause-tree : goal.returns-clause-tree
returns-clause-tree c =
    let a = c.none_declared-alone.ensures ∙ ap (λ xs. none_declared (declarator_list xs)) c.deref.ensures.value in
    let k = c.in_ok-kind.ensures in
    decl_tree _ _ _ _ _ _ _ a k.kind k.state _ _ k.tree c.in_ok-type_names.ensures.tree

pub returns-clause-state : goal.returns-clause-state
returns-clause-state c =
    let a = c.none_declared-alone.ensures ∙ ap (λ xs. none_declared (declarator_list xs)) c.deref.ensures.value in
    let k = c.in_ok-kind.ensures in
    decl_state c.args.pos (spec_list c.args.specs.now.items) (declarator_list c.args.names.now.items) _ (type_in c.in_ok-kind.kind) (state_of c.args.checker.now) (state_of c.type_specifiers.new.checker) a k.kind k.state _ c.in_ok-type_names.ensures.state
