use Rattle.c_syntax.specs.View.{spec_list, params_shape, compound_shape}
use Rattle.c_checker.specs.CheckerView.{state_of}
use Rattle.c_types.proofs.Definitions.{defined_tree, defined_state}
use Rattle.c_types.proofs.externals.type_defined.Goals as goal

pub returns-clause-tree : goal.returns-clause-tree
returns-clause-tree c =
    defined_tree (spec_list c.args.specs.now.items) c.args.stars.now c.args.name.now (params_shape c.args.params.now) c.args.marks.now (compound_shape c.args.body.now) (state_of c.args.checker.now)
    _ _ _ _ c.in_ok-kind.ensures.tree c.in_ok-kind.ensures.kind c.in_ok-kind.ensures.state c.in_ok-gives.ensures
    _ _ _ c.in_ok-declared.ensures.number c.in_ok-declared.ensures.given c.in_ok-declared.ensures.state _ _ c.in_ok-declared.ensures.tree c.in_ok-type_definition.ensures.tree

pub returns-clause-state : goal.returns-clause-state
returns-clause-state c =
    defined_state (spec_list c.args.specs.now.items) c.args.stars.now c.args.name.now (params_shape c.args.params.now) c.args.marks.now (compound_shape c.args.body.now) (state_of c.args.checker.now)
    _ _ _ _ c.in_ok-kind.ensures.tree c.in_ok-kind.ensures.kind c.in_ok-kind.ensures.state c.in_ok-gives.ensures
    _ _ _ c.in_ok-declared.ensures.number c.in_ok-declared.ensures.given c.in_ok-declared.ensures.state _ c.in_ok-type_definition.ensures.state
