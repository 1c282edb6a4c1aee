use Rattle.c_syntax.specs.View.{spec_list, decl_form_shape, maybe_init, compound_shape}
use Rattle.c_checker.specs.CheckerView.{state_of}
use Rattle.c_types.proofs.Definitions.{init_tree, init_state}
use Rattle.c_types.proofs.externals.type_body.Goals as goal

pub returns-clause-tree : goal.returns-clause-tree
returns-clause-tree c =
    init_tree (maybe_init c.args.name.now.init) (spec_list c.args.specs.now.items) c.args.name.now.stars.items c.deref.result.now c.args.name.now.name c.args.marks.now (compound_shape c.args.body.now) (state_of c.args.checker.now) c.deref.ensures.value
    (decl_form_shape c.args.name.now.form) (spec_list c.type_behind.new.specs.items) (decl_form_shape c.type_behind.new.form) (compound_shape c.type_behind.new.body) c.in_ok-type_behind.ensures.tree

pub returns-clause-state : goal.returns-clause-state
returns-clause-state c =
    init_state (maybe_init c.args.name.now.init) (spec_list c.args.specs.now.items) c.args.name.now.stars.items c.deref.result.now c.args.name.now.name c.args.marks.now (compound_shape c.args.body.now) (state_of c.args.checker.now) c.deref.ensures.value
    (decl_form_shape c.args.name.now.form) _ c.in_ok-type_behind.ensures.state
