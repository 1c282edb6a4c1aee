use Rattle.std.proofs.Common.{◌∙◌}
use Rattle.c_syntax.proofs.Open.{param_open}
use Rattle.c_syntax.proofs.Made.{param_made}
use Rattle.c_types_decl.proofs.Parts.{item_tree, item_given, item_state}
use Rattle.c_types_decl.proofs.parameters.type_item.Goals as goal

pub returns-clause-tree : goal.returns-clause-tree
returns-clause-tree c =
    param_made _ _ _ ∙ item_tree _ _ _ _ _ _ _ _ _ _ (param_open c.args.param.now) c.deref.ensures.value _ _ c.in_ok-type_form.ensures.specs c.in_ok-type_form.ensures.form

pub returns-clause-given : goal.returns-clause-given
returns-clause-given c =
    item_given _ _ _ _ _ _ _ _ _ _ (param_open c.args.param.now) c.deref.ensures.value _ _ c.in_ok-type_form.ensures.given

pub returns-clause-state : goal.returns-clause-state
returns-clause-state c =
    item_state _ _ _ _ _ _ _ _ _ _ (param_open c.args.param.now) c.deref.ensures.value _ c.in_ok-type_form.ensures.state
