use Rattle.std.proofs.Common.{rules, ap, ◌∙◌}
use Rattle.c_syntax.specs.View.{spec_list, params_shape, compound_shape}
use Rattle.c_tree.specs.Units.{TypedExternal}
use Rattle.c_checker.specs.CheckerView.{state_of}
use Rattle.c_types.proofs.Definitions.{as_function, function_tree}
use Rattle.c_types.proofs.externals.type_behind.Goals as goal

pub returns-in_ok-type_defined-in-Function-clause-tree : goal.returns-in_ok-type_defined-in-Function-clause-tree
returns-in_ok-type_defined-in-Function-clause-tree c =
    function_tree (spec_list c.type_defined.new.specs.items) c.args.stars.now c.args.name.now _ (params_shape c.type_defined.new.params) c.args.marks.now (compound_shape c.type_defined.new.body) _ (search rules)
    (c.in_ok-type_defined-in-Function.ensures.tree ∙ ap (λ (e : TypedExternal). e.external) (as_function (spec_list c.args.specs.now.items) c.args.stars.now c.args.name.now c.args.marks.now (compound_shape c.args.body.now) (state_of c.args.checker.now) c.args.form.now c.in-Function.params _ c.in-Function.is c.in-Function.params-is))

pub returns-in_ok-type_defined-in-Function-clause-state : goal.returns-in_ok-type_defined-in-Function-clause-state
returns-in_ok-type_defined-in-Function-clause-state c =
    c.in_ok-type_defined-in-Function.ensures.state ∙ ap (λ (e : TypedExternal). e.state) (as_function (spec_list c.args.specs.now.items) c.args.stars.now c.args.name.now c.args.marks.now (compound_shape c.args.body.now) (state_of c.args.checker.now) c.args.form.now c.in-Function.params _ c.in-Function.is c.in-Function.params-is)
