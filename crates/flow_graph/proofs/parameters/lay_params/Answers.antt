use Rattle.std.proofs.Common.{List, sym, ap, ◌∙◌}
use Rattle.c_syntax.specs.declared.tree.Param.{Param}
use Rattle.c_syntax.specs.Shape.{params}
use Rattle.c_syntax.specs.View.{params_shape, param_list}
use Rattle.c_syntax.proofs.Open.{params_open}
use Rattle.flow_graph.proofs.Defined.{list_placed}
use Rattle.flow_graph.proofs.parameters.lay_params.Goals as goal

pub returns-in_ok-lay_param_list-in-List : goal.returns-in_ok-lay_param_list-in-List
returns-in_ok-lay_param_list-in-List c t =
    list_placed t _ _ _ _ c.args.at c.args.to (params_shape c.args.list.now) (param_list c.deref.result.now)
    (ap params_shape c.in-List.is ∙ params_open c.in-List.list ∙ ap (λ (l : List Param). params (param_list l)) (sym c.deref.ensures.value)) (c.in_ok-lay_param_list-in-List.ensures t)

pub returns-in_ok-fill-in-Empty : goal.returns-in_ok-fill-in-Empty
returns-in_ok-fill-in-Empty c t =
    rw c.in-Empty.is (record { grown = c.in_ok-fill-in-Empty.ensures.grown; laid = λ around w e. c.in_ok-fill-in-Empty.ensures.laid; counted = λ around w e. e })

pub returns-in_ok-fill-in-Void : goal.returns-in_ok-fill-in-Void
returns-in_ok-fill-in-Void c t =
    rw c.in-Void.is (record { grown = c.in_ok-fill-in-Void.ensures.grown; laid = λ around w e. c.in_ok-fill-in-Void.ensures.laid; counted = λ around w e. e })
