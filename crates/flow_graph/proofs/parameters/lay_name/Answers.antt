use Rattle.flow_graph.proofs.Defined.{parameter_placed}
use Rattle.flow_graph.proofs.parameters.lay_name.Goals as goal

pub returns-in_ok-fill-in-Arrays : goal.returns-in_ok-fill-in-Arrays
returns-in_ok-fill-in-Arrays c t =
    rw c.in-Arrays.is (parameter_placed t c.args.name.now.name _ _ _ _ _ c.in_ok-number-in-Arrays.number c.args.at c.args.to c.in_ok-fill-in-Arrays.ensures.grown c.in_ok-fill-in-Arrays.ensures.laid
    c.in_ok-variable-in-Arrays.ensures c.in_ok-number-in-Arrays.ensures c.in_ok-def-in-Arrays.ensures)

pub returns-in_ok-fill-in-Function : goal.returns-in_ok-fill-in-Function
returns-in_ok-fill-in-Function c t =
    rw c.in-Function.is (record { grown = c.in_ok-fill-in-Function.ensures.grown; laid = λ around w e. c.in_ok-fill-in-Function.ensures.laid; counted = λ around w e. e })
