use Rattle.flow_graph.proofs.parameters.lay_parameters.Goals as goal

pub returns-in_ok-lay_params-in-Function : goal.returns-in_ok-lay_params-in-Function
returns-in_ok-lay_params-in-Function c t = rw c.in-Function.is (c.in_ok-lay_params-in-Function.ensures t)

pub returns-in_ok-fill-in-Arrays : goal.returns-in_ok-fill-in-Arrays
returns-in_ok-fill-in-Arrays c t =
    rw c.in-Arrays.is (record { grown = c.in_ok-fill-in-Arrays.ensures.grown; laid = λ around w e. c.in_ok-fill-in-Arrays.ensures.laid; counted = λ around w e. e })
