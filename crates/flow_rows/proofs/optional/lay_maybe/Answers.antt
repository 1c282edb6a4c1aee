use Rattle.flow_rows.proofs.optional.lay_maybe.Goals as goal

pub returns-in_ok-fill-in-None : goal.returns-in_ok-fill-in-None
returns-in_ok-fill-in-None c =
    rw c.in-None.is (record { grown = c.in_ok-fill-in-None.ensures.grown; laid = λ around w e. c.in_ok-fill-in-None.ensures.laid; counted = λ around w e. e })

pub returns-in_ok-lay_node-in-Some : goal.returns-in_ok-lay_node-in-Some
returns-in_ok-lay_node-in-Some c = rw c.in-Some.is c.in_ok-lay_node-in-Some.ensures
