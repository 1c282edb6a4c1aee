use Rattle.flow_rows.proofs.declarations.lay_maybe_init.Goals as goal

pub returns-in_ok-fill-in-None : goal.returns-in_ok-fill-in-None
returns-in_ok-fill-in-None c x =
    rw c.in-None.is (record { grown = c.in_ok-fill-in-None.ensures.grown; laid = λ around w e. c.in_ok-fill-in-None.ensures.laid; counted = λ around w e. e })

pub returns-in_ok-lay_init-in-Some : goal.returns-in_ok-lay_init-in-Some
returns-in_ok-lay_init-in-Some c x = rw c.in-Some.is (c.in_ok-lay_init-in-Some.ensures x)
