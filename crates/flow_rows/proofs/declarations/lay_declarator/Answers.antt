use Rattle.flow_rows.proofs.declarations.lay_declarator.Goals as goal

pub returns-in_ok-lay_variable-in-Arrays : goal.returns-in_ok-lay_variable-in-Arrays
returns-in_ok-lay_variable-in-Arrays c = rw c.in-Arrays.is (c.in_ok-lay_variable-in-Arrays.ensures c.args.name.now.name)

pub returns-in_ok-fill-in-Function : goal.returns-in_ok-fill-in-Function
returns-in_ok-fill-in-Function c =
    rw c.in-Function.is (record { grown = c.in_ok-fill-in-Function.ensures.grown; laid = λ around w e. c.in_ok-fill-in-Function.ensures.laid; counted = λ around w e. e })
