use Rattle.flow_graph.proofs.Defined.{name_counted}
use Rattle.flow_graph.proofs.counting.count_name.Goals as goal

pub returns-in_ok-def-in-Arrays : goal.returns-in_ok-def-in-Arrays
returns-in_ok-def-in-Arrays c t f = rw c.in-Arrays.is (name_counted t f c.args.name.now.name _ _ _ c.in_ok-variable-in-Arrays.ensures c.in_ok-def-in-Arrays.ensures)

pub returns-in-Function : goal.returns-in-Function
returns-in-Function c t f = rw c.in-Function.is (λ around w e. e)
