use Rattle.flow_graph.proofs.Reading.{next_within}
use Rattle.flow_graph.proofs.graphs.Graph.next.Goals as goal

pub returns-clause-within : goal.returns-clause-within
returns-clause-within c =
    next_within c.args.self.now c.self.inside.rows.items c.self.inside.last c.args.row c.index-it.result.now c.deref.result.now c.self.view_is c.requires c.index-it.ensures c.deref.ensures.value c.self.invariant
