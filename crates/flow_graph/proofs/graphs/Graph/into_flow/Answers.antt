use Rattle.std.proofs.Common.{sym}
use Rattle.flow_graph.proofs.Flowing.{flow_spells, flow_some, flow_few, flow_within}
use Rattle.flow_graph.proofs.graphs.Graph.into_flow.Goals as goal

pub returns-clause-some : goal.returns-clause-some
returns-clause-some c = rw c.in_ok-flow.ensures (flow_some c.self.inside.rows.items c.self.inside.last c.self.invariant)

pub returns-clause-few : goal.returns-clause-few
returns-clause-few c = rw c.in_ok-flow.ensures (flow_few c.self.inside.rows.items c.self.inside.last c.self.invariant)

pub returns-clause-in_range : goal.returns-clause-in_range
returns-clause-in_range c = rw c.in_ok-flow.ensures (flow_within c.self.inside.rows.items c.self.inside.last c.self.invariant)

pub returns-clause-walks : goal.returns-clause-walks
returns-clause-walks c = rw (c.in_ok-flow.ensures, sym c.self.view_is) (flow_spells c.self.inside.rows.items)
