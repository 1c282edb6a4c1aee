use Rattle.std.proofs.Common.{drop}
use Rattle.probe_expr.proofs.Lists.{ArgumentsSoFar}
use Rattle.probe_expr.proofs.nodes.Prober.+probed.Given as goal

abbrev pub invariant-nodes-loop-node : goal.invariant-nodes-loop-node
invariant-nodes-loop-node l = ArgumentsSoFar l.fn.self.numbers l.self.numbers l.made.items (drop l.node-index l.nodes) l.nodes
