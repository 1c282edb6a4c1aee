use Rattle.std.proofs.Common.{◌≡◌, drop}
use Rattle.c_syntax.specs.View.{node_list}
use Rattle.c_walk.specs.Walking.{walk_nodes}
use Rattle.c_walk.specs.WalkerView.{walked}
use Rattle.c_walk.proofs.walking.+expression.Given as goal

abbrev pub invariant-walk_nodes-loop-node : goal.invariant-walk_nodes-loop-node
invariant-walk_nodes-loop-node l = walk_nodes l.around (node_list (drop l.node-index l.nodes)) (walked l.out) ≡ walk_nodes l.around (node_list l.nodes) (walked l.initial.out)
