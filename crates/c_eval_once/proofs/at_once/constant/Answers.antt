use Rattle.std.proofs.Common.{ap, refl}
use Rattle.c_syntax.specs.View.{node_shape}
use Rattle.c_world.specs.World.{state_of}
use Rattle.c_eval_once.specs.Parts.{value, one_more}
use Rattle.c_eval_once.proofs.Once.{no_turns, meets_as}
use Rattle.c_eval_once.proofs.at_once.constant.Goals as goal

pub returns-then-not-turn-clause-turns : goal.returns-then-not-turn-clause-turns
returns-then-not-turn-clause-turns c = no_turns c.args.world.now c.turn.new.self (c.if-not-turn.ensures.none refl)

pub returns-clause-is : goal.returns-clause-is
returns-clause-is c = λ t k h.
    let s = state_of c.turn.new.self h in
    meets_as c.leaf.result s (value t k (node_shape c.args.node.now) (state_of c.args.world.now h)) (value t k (node_shape c.args.node.now) (one_more s)) (ap (value t k (node_shape c.args.node.now)) (c.if-not-turn.ensures.taken refl h)) (c.leaf.ensures t k s)
