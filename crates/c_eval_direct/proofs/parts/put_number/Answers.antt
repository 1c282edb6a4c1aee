use Rattle.std.proofs.Common.{refl}
use Rattle.c_eval_once.proofs.Once.{no_turns}
use Rattle.c_eval_direct.proofs.parts.put_number.Goals as goal

pub returns-then-not-turn-clause-turns : goal.returns-then-not-turn-clause-turns
returns-then-not-turn-clause-turns c = no_turns c.args.world.now c.turn.new.self (c.if-not-turn.ensures.none refl)
