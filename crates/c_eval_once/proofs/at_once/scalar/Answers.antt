use Rattle.std.proofs.Common.{◌∙◌, Ok, Err, ap, refl}
use Rattle.c_store.specs.Cells.{read_of}
use Rattle.c_meaning.specs.Results.{then_do}
use Rattle.c_meaning.specs.Expressions.{gives}
use Rattle.c_world.specs.World.{state_of}
use Rattle.c_eval_once.proofs.Once.{no_turns, no_scalar, a_scalar}
use Rattle.c_eval_once.proofs.at_once.scalar.Goals as goal

pub returns-then-not-turn-clause-turns : goal.returns-then-not-turn-clause-turns
returns-then-not-turn-clause-turns c = no_turns c.args.world.now c.turn.new.self (c.if-not-turn.ensures.none refl)

pub returns-in-None-clause-is : goal.returns-in-None-clause-is
returns-in-None-clause-is c = λ h. ap (λ r. then_do r gives) (no_scalar c.args.number (state_of c.args.world.now h) (state_of c.turn.new.self h) (c.if-not-turn.ensures.taken refl h) (c.in-None.ensures h))

pub returns-in-Ok-clause-is : goal.returns-in-Ok-clause-is
returns-in-Ok-clause-is c = λ h. ap (λ r. then_do r gives) (a_scalar c.args.number c.in-Some.instance (Ok c.in-Ok.value) (state_of c.args.world.now h) (state_of c.turn.new.self h) (c.if-not-turn.ensures.taken refl h) (c.in-Some.ensures h) (c.in-Ok.ensures ∙ ap (λ q. read_of c.turn.new.self.store q) c.whole.ensures))

pub returns-in-Err-clause-is : goal.returns-in-Err-clause-is
returns-in-Err-clause-is c = λ h. ap (λ r. then_do r gives) (a_scalar c.args.number c.in-Some.instance (Err c.in-Err.fault) (state_of c.args.world.now h) (state_of c.turn.new.self h) (c.if-not-turn.ensures.taken refl h) (c.in-Some.ensures h) (c.in-Err.ensures ∙ ap (λ q. read_of c.turn.new.self.store q) c.whole.ensures))
