use Rattle.std.proofs.Common.{◌∙◌, ◌+◌, ap, arith}
use Rattle.c_meaning.specs.Results.{Gives, Stops}
use Rattle.c_world.specs.Steps.{placed_or}
use Rattle.c_world.specs.World.{state_of, tables_of}
use Rattle.c_world.proofs.Given.{given_at}
use Rattle.c_world.proofs.world.World.give.Goals as goal

pub returns-in-Stopped-clause-done : goal.returns-in-Stopped-clause-done
returns-in-Stopped-clause-done c = λ h. given_at (tables_of c.args.self.now) c.args.param.now c.in-Arrays.field-0 c.args.before (c.args.before + 1) c.args.value (state_of c.args.self.now h) (Stops c.in-Stopped.why (state_of c.place_variable.new.self h)) c.in-Arrays.is (omega arith) (c.in_ok-why-in-Arrays.ensures.done h ∙ ap (λ r. placed_or r (state_of c.place_variable.new.self h)) c.in-Stopped.is)

pub returns-in_ok-stopped-in-At-clause-done : goal.returns-in_ok-stopped-in-At-clause-done
returns-in_ok-stopped-in-At-clause-done c = λ h.
    given_at (tables_of c.args.self.now) c.args.param.now c.in-Arrays.field-0 c.args.before (c.args.before + 1) c.args.value (state_of c.args.self.now h) (Gives c.in-At.instance (state_of c.place_variable.new.self h)) c.in-Arrays.is (omega arith) (c.in_ok-why-in-Arrays.ensures.done h ∙ ap (λ r. placed_or r (state_of c.place_variable.new.self h)) c.in-At.is) ∙ c.in_ok-stopped-in-At.ensures.done h
