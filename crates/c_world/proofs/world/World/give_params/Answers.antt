use Rattle.c_world.specs.World.{state_of, tables_of, answered}
use Rattle.c_world.proofs.Given.{given_list}
use Rattle.c_world.proofs.world.World.give_params.Goals as goal

pub returns-in_ok-stopped-in-List-clause-done : goal.returns-in_ok-stopped-in-List-clause-done
returns-in_ok-stopped-in-List-clause-done c = λ h.
    given_list (tables_of c.args.self.now) c.args.params.now c.in-List.list c.deref.result.now c.args.before c.args.args.now (state_of c.args.self.now h) (answered c.in_ok-stopped-in-List.stopped (state_of c.give_all.new.self h)) c.in-List.is c.deref.ensures.value (c.in_ok-stopped-in-List.ensures.done h)
