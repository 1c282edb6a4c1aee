use Rattle.std.proofs.Common.{◌∙◌, Some, refl}
use Rattle.c_world.specs.World.{state_of}
use Rattle.c_eval.specs.Rest.{left}
use Rattle.c_eval.proofs.Roles.{truth_taken}
use Rattle.c_eval.proofs.work.Work.finish.Goals as goal

pub returns-in-Truth-clause-rest : goal.returns-in-Truth-clause-rest
returns-in-Truth-clause-rest c = λ t k h.
    let s = state_of c.args.world.now h in
    c.now.ensures.rest t k s ∙ truth_taken t k c.args.node.now c.args.wait (Some c.args.value) c.args.value c.truth_at.result s (left t k c.args.self.now) c.in-Truth.is refl c.truth_at.ensures
