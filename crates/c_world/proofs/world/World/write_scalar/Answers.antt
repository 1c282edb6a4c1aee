use Rattle.std.proofs.Common.{◌∙◌, ap, sym}
use Rattle.c_meaning.specs.State.{tells}
use Rattle.c_meaning.specs.Places.{whole}
use Rattle.c_world.specs.Steps.{stored_at}
use Rattle.c_world.specs.World.{state_of}
use Rattle.c_world.proofs.Marked.{stored_is}
use Rattle.c_world.proofs.world.World.write_scalar.Goals as goal

pub returns-clause-done : goal.returns-clause-done
returns-clause-done c = λ h.
    stored_is tells c.args.name.now 0 (whole c.args.instance 1) c.args.value (state_of c.args.self.now h) ∙
    ap (λ x. stored_at x (whole c.args.instance 1) c.args.value (state_of c.args.self.now h)) (sym c.name_site.ensures) ∙
    ap (λ q. stored_at c.name_site.result q c.args.value (state_of c.args.self.now h)) (sym c.whole.ensures) ∙
    c.in_ok-stopped.ensures.done h
