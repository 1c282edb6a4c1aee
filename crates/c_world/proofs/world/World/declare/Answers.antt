use Rattle.std.proofs.Common.{◌∙◌, ap, sym}
use Rattle.c_world.specs.Steps.{declared}
use Rattle.c_world.specs.World.{state_of, tables_of}
use Rattle.c_world.proofs.Declares.{declares}
use Rattle.c_world.proofs.world.World.declare.Goals as goal

pub returns-clause-named : goal.returns-clause-named
returns-clause-named c = λ h k stars x ls n e. declares (tables_of c.args.self.now) k stars x ls n (state_of c.args.self.now h) ∙ ap (λ v. declared (tables_of c.args.self.now) v (state_of c.args.self.now h)) (sym e) ∙ c.in_ok-stopped.ensures.done h
