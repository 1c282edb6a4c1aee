use Rattle.std.specs.Prelude.{reverse}
use Rattle.c_compute.specs.Filing.{file_of}
use Rattle.c_compute.proofs.Filings.{filed_here}
use Rattle.c_compute.proofs.filing.Filing.bind.Goals as goal

pub invariant_of-self-in-Ok : goal.invariant_of-self-in-Ok
invariant_of-self-in-Ok c = filed_here c.self.inside.filed.items c.push.new.self.items c.reach.new.instances.items c.args.variable c.args.instance (c.reach.ensures.filed (file_of (reverse c.self.inside.filed.items)) c.self.invariant) c.in_ok-reach.ensures.reached c.in-Ok.ensures.items
