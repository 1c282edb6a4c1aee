use Rattle.std.proofs.Common.{◌∙◌, sym}
use Rattle.c_world.specs.Lives.{call_instances}
use Rattle.c_world.proofs.Written.{either_copied}
use Rattle.c_world.proofs.world.World.copy.Goals as goal

pub invariant_of-self : goal.invariant_of-self
invariant_of-self c =
    let k = either_copied c.args.self.now.store c.copy.new.self c.args.from c.args.to (call_instances c.args.self.now.names.calls) c.copy.result c.copy.ensures.is c.copy.ensures.kept c.args.self.now.living in
    record { living = k.living; counted = c.args.self.now.counted ∙ sym k.count; most = k.most ∙ c.args.self.now.most; active = c.args.self.now.active; within = c.args.self.now.within; limited = c.args.self.now.limited; routed = c.args.self.now.routed; measured = c.args.self.now.measured }
