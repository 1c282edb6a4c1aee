use Rattle.std.proofs.Common.{replicate, true, None}
use Rattle.c_world.proofs.Made.{placed_on}
use Rattle.c_world.proofs.world.World.place.Goals as goal

pub invariant_of-self-in-Ok : goal.invariant_of-self-in-Ok
invariant_of-self-in-Ok c =
    let g = placed_on c.args.self.now.names c.bind.new.self c.args.self.now.store c.make.new.self true (replicate c.args.cells None) c.args.variable c.in-Ok.instance c.args.self.now.last c.bind.result c.args.self.now.living c.args.self.now.most c.args.self.now.active c.requires c.in-Ok.ensures.is.0 c.in-Ok.ensures.is.1 c.bind.ensures.bound c.bind.ensures.kept in
    record { living = g.living; counted = g.counted; most = g.most; active = g.active; within = c.args.self.now.within; limited = c.args.self.now.limited; routed = c.args.self.now.routed; measured = c.args.self.now.measured }
