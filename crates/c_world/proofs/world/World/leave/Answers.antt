use Rattle.c_world.proofs.Scopes.{call_gone, one_left}
use Rattle.c_world.proofs.world.World.leave.Goals as goal

pub invariant_of-self : goal.invariant_of-self
invariant_of-self c =
    let g = call_gone c.args.self.now.names c.end_bindings.new.names c.close_call.new.self c.args.self.now.store c.end_bindings.new.store c.args.self.now.made c.args.self.now.last c.args.self.now.living c.args.self.now.counted c.args.self.now.most c.args.self.now.active c.end_bindings.ensures (one_left c.args.self.now.names c.end_bindings.new.names c.args.self.now.store c.end_bindings.new.store c.end_bindings.ensures c.requires) c.close_call.ensures.closed c.close_call.ensures.earlier in
    record { living = g.living; counted = g.counted; most = g.most; active = g.active; within = c.args.self.now.within; limited = c.args.self.now.limited; routed = c.args.self.now.routed; measured = c.args.self.now.measured }
