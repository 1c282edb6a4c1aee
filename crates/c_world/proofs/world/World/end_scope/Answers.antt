use Rattle.c_world.proofs.Scopes.{scope_gone}
use Rattle.c_world.proofs.world.World.end_scope.Goals as goal

pub invariant_of-self : goal.invariant_of-self
invariant_of-self c =
    let g = scope_gone c.args.self.now.names c.end_bindings.new.names c.close_scope.new.self c.args.self.now.store c.end_bindings.new.store c.args.self.now.made c.args.self.now.last c.args.self.now.living c.args.self.now.counted c.args.self.now.most c.args.self.now.active c.end_bindings.ensures c.close_scope.ensures in
    record { living = g.living; counted = g.counted; most = g.most; active = g.active; within = c.args.self.now.within; limited = c.args.self.now.limited; routed = c.args.self.now.routed; measured = c.args.self.now.measured }
