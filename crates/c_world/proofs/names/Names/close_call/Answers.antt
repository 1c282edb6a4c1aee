use Rattle.std.proofs.Common.{◌≡◌, length, arith, rules}
use Rattle.c_world.proofs.Trails.{closing, earlier}
use Rattle.c_world.proofs.names.Names.close_call.Goals as goal

pub returns-clause-closed : goal.returns-clause-closed
returns-clause-closed c =
    let n : c.self.inside.entries.len ≡ length c.self.inside.entries.items = search rules in
    closing c.args.self.now c.self.inside.filing c.self.inside.entries.items c.pop.new.self.items c.self.inside.locals.items c.pop.result c.self.view_is c.pop.ensures.items c.self.invariant.0 c.requires (λ h. c.pop.ensures.variant.1 (omega (arith, h, n)))

pub returns-clause-earlier : goal.returns-clause-earlier
returns-clause-earlier c = earlier c.args.self.now c.self.inside.filing c.self.inside.entries.items c.pop.new.self.items c.self.inside.locals.items c.pop.result c.self.view_is c.pop.ensures.items c.self.invariant.0
