use Rattle.std.proofs.Common.{List, get_or, ap, ◌∙◌}
use Rattle.c_world.specs.declared.names.Standing.{Standing}
use Rattle.std.specs.Prelude.{reverse}
use Rattle.c_world.specs.Names.{nowhere}
use Rattle.c_world.proofs.Trails.{stands_local, stands_filed}
use Rattle.c_world.proofs.names.Names.instance.Goals as goal

pub returns-in-Some : goal.returns-in-Some
returns-in-Some c = stands_local c.args.self.now c.self.inside.filing (reverse c.self.inside.entries.items) c.self.inside.locals.items c.local.result c.args.variable c.self.inside.activation c.in-Some.instance c.bound_in.result c.self.view_is c.self.invariant.0 c.self.invariant.1 (c.local.ensures ∙ ap (λ (t : List Standing). get_or t c.args.variable nowhere) c.deref.ensures.value) c.bound_in.ensures c.in-Some.is

pub returns-in-None : goal.returns-in-None
returns-in-None c = stands_filed c.args.self.now c.self.inside.filing (reverse c.self.inside.entries.items) c.self.inside.locals.items c.local.result c.args.variable c.self.inside.activation c.bound_in.result c.instance.result c.self.view_is c.self.invariant.0 c.self.invariant.1 (c.local.ensures ∙ ap (λ (t : List Standing). get_or t c.args.variable nowhere) c.deref.ensures.value) c.bound_in.ensures c.in-None.is c.instance.ensures
