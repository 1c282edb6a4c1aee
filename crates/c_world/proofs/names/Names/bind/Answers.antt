use Rattle.std.proofs.Common.{List, get_or, ap, ◌∙◌}
use Rattle.std.specs.Prelude.{reverse}
use Rattle.c_world.specs.declared.names.Standing.{Standing}
use Rattle.c_world.specs.Names.{nowhere}
use Rattle.c_world.proofs.Counts.{bind_counts}
use Rattle.c_world.proofs.Trails.{bound_here}
use Rattle.c_world.proofs.names.Names.bind.Goals as goal

pub invariant_of-self-in-Ok : goal.invariant_of-self-in-Ok
invariant_of-self-in-Ok c =
    let b = bound_here c.args.self.now c.self.inside.filing c.self.inside.entries.items c.push.new.self.items c.reach.new.locals.items c.args.variable c.args.instance c.self.inside.activation c.self.inside.depth c.local-before.result c.self.view_is c.requires (c.reach.ensures.sound (reverse c.self.inside.entries.items) c.self.invariant.0) c.self.invariant.1 c.self.invariant.2 c.in_ok-reach.ensures.reached (c.local-before.ensures ∙ ap (λ (t : List Standing). get_or t c.args.variable nowhere) c.deref.ensures.value) c.in-Ok.ensures.items in
    (b.sound, b.active, b.deep)

pub returns-in-Ok-clause-counts : goal.returns-in-Ok-clause-counts
returns-in-Ok-clause-counts c =
    bind_counts c.args.self.now c.self.inside.filing c.self.inside.entries.items c.push.new.self.items c.self.inside.locals.items c.args.variable c.args.instance c.local-before.result c.self.view_is c.self.invariant.0 c.requires c.in-Ok.ensures.items
