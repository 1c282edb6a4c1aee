use Rattle.std.proofs.Common.{◌≡◌, ◌++◌, ◌∷◌, [], arith}
use Rattle.std.proofs.lemmas.Grind.{common_steps}
use Rattle.c_world.specs.declared.names.Entry.TheVariants as entry
use Rattle.c_world.proofs.Trails.{undone_here}
use Rattle.c_world.proofs.names.Names.unbind.Goals as goal

pub returns-in-Some-Name : goal.returns-in-Some-Name
returns-in-Some-Name c =
    let items : c.self.inside.entries.items ≡ c.pop-last.new.self.items ++ entry.Name c.in-Some-Name.variable c.in-Some-Name.instance c.in-Some-Name.before ∷ [] = grind (arith, common_steps, c.pop-last.ensures, c.last.ensures, c.deref.ensures, c.in-Some-Name.is, c.in-Some-Name.field-0-is) in
    undone_here c.args.self.now c.self.inside.filing c.self.inside.entries.items c.pop-last.new.self.items c.self.inside.locals.items c.in-Some-Name.variable c.in-Some-Name.instance c.in-Some-Name.before c.self.view_is c.self.invariant.0 items
