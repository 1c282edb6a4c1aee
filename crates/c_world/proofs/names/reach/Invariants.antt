use Rattle.std.proofs.Common.{suc, ◌-◌, List}
use Rattle.c_world.specs.declared.names.Entry.{Entry}
use Rattle.c_world.specs.Names.{Sound}
use Rattle.c_world.proofs.names.reach.Given as goal

abbrev pub invariant-loop-standing : goal.invariant-loop-standing
invariant-loop-standing l = (es : List Entry) → Sound es l.fn.locals.items → Sound es l.locals.items

abbrev pub decreases-loop-standing : goal.decreases-loop-standing
decreases-loop-standing l = suc l.variable - l.locals.len
