use Rattle.std.proofs.Common.{suc, ◌-◌, List}
use Rattle.c_meaning.specs.State.{Bound}
use Rattle.c_compute.specs.Filing.{IsFiled}
use Rattle.c_compute.proofs.filing.reach.Given as goal

abbrev pub invariant-loop-instances : goal.invariant-loop-instances
invariant-loop-instances l = (bs : List Bound) → IsFiled bs l.fn.instances.items → IsFiled bs l.instances.items

abbrev pub decreases-loop-instances : goal.decreases-loop-instances
decreases-loop-instances l = suc l.variable - l.instances.len
