use Rattle.std.proofs.Common.{length}
use Rattle.c_meaning.specs.State.{top_within}
use Rattle.c_world.specs.Lives.{Emptying}
use Rattle.c_world.proofs.world.scopes.end_bindings.Given as goal

abbrev pub invariant-loop-instance : goal.invariant-loop-instance
invariant-loop-instance l = Emptying l.fn.names l.names l.fn.store l.store

abbrev pub decreases-loop-instance : goal.decreases-loop-instance
decreases-loop-instance l = length (top_within l.names.calls)
