use Rattle.std.proofs.Common.{◌≡◌, length}
use Rattle.std.specs.Prelude.{reverse}
use Rattle.c_meaning.specs.State.{function_in}
use Rattle.c_world.specs.Names.{calls_of}
use Rattle.c_world.proofs.names.last_function.Given as goal

abbrev pub invariant-loop-last : goal.invariant-loop-last
invariant-loop-last l = function_in (calls_of (reverse l.entries)) ≡ function_in (calls_of (reverse l.fn.entries))

abbrev pub decreases-loop-last : goal.decreases-loop-last
decreases-loop-last l = length l.entries
