use Rattle.std.proofs.Common.{◌≡◌, ◌+◌, ◌-◌, ℕ, None, vec_len}
use Rattle.std.specs.Prelude.{get_or}
use Rattle.c_plan.proofs.routines.reach.Given as goal

abbrev pub invariant-loop-rows : goal.invariant-loop-rows
invariant-loop-rows l = (f : ℕ) → get_or l.rows.items f None ≡ get_or l.fn.rows.items f None

abbrev pub decreases-loop-rows : goal.decreases-loop-rows
decreases-loop-rows l = l.function + 1 - vec_len l.rows
