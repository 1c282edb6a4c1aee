use Rattle.std.proofs.Common.{ℕ, ◌≡◌, ◌<◌, ◌≤◌, ◌+◌, ◌-◌, ◌*◌, ◌⊎◌, length, Contains, vec_len}
use Rattle.reach_defs.specs.Held.{held_count}
use Rattle.reach_defs.specs.Passing.{IsSound, IsClosed}
use Rattle.reach_defs.proofs.reaching.reach.Given as goal

abbrev pub invariant-loop-from : goal.invariant-loop-from
invariant-loop-from g l = record {
  height : l.held.height ≡ length l.rows;
  width : l.held.width ≡ vec_len l.marks;
  rows : l.worklist.rows ≡ length l.rows;
  sound : IsSound l.rows l.marks.items l.held;
  waits : (q : ℕ) → Contains l.worklist.queue q ⊎ IsClosed l.rows l.marks.items l.held q;
  within : (q : ℕ) → Contains l.worklist.queue q → q < length l.rows;
  count : l.steps + length l.worklist.queue ≤ l.fn.steps + length l.rows + held_count l.held;
}

abbrev pub decreases-loop-from : goal.decreases-loop-from
decreases-loop-from g l = length l.worklist.queue + (length l.rows * vec_len l.marks - held_count l.held)
