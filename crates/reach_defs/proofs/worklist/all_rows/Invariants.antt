use Rattle.std.proofs.Common.{ℕ, ◌≡◌, ◌<◌, length}
use Rattle.std.specs.Prelude.{Contains}
use Rattle.reach_defs.proofs.worklist.all_rows.Given as goal

abbrev pub invariant-loop-row : goal.invariant-loop-row
invariant-loop-row l = record {
  rows : l.worklist.rows ≡ l.rows;
  all : (q : ℕ) → q < l.row → Contains l.worklist.queue q;
  within : (q : ℕ) → Contains l.worklist.queue q → q < l.row;
  count : length l.worklist.queue ≡ l.row;
}
