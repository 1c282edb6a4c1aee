use Rattle.std.proofs.Common.{ℕ, ◌≡◌, ◌<◌, ◌↔◌, length, get_or, true, false}
use Rattle.flow_marks.specs.Paths.{IsReached}
use Rattle.pair_list.proofs.reached.reached_rows.Given as goal

abbrev pub invariant-loop-row : goal.invariant-loop-row
invariant-loop-row l = record {
  count : length l.flags.items ≡ l.row;
  each : (row : ℕ) → row < l.row → (get_or l.flags.items row false ≡ true) ↔ IsReached l.flow row;
}
