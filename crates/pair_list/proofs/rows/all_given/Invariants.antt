use Rattle.std.proofs.Common.{ℕ, ◌≡◌, ◌<◌, length, get_or}
use Rattle.flow_walks.specs.declared.action.Action.TheVariants.{Define}
use Rattle.flow_marks.specs.Paths.{action_at, IsReached}
use Rattle.pair_list.specs.Masks.{IsMask}
use Rattle.pair_list.proofs.rows.all_given.Given as goal

abbrev pub invariant-loop-row : goal.invariant-loop-row
invariant-loop-row l = record {
  size : length l.words.items ≡ l.row;
  each : (row : ℕ) → row < l.row → IsMask l.marks l.start (λ m. IsReached l.flow row × (action_at l.flow row ≡ Define m.def)) (get_or l.words.items row 0);
}
