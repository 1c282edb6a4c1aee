use Rattle.std.proofs.Common.{ℕ, ◌≡◌, ◌<◌, List, length, get_or}
use Rattle.flow_marks.specs.Paths.{action_at}
use Rattle.pair_list.specs.declared.marks.Mark.{Mark}
use Rattle.pair_list.specs.Marks.{EndsMark}
use Rattle.pair_list.specs.Masks.{IsMask}
use Rattle.pair_list.specs.Tables.{AreTables}
use Rattle.pair_list.proofs.rows.all_stopped.Given as goal

abbrev pub invariant-loop-row : goal.invariant-loop-row
invariant-loop-row l = record {
  size : length l.words.items ≡ l.row;
  each : (marks : List Mark) (start : ℕ) → AreTables marks start l.tables → (row : ℕ) → row < l.row → IsMask marks start (λ m. EndsMark l.sites m (action_at l.flow row)) (get_or l.words.items row 0);
}
