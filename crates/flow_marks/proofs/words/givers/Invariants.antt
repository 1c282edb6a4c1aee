use Rattle.std.proofs.Common.{ℕ, ◌≡◌, ◌<◌, get_or}
use Rattle.std.specs.Prelude.{Contains}
use Rattle.flow_marks.proofs.words.givers.Given as goal

abbrev pub invariant-loop-row : goal.invariant-loop-row
invariant-loop-row l = record {
  all : (row : ℕ) → row < l.row → (get_or l.gives row 0 ≡ 0 → ⊥) → Contains l.rows.items row;
  within : (row : ℕ) → Contains l.rows.items row → row < l.row;
}
