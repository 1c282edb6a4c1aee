use Rattle.std.proofs.Common.{ℕ, ◌≡◌, ◌≤◌, ◌<◌, ◌+◌}
use Rattle.flow_walks.specs.declared.action.Action.TheVariants.{Use}
use Rattle.flow_marks.specs.Paths.{action_at}
use Rattle.pair_list.proofs.spans.span_of.Given as goal

abbrev pub invariant-loop-row : goal.invariant-loop-row
invariant-loop-row l = record {
  all : (row u : ℕ) → row < l.row → action_at l.flow row ≡ Use u → 1 ≤ u → u ≤ l.uses → (l.span.low ≤ u) × (u < l.span.high);
  order : (1 ≤ l.span.low) × (l.span.low ≤ l.span.high);
  within : l.span.high ≤ l.uses + 1;
}
