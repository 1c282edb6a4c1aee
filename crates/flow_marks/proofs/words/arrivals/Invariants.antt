use Rattle.std.proofs.Common.{get_or, ℕ, ◌≡◌, ◌<◌, ◌+◌, ◌-◌, ◌*◌, ◌^◌, ◌⊎◌, length}
use Rattle.std.specs.Prelude.{Contains, sum}
use Rattle.flow_marks.specs.Words.{HasBit, Arrives, IsClosed}
use Rattle.flow_marks.proofs.words.arrivals.Given as goal

abbrev pub invariant-loop-from : goal.invariant-loop-from
invariant-loop-from l = record {
  fits : (row : ℕ) → get_or l.held.items row 0 < 2 ^ 64;
  size : length l.held.items ≡ length l.flow;
  sound : (row i : ℕ) → HasBit l.held.items row i → Arrives l.flow l.gives l.stops row i;
  within : (row : ℕ) → Contains l.waiting.items row → row < length l.flow;
  waits : (row : ℕ) → Contains l.waiting.items row ⊎ IsClosed l.flow l.gives l.stops l.held.items row;
}

abbrev pub decreases-loop-from : goal.decreases-loop-from
decreases-loop-from l = length l.waiting.items + (length l.flow * 2 ^ 64 - sum l.held.items)
