-- The pairs that wait for the end of a decision in an activation, in the order of the activations.
use Rattle.std.specs.Prelude.{◌≡◌, ℕ, Bool, not, ◌&&◌, nat_eq, ◌<◌, ◌≤◌, List, length, slice_index_or}
use Rattle.std.specs.List.{filter}
use Rattle.std.specs.List.Sorted.{IsNonDecreasingBy}
use Rattle.cover_parts.specs.declared.pending.Wait.{Wait}

abbrev pub InOrder : List Wait → Type 0
InOrder waits = IsNonDecreasingBy (λ w. w.activation) waits

abbrev pub is_in : ℕ → Wait → Bool
is_in a w = nat_eq w.activation a

-- for decision k in activation a
abbrev pub is_for : ℕ → ℕ → Wait → Bool
is_for k a w = nat_eq w.activation a && nat_eq w.decision k

-- those of an activation
abbrev pub those_in : ℕ → List Wait → List Wait
those_in a waits = filter (is_in a) waits

-- those that wait for no such end
abbrev pub others : ℕ → ℕ → List Wait → List Wait
others k a waits = filter (λ w. not (is_for k a w)) waits

-- an activation's stand from low on, up to high
pub record Bounds (a : ℕ) (waits : List Wait) (low high : ℕ) : Type 0 where
  pub order : low ≤ high
  pub within : high ≤ length waits
  pub before : (k : ℕ) (d : Wait) → k < low → (slice_index_or waits k d).activation < a
  pub inside : (k : ℕ) (d : Wait) → low ≤ k → k < high → (slice_index_or waits k d).activation ≡ a
  pub after : (k : ℕ) (d : Wait) → high ≤ k → k < length waits → a < (slice_index_or waits k d).activation
