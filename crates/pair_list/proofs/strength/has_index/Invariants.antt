use Rattle.std.proofs.Common.{ℕ, ◌≡◌, ◌<◌, ◌+◌, Some}
use Rattle.std.specs.Prelude.{slice_get}
use Rattle.pair_list.proofs.strength.has_index.Given as goal

abbrev pub invariant-loop-i : goal.invariant-loop-i
invariant-loop-i l = (j : ℕ) → j < l.i → ((slice_get l.text j ≡ Some 91) × (slice_get l.text (j + 1) ≡ Some 93)) → ⊥
