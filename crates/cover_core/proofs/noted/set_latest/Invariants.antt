-- What is added while the list grows is no pair.
use Rattle.std.proofs.Common.{◌≡◌, ℕ, suc, ◌-◌, Some, length, slice_get}
use Rattle.cover_core.proofs.noted.set_latest.Given as goal

abbrev pub invariant-loop-latest : goal.invariant-loop-latest
invariant-loop-latest l = (u d : ℕ) → slice_get l.latest.items u ≡ Some (Some d) → slice_get l.initial.latest.items u ≡ Some (Some d)

abbrev pub decreases-loop-latest : goal.decreases-loop-latest
decreases-loop-latest l = suc l.user - length l.latest.items
