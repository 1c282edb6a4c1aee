-- What is added while the list grows is no mark.
use Rattle.std.proofs.Common.{◌≡◌, ℕ, suc, ◌-◌, Some, true, length, slice_get}
use Rattle.cover_core.proofs.noted.mark.Given as goal

abbrev pub invariant-loop-blocks : goal.invariant-loop-blocks
invariant-loop-blocks l = (k : ℕ) → slice_get l.blocks.items k ≡ Some true → slice_get l.initial.blocks.items k ≡ Some true

abbrev pub decreases-loop-blocks : goal.decreases-loop-blocks
decreases-loop-blocks l = suc l.block - length l.blocks.items
