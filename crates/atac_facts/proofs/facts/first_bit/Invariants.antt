-- The words so far have no bit.
use Rattle.std.proofs.Common.{◌≡◌, ◌<◌, ◌≤◌, ℕ}
use Rattle.std.specs.Int.{bit_at}
use Rattle.atac_facts.specs.Sets.{word_at}
use Rattle.atac_facts.proofs.facts.first_bit.Given as goal

abbrev pub invariant-loop-i : goal.invariant-loop-i
invariant-loop-i l = (j : ℕ) → l.start ≤ j → j < l.i → (b : ℕ) → bit_at (word_at l.words j) b ≡ 0
