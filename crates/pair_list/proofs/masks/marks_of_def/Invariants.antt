use Rattle.std.proofs.Common.{ℕ, ◌≡◌, ◌<◌, ◌+◌, ◌↔◌}
use Rattle.std.specs.Int.{bit_at}
use Rattle.pair_list.specs.Masks.{MarkAt}
use Rattle.pair_list.proofs.masks.marks_of_def.Given as goal

abbrev pub invariant-loop-i : goal.invariant-loop-i
invariant-loop-i l = (i : ℕ) → (bit_at l.word i ≡ 1) ↔ ((i < l.i) × MarkAt l.marks (l.start + i) (λ m. l.d ≡ m.def))
