use Rattle.std.proofs.Common.{ℕ, ◌≡◌, ◌<◌, get_or}
use Rattle.reach_defs.specs.Held.{Holds}
use Rattle.reach_defs.proofs.table.Reach.at.Given as goal

abbrev pub invariant-loop-i : goal.invariant-loop-i
invariant-loop-i l = (i : ℕ) → i < l.i → get_or l.self.marks.items i 0 ≡ l.mark → Holds l.self.held l.row i → ⊥
