-- Which marks the rows of a grid hold.
use Rattle.std.specs.Prelude.{ℕ, zero, suc, ◌+◌, ◌*◌, ◌/◌, ◌%◌, ◌<◌, ◌≡◌, length}
use Rattle.std.specs.Int.{bit_at}
use Rattle.std.proofs.Math.ListN.{get_or}
use Rattle.reach_defs.specs.declared.table.Grid.{Grid}
use Rattle.reach_defs.specs.declared.table.Reach.{Reach}

-- the bit of a row and the index of a mark
abbrev pub bit_of : Grid → ℕ → ℕ → ℕ
bit_of g row i = bit_at (get_or g.words.items (row * g.stride + i / 64) 0) (i % 64)

abbrev pub Holds : Grid → ℕ → ℕ → Type 0
Holds g row i = bit_of g row i ≡ 1

-- the sum of what f has below a number
abbrev pub total : (ℕ → ℕ) → ℕ → ℕ
total f zero = 0
total f (suc n) = total f n + f n

-- how many marks the rows hold, in all
abbrev pub held_count : Grid → ℕ
held_count g = total (λ row. total (bit_of g row) g.width) g.height

-- the table says that the mark reaches the row
abbrev pub Has : Reach → ℕ → ℕ → Type 0
Has x row mark = (i : ℕ) × i < length x.marks.items × (get_or x.marks.items i 0 ≡ mark) × Holds x.held row i
