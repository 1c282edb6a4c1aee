-- Lists of different marks.
use Rattle.std.specs.Prelude.{ℕ, ◌<◌, ◌⊎◌, List, Contains}
use Rattle.std.specs.List.{IsDistinct}
use Rattle.std.proofs.Math.Dec.{eqb}
use Rattle.std.proofs.Math.ListN.{get_or}

-- the first n of more have been added to old, where they were not there
pub record AddsMarks (old more new : List ℕ) (n : ℕ) : Type 0 where
  pub distinct : IsDistinct eqb old → IsDistinct eqb new
  pub kept : (mark : ℕ) → Contains old mark → Contains new mark
  pub added : (j : ℕ) → j < n → Contains new (get_or more j 0)
  pub only : (mark : ℕ) → Contains new mark → Contains old mark ⊎ Contains more mark
