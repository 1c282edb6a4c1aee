-- The live instances by their numbers and how many cells each has.
use Rattle.std.specs.Prelude.{ℕ, ◌+◌, List, [], ◌∷◌, length, map, nat_eq, if◌then◌else◌}
use Rattle.cover_parts.specs.Rows.{Slot}

-- the live instances, each with how many cells it has
abbrev pub lives : List Slot → List (ℕ × ℕ)
lives live = map (λ s. (s.number, length s.words)) live

-- how many cells they have together
abbrev pub cells_of : List (ℕ × ℕ) → ℕ
cells_of [] = 0
cells_of (p ∷ rest) = p.1 + cells_of rest

-- the instances but for the one of that number
abbrev pub less : ℕ → List (ℕ × ℕ) → List (ℕ × ℕ)
less n [] = []
less n (p ∷ rest) = if nat_eq p.0 n then rest else p ∷ less n rest
