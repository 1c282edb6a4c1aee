-- Facts with how often each was met, in the order of the facts.
use Rattle.std.specs.Prelude.{◌≡◌, ℕ, ◌+◌, ◌≤◌, List, [], ◌∷◌, Bool, ◌&&◌, ◌==◌, nat_lt, map, if◌then◌else◌}
use Rattle.atac_facts.specs.declared.fact.Fact.{Fact}
use Rattle.atac_facts.specs.declared.tally.Counted.{Counted}
use Rattle.atac_facts.specs.Facts.{rank, fits}
use Rattle.atac_facts.specs.Pairs.{Pairs}
use Rattle.atac_facts.specs.Sets.{FactSet, holds}

-- Strictly ascending from a rank on, each count at least 1.
abbrev pub AscendsFrom : ℕ → List Counted → Type 0
AscendsFrom low [] = Unit {0}
AscendsFrom low (row ∷ rows) = (low ≤ rank row.fact) × (1 ≤ row.count) × AscendsFrom (rank row.fact + 1) rows

-- The least rank that may follow.
abbrev pub end_from : ℕ → List Counted → ℕ
end_from low [] = low
end_from low (row ∷ rows) = end_from (rank row.fact + 1) rows

-- How often a fact was met; 0 where it isn't there.
abbrev pub count_of : List Counted → Fact → ℕ
count_of [] fact = 0
count_of (row ∷ rows) fact = if rank row.fact == rank fact then row.count else count_of rows fact

abbrev pub is_met : List Counted → Fact → Bool
is_met rows fact = fits fact && nat_lt 0 (count_of rows fact)

-- The set has the facts that were met.
abbrev pub HasMet : FactSet → List Counted → Type 0
HasMet set rows = (fact : Fact) → holds set fact ≡ is_met rows fact

-- The rows as pairs of a rank and a count.
abbrev pub pairs_of : List Counted → Pairs
pairs_of rows = map (λ row. (rank row.fact, row.count)) rows
