-- The sum of two tallies, row by row.
use Rattle.std.specs.Prelude.{◌≡◌, ◌≢◌, ℕ, ◌+◌, ◌≤◌, min, List}
use Rattle.atac_facts.specs.declared.fact.Fact.{Fact}
use Rattle.atac_facts.specs.declared.tally.Counted.{Counted}
use Rattle.atac_facts.specs.Facts.{rank}
use Rattle.atac_facts.specs.Tallies.{AscendsFrom, count_of}

-- Where a count stops.
abbrev pub most : ℕ
most = 4294967295

-- No count is past the end.
abbrev pub AreSmall : List Counted → Type 0
AreSmall rows = (fact : Fact) → count_of rows fact ≤ most

-- The row is the least of both lists, with the counts of both; rest_a and rest_b are the lists without it.
pub record IsStep (low : ℕ) (a b : List Counted) (row : Counted) (rest_a rest_b : List Counted) : Type 0 where
  pub from : low ≤ rank row.fact
  pub met : 1 ≤ row.count
  pub order_a : AscendsFrom (rank row.fact + 1) rest_a
  pub order_b : AscendsFrom (rank row.fact + 1) rest_b
  pub here : (fact : Fact) → rank fact ≡ rank row.fact → row.count ≡ min (count_of a fact + count_of b fact) most
  pub others_a : (fact : Fact) → rank fact ≢ rank row.fact → count_of rest_a fact ≡ count_of a fact
  pub others_b : (fact : Fact) → rank fact ≢ rank row.fact → count_of rest_b fact ≡ count_of b fact
