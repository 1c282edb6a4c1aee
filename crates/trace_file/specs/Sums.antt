-- What is asked of the facts of a tally and of a set, and what the types of a row say of its numbers.
use Rattle.std.specs.Prelude.{◌≡◌, ◌||◌, ◌<◌, ◌^◌, true, IsTrue, List}
use Rattle.std.specs.List.{All}
use Rattle.atac_facts.specs.declared.fact.Fact.{Fact}
use Rattle.atac_facts.specs.declared.tally.Counted.{Counted}
use Rattle.atac_facts.specs.Facts.{fits}
use Rattle.atac_facts.specs.Sets.{FactSet, holds}
use Rattle.atac_facts.specs.Tallies.{AscendsFrom, is_met}
use Rattle.trace_file.specs.Sound.{SoundFact}

-- Every fact that was met has sound numbers.
abbrev pub AreSound : List Counted → Type 0
AreSound rows = (fact : Fact) → IsTrue (is_met rows fact) → SoundFact fact

-- So has every fact of the set.
abbrev pub HoldsSound : FactSet → Type 0
HoldsSound set = (fact : Fact) → IsTrue (holds set fact) → SoundFact fact

pub record RowFits (row : Counted) : Type 0 where
  pub fact : fits row.fact ≡ true
  pub count : row.count < 2 ^ 32

-- What rows of a tally are: strictly ascending, each counted, of numbers that fit.
pub record AreRows (rows : List Counted) : Type 0 where
  pub ascend : AscendsFrom 0 rows
  pub fit : All RowFits rows

-- The set has the facts of the rows too.
abbrev pub Gains : FactSet → FactSet → List Counted → Type 0
Gains old new rows = (fact : Fact) → holds new fact ≡ (holds old fact || is_met rows fact)
