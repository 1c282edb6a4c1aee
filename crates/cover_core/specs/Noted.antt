-- What is kept beside facts: blocks and pairs that are among them.
use Rattle.std.specs.Prelude.{◌≡◌, ℕ, List, Bool, true, Option, Some, slice_get}
use Rattle.atac_facts.specs.declared.fact.Fact.TheVariants as fact
use Rattle.atac_facts.specs.Sets.{FactSet}
use Rattle.cover_parts.specs.Gaining.{Has}

-- each block that is marked, by its number, is a fact
abbrev pub AreBlocks : List Bool → FactSet → Type 0
AreBlocks marked facts = (k : ℕ) → slice_get marked k ≡ Some true → Has facts (fact.Block k)

-- the pair of each use, by its number, with its last definition is a fact
abbrev pub ArePairs : List (Option ℕ) → FactSet → Type 0
ArePairs latest facts = (u d : ℕ) → slice_get latest u ≡ Some (Some d) → Has facts (fact.Pair d u)
