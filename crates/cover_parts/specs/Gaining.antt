-- Which facts a set has, and how one set has more than another.
use Rattle.std.specs.Prelude.{◌↔◌, ◌⊎◌, IsTrue}
use Rattle.atac_facts.specs.declared.fact.Fact.{Fact}
use Rattle.atac_facts.specs.Sets.{FactSet, holds}

-- the fact is in the set
unfoldable pub Has : FactSet → Fact → Type 0
Has s f = IsTrue (holds s f)

-- the new set has just those of the old one and those that are named
abbrev pub Gains : FactSet → FactSet → (Fact → Type 0) → Type 0
Gains old new Named = (f : Fact) → Has new f ↔ (Has old f ⊎ Named f)

-- both sets have the same facts
abbrev pub Same : FactSet → FactSet → Type 0
Same old new = (f : Fact) → Has new f ↔ Has old f
