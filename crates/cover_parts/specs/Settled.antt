-- What a test settles: the facts that it shows, and how many of them are not there yet.
use Rattle.std.specs.Prelude.{◌≡◌, ◌⊎◌, ℕ, suc, nat_eq, ◌≤◌, List, [], ◌∷◌, Option, Some, if◌then◌else◌}
use Rattle.atac_facts.specs.declared.fact.Fact.{Fact}
use Rattle.atac_facts.specs.declared.fact.Fact.TheVariants as fact
use Rattle.atac_facts.specs.Sets.{FactSet}
use Rattle.cover_parts.specs.Gaining.{Has}
use Rattle.cover_parts.specs.declared.pending.Wait.{Wait}

-- the pairs among these that wait for decision k, with the outcome
abbrev pub puses : ℕ → ℕ → List Wait → List Fact
puses k o [] = []
puses k o (w ∷ waits) = if nat_eq w.decision k then fact.PUse w.definition w.user o ∷ puses k o waits else puses k o waits

abbrev pub settled : ℕ → ℕ → List Wait → List Fact
settled k o waits = fact.Outcome k o ∷ puses k o waits

-- so many of the facts, each time that one stands there, are not in the set
abbrev pub Lacking : FactSet → List Fact → ℕ → Type 0
Lacking s [] n = n ≡ 0
Lacking s (f ∷ facts) n = (Has s f × Lacking s facts n) ⊎ ((Has s f → ⊥) × ((m : ℕ) × (n ≡ suc m) × Lacking s facts m))

-- there is room for those that are not in the set
pub record HasRoom (s : FactSet) (facts : List Fact) (room : ℕ) : Type 0 where
  pub count : ℕ
  pub lacking : Lacking s facts count
  pub enough : count ≤ room

-- the pair that waits, where the use has an owner
abbrev pub IsWait : Option ℕ → ℕ → ℕ → ℕ → Wait → Type 0
IsWait owner d u a w = (owner ≡ Some w.decision) × (w.activation ≡ a) × (w.definition ≡ d) × (w.user ≡ u)
