-- Instances, as far as the probes are told of them.
use Rattle.std.specs.Prelude.{◌≡◌, ℕ, ◌<◌, List, [], ◌∷◌, ◌++◌, ◌⊎◌, Option, Some, None, Bool, true, if◌then◌else◌}
use Rattle.std.specs.Option.{is_some}
use Rattle.c_events.specs.declared.events.Cell.{Cell}
use Rattle.c_store.specs.Cells.{Cells, find}
use Rattle.c_world.specs.declared.world.Made.{Made}

-- what is noted of an instance of so many cells, or where none was made
abbrev pub noted : Option ℕ → ℕ → List Made
noted None n = []
noted (Some j) n = record { instance = j; cells = n } ∷ []

-- each was made after the one in front of it, and the first one after that number
abbrev pub Rising : ℕ → List Made → Type 0
Rising top [] = Unit {0}
Rising top (m ∷ ms) = (top < m.instance) × Rising m.instance ms

-- one of them has the cell
abbrev pub HasCell : Cell → List Made → Type 0
HasCell c [] = ⊥
HasCell c (m ∷ ms) = ((c.instance ≡ m.instance) × (c.index < m.cells)) ⊎ HasCell c ms

abbrev pub is_live : ℕ → Cells → Bool
is_live j c = is_some (find j c.live)

-- the last of them, if there is one, lives
abbrev pub EndsLiving : List ℕ → Cells → Type 0
EndsLiving js c = (front : List ℕ) (j : ℕ) → js ≡ front ++ j ∷ [] → is_live j c ≡ true

-- the instance alone, where it lives
abbrev pub if_living : ℕ → Cells → List ℕ
if_living j c = if is_live j c then j ∷ [] else []

-- those of them that live
abbrev pub living_of : List Made → Cells → List ℕ
living_of [] c = []
living_of (m ∷ ms) c = if_living m.instance c ++ living_of ms c
