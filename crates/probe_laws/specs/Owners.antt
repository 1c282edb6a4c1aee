-- The decision that each use of a program belongs to, by the number of the use.
use Rattle.std.specs.Prelude.{ℕ, List, [], ◌∷◌, Option, None}
use Rattle.c_events.specs.Owners.{owner_in}
use Rattle.c_walk.specs.Items.{Item, used}
use Rattle.c_walk.specs.Units.{items_of}
use Rattle.c_meaning.specs.Calls.{Source}

-- the decision whose expression holds the use, the innermost one, of each use in its order
abbrev pub use_owners : List Item → List (Option ℕ)
use_owners [] = []
use_owners (used p f d k ∷ items) = k ∷ use_owners items
use_owners (i ∷ items) = use_owners items

-- uses are numbered from 1
abbrev pub owner_in_program : Source → ℕ → Option ℕ
owner_in_program P u = owner_in (None ∷ use_owners (items_of P.tables P.unit)) u
