-- The parts of a program by its text: no part stands in front of one before it in preorder, and each block begins at a token of its own.
use Rattle.std.specs.Prelude.{◌≡◌, ◌⊎◌, ℕ, List, [], ◌∷◌, ◌++◌, map, filter, replicate, Bool, true, false, None}
use Rattle.c_base.specs.declared.place.Pos.{Pos}
use Rattle.c_syntax.specs.declared.token.Token.{Token}
use Rattle.c_syntax.specs.Grammar.{Placed}
use Rattle.c_syntax.specs.Shape.{UnitShape}
use Rattle.c_tables.specs.Tables.{TablesShape}
use Rattle.c_walk.specs.Units.{items_of}
use Rattle.c_ordered.specs.Trees.{Standing}
use Rattle.c_ordered.specs.Parts.{Part, What, name, definition, whole}
use Rattle.c_ordered.specs.Ordered.{parts_of, place, block_places}

-- these are the places of some of the tokens, in their order, and of no token twice
abbrev pub StandAt : List Pos → List Token → Type 0
StandAt ps [] = ps ≡ []
StandAt ps (t ∷ ts) = StandAt ps ts ⊎ ((qs : List Pos) × (ps ≡ t.pos ∷ qs) × StandAt qs ts)

-- the same, but of each token any number of times
abbrev pub StandAlong : List Pos → List Token → Type 0
StandAlong ps [] = ps ≡ []
StandAlong ps (t ∷ ts) = (n : ℕ) × (qs : List Pos) × (ps ≡ replicate n t.pos ++ qs) × StandAlong qs ts

-- a name that is left out stands nowhere; and a unit may have no token
abbrev pub has_place : What → Bool
has_place (name None) = false
has_place (definition None) = false
has_place (whole u) = false
has_place w = true

abbrev pub is_somewhere : Standing Part → Bool
is_somewhere s = has_place s.part.what

-- ---- laws, of a unit whose places are those of its tokens

-- the order of its parts is that of the text
abbrev pub PartsStandAlongTokens : Type 0
PartsStandAlongTokens = (u : UnitShape) (ts : List Token) → Placed u ts → StandAlong (map place (filter is_somewhere (parts_of u))) ts

-- no two blocks begin at one token
abbrev pub BlocksStandAtTokens : Type 0
BlocksStandAtTokens = (t : TablesShape) (u : UnitShape) (ts : List Token) → Placed u ts → StandAt (block_places (items_of t u)) ts
