-- Initialisers that give some cell of their variable a value.
use Rattle.std.specs.Prelude.{◌≡◌, ℕ, ◌≤◌, List, [], ◌∷◌, slice_get, true, is_some, Option, Some}
use Rattle.c_syntax.specs.Shape.{TypeOf, array, str, NodeShape, node, leaf, InitShape, one, listed, InitShapes, no_inits, more_inits}
use Rattle.c_store.specs.declared.value.Value.{Value}
use Rattle.c_tables.specs.Tables.{TablesShape}
use Rattle.c_meaning.specs.State.{Bound}
use Rattle.c_meaning.specs.Constants.{value_in, slot_kinds, init_cells}

-- one of these cells is given a value
abbrev pub GivesValue : List (Option Value) → Type 0
GivesValue cells = (k : ℕ) × (v : Value) × (slice_get cells k ≡ Some (Some v))

abbrev pub IsString : NodeShape → Type 0
IsString (node p o n (leaf (str x))) = Unit {0}
IsString a = ⊥

-- an array of at least one element begins with a string, and all else with an expression that has a value
abbrev pub BeginsWith : TablesShape → List Bound → TypeOf → NodeShape → Type 0
BeginsWith t b (array k n) a = (1 ≤ n) × IsString a
BeginsWith t b k a = is_some (value_in t b a) ≡ true

-- a list begins with its first item, in the first of its slots
abbrev mutual
  pub Begins : TablesShape → List Bound → TypeOf → InitShape → Type 0
  Begins t b k (one a) = BeginsWith t b k a
  Begins t b k (listed p items last) = ListBegins t b (slot_kinds t k) items

  pub ListBegins : TablesShape → List Bound → List TypeOf → InitShapes → Type 0
  ListBegins t b ks no_inits = ⊥
  ListBegins t b [] (more_inits i rest) = ⊥
  ListBegins t b (k ∷ ks) (more_inits i rest) = Begins t b k i

-- what so begins gives some cell a value, whatever follows
abbrev pub BeginningsGiveValues : Type 0
BeginningsGiveValues = (t : TablesShape) (b : List Bound) (k : TypeOf) (i : InitShape) → Begins t b k i → GivesValue (init_cells t b k i)
