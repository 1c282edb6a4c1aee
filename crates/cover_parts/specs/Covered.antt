-- What a list of events covers, by positions.
use Rattle.std.specs.Prelude.{◌≡◌, ℕ, ◌<◌, List, [], ◌∷◌, ◌++◌, length, slice_get, Option, Some, None}
use Rattle.c_events.specs.declared.events.Cell.{Cell}
use Rattle.c_events.specs.declared.events.Event.{Event}
use Rattle.c_events.specs.declared.events.Event.TheVariants as event
use Rattle.atac_facts.specs.declared.fact.Fact.{Fact}
use Rattle.atac_facts.specs.declared.fact.Fact.TheVariants as fact

-- the event stands at position i
abbrev pub At : List Event → ℕ → Event → Type 0
At events i e = slice_get events i ≡ Some e

-- the definition d of a cell at h, and the use u of that cell at i in activation a, with no definition of it between
pub record Reaches (events : List Event) (d u : ℕ) (c : Cell) (a h i : ℕ) : Type 0 where
  pub before : h < i
  pub defined : At events h (event.Def d c)
  pub used : At events i (event.Use u c a)
  pub kept : (j e : ℕ) → h < j → j < i → At events j (event.Def e c) → ⊥

-- no test of decision k in activation a between i and j
abbrev pub Untested : List Event → ℕ → ℕ → ℕ → ℕ → Type 0
Untested events k a i j = (m o : ℕ) → i < m → m < j → At events m (event.Test k o a) → ⊥

abbrev pub IsPair : List Event → ℕ → ℕ → Type 0
IsPair events d u = (c : Cell) × (a h i : ℕ) × Reaches events d u c a h i

-- the pair, and after the use decision k ends with outcome o in the use's activation, for the first time since
abbrev pub IsPUse : List Event → ℕ → ℕ → ℕ → ℕ → Type 0
IsPUse events k d u o = (c : Cell) × (a h i j : ℕ) × Reaches events d u c a h i × (i < j) × At events j (event.Test k o a) × Untested events k a i j

-- the facts of the events; `owner` gives the decision that a use belongs to
abbrev pub Covered : (ℕ → Option ℕ) → List Event → Fact → Type 0
Covered owner events (fact.Block k) = (i : ℕ) × At events i (event.Block k)
Covered owner events (fact.Outcome k o) = (i a : ℕ) × At events i (event.Test k o a)
Covered owner events (fact.Pair d u) = IsPair events d u
Covered owner events (fact.PUse d u o) = (k : ℕ) × (owner u ≡ Some k) × IsPUse events k d u o

-- the pairs that still wait for the end of decision k in activation a
abbrev pub IsPending : (ℕ → Option ℕ) → List Event → ℕ → ℕ → ℕ → ℕ → Type 0
IsPending owner events k a d u = (owner u ≡ Some k) × ((c : Cell) × (h i : ℕ) × Reaches events d u c a h i × Untested events k a i (length events))

-- the last definition of the cell, or that there is none
abbrev pub LastIs : List Event → Cell → Option ℕ → Type 0
LastIs events c None = (i d : ℕ) → At events i (event.Def d c) → ⊥
LastIs events c (Some d) = (h : ℕ) × At events h (event.Def d c) × ((j e : ℕ) → h < j → At events j (event.Def e c) → ⊥)

-- with one more event there is no further fact and no further pending use
pub record IsFree (owner : ℕ → Option ℕ) (events : List Event) (e : Event) : Type 0 where
  pub facts : (f : Fact) → Covered owner (events ++ e ∷ []) f → Covered owner events f
  pub pending : (k a d u : ℕ) → IsPending owner (events ++ e ∷ []) k a d u → IsPending owner events k a d u
