-- What a list of events covers, as a test: event by event, from the first on. What it comes to is said by positions (cover_parts/specs/Covered).
use Rattle.std.specs.Prelude.{ℕ, Bool, false, not, ◌&&◌, ◌||◌, nat_eq, List, [], ◌∷◌, reverse, Option, Some, None, if◌then◌else◌}
use Rattle.c_events.specs.declared.events.Cell.{Cell}
use Rattle.c_events.specs.declared.events.Event.{Event}
use Rattle.c_events.specs.declared.events.Event.TheVariants as event
use Rattle.atac_facts.specs.declared.fact.Fact.{Fact}
use Rattle.atac_facts.specs.declared.fact.Fact.TheVariants as fact

abbrev pub is_number : ℕ → Option ℕ → Bool
is_number n None = false
is_number n (Some m) = nat_eq n m

abbrev pub same_cell : Cell → Cell → Bool
same_cell c d = nat_eq c.instance d.instance && nat_eq c.index d.index

-- ---- of events with the latest in front

-- the last definition of the cell
abbrev pub last_of : Cell → List Event → Option ℕ
last_of c [] = None
last_of c (event.Def d e ∷ es) = if same_cell c e then Some d else last_of c es
last_of c (event.Block k ∷ es) = last_of c es
last_of c (event.Use u e a ∷ es) = last_of c es
last_of c (event.Test k o a ∷ es) = last_of c es

-- the event is the use of a cell whose last definition is d, in that activation
abbrev pub joins_in : List Event → Event → ℕ → ℕ → ℕ → Bool
joins_in es (event.Use v c b) a d u = nat_eq a b && (nat_eq u v && is_number d (last_of c es))
joins_in es (event.Block k) a d u = false
joins_in es (event.Def e c) a d u = false
joins_in es (event.Test k o b) a d u = false

-- the event is the end of decision k in the activation
abbrev pub tests : Event → ℕ → ℕ → Bool
tests (event.Test j o b) k a = nat_eq k j && nat_eq a b
tests (event.Block j) k a = false
tests (event.Def e c) k a = false
tests (event.Use v c b) k a = false

-- the pair waits for the end of decision k in the activation
abbrev pub waits : (ℕ → Option ℕ) → List Event → ℕ → ℕ → ℕ → ℕ → Bool
waits owner [] k a d u = false
waits owner (e ∷ es) k a d u = (waits owner es k a d u && not (tests e k a)) || (is_number k (owner u) && joins_in es e a d u)

-- the event brings the fact
abbrev pub brings : (ℕ → Option ℕ) → List Event → Event → Fact → Bool
brings owner es (event.Block j) (fact.Block k) = nat_eq k j
brings owner es (event.Test j p a) (fact.Outcome k o) = nat_eq k j && nat_eq o p
brings owner es (event.Use v c a) (fact.Pair d u) = nat_eq u v && is_number d (last_of c es)
brings owner es (event.Test k p a) (fact.PUse d u o) = nat_eq o p && waits owner es k a d u
brings owner es (event.Block j) (fact.Outcome k o) = false
brings owner es (event.Block j) (fact.Pair d u) = false
brings owner es (event.Block j) (fact.PUse d u o) = false
brings owner es (event.Def e c) f = false
brings owner es (event.Use v c a) (fact.Block k) = false
brings owner es (event.Use v c a) (fact.Outcome k o) = false
brings owner es (event.Use v c a) (fact.PUse d u o) = false
brings owner es (event.Test j p a) (fact.Block k) = false
brings owner es (event.Test j p a) (fact.Pair d u) = false

abbrev pub shows : (ℕ → Option ℕ) → List Event → Fact → Bool
shows owner [] f = false
shows owner (e ∷ es) f = shows owner es f || brings owner es e f

-- ---- of events in their order

abbrev pub covers : (ℕ → Option ℕ) → List Event → Fact → Bool
covers owner events f = shows owner (reverse events) f
