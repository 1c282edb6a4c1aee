-- The sites of a program by their numbers: what a walk meets stands in its function, and sites of local variables are the program's parts.
use Rattle.std.specs.Prelude.{◌≡◌, ◌≤◌, ◌-◌, ℕ, List, map, slice_get, Contains, false, Option, Some}
use Rattle.c_base.specs.declared.labels.OutcomeLabel.{OutcomeLabel}
use Rattle.atac_facts.specs.declared.fact.Fact.TheVariants.{Outcome, PUse}
use Rattle.cover_parts.specs.Covered.{Covered}
use Rattle.c_walk.specs.Items.{Item}
use Rattle.c_walk.specs.Units as units
use Rattle.c_walk.specs.Units.{items_of}
use Rattle.c_syntax.specs.declared.text.Text.{Text}
use Rattle.c_sites.specs.Names as names
use Rattle.c_sites.specs.Names.{LeafName, leaf_name}
use Rattle.c_sites.specs.Numbers.{names_of, number_of}
use Rattle.c_sites.specs.Kinds.{Decision, DefSite, UseSite}
use Rattle.c_sites.specs.Lists.{Lists, lists_of}
use Rattle.c_meaning.specs.Calls.{Source}
use Rattle.flow_walks.specs.declared.action.Action.{Action}
use Rattle.flow_walks.specs.declared.action.Action.TheVariants.{Define, Use, Block, Test, Kill, Nothing}
use Rattle.flow_walks.specs.Walks.{Walk}
use Rattle.flow_calls.specs.Placing.{Local}
use Rattle.flow_parts.specs.Items.{outer_variables, is_among, run_events}
use Rattle.flow_parts.specs.Parts.{HasParts, parts_of}

-- the sites of a program, with the numbers of their leaf names
abbrev pub all_items : Source → List Item
all_items P = items_of P.tables P.unit

abbrev pub all_names : Source → List LeafName
all_names P = names_of P.tables.structures (all_items P)

abbrev pub all_sites : Source → Lists
all_sites P = lists_of (all_names P) P.tables.structures (all_items P)

-- it has that number, counted from 1
abbrev pub IsAt : {A : Type 0} → List A → ℕ → A → Type 0
IsAt xs n x = (1 ≤ n) × (slice_get xs (n - 1) ≡ Some x)

-- ---- walks

-- the decision of that number is there, and may come to that outcome
abbrev pub HasOutcome : List Decision → ℕ → ℕ → Type 0
HasOutcome ds k o = (d : Decision) × IsAt ds k d × ((l : OutcomeLabel) × Contains d.labels (o, l))

-- a definition and a use is there, and stands in the function
abbrev pub StandsIn : Lists → ℕ → Action → Type 0
StandsIn s f (Define d) = (x : DefSite) × IsAt s.defs d x × (x.function ≡ f)
StandsIn s f (Use u) = (x : UseSite) × IsAt s.uses u x × (x.function ≡ f)
StandsIn s f (Test k o) = HasOutcome s.decisions k o
StandsIn s f (Block k) = Unit {0}
StandsIn s f (Kill v) = Unit {0}
StandsIn s f Nothing = Unit {0}

-- each action of a walk stands in the walk's function
abbrev pub WalksStandInTheirFunction : Type 0
WalksStandInTheirFunction = (P : Source) (f : ℕ) (v : List Action) (a : Action) → Walk P.tables P.unit f v → Contains v a → StandsIn (all_sites P) f a

-- ---- names

-- it isn't declared outside of functions
abbrev pub IsInner : Source → ℕ → Type 0
IsInner P x = is_among x (outer_variables P.tables P.unit.externals units.no_items) ≡ false

-- the numbers of a site's leaf names
abbrev pub numbers_of : Source → Local → List ℕ
numbers_of P v = map (number_of (all_names P)) (map (leaf_name v.variable) v.names)

-- it is a site of that variable, with the numbers of the same names, and these are among the program's
pub record IsPart (P : Source) (n : ℕ) (numbers : List ℕ) (o : Option Local) : Type 0 where
  pub site : Local
  pub is : o ≡ Some site
  pub variable : site.variable ≡ n
  pub numbered : numbers ≡ numbers_of P site
  pub named : (y : Text) → Contains site.names y → Contains (names.all_names P.tables.structures (all_items P)) (leaf_name site.variable y)

-- each definition and use of a variable that is declared in a function is one of the program's parts, under the same number
abbrev pub DefinitionsAreParts : Type 0
DefinitionsAreParts = (P : Source) (d n : ℕ) (x : DefSite) → IsAt (all_sites P).defs d x → x.variable ≡ Some n → IsInner P n → IsPart P n x.names ((parts_of P).defined d)

abbrev pub UsesAreParts : Type 0
UsesAreParts = (P : Source) (u n : ℕ) (x : UseSite) → IsAt (all_sites P).uses u x → x.variable ≡ Some n → IsInner P n → IsPart P n x.names ((parts_of P).used u)

-- ---- outcomes

-- of a program with such parts, each outcome that the events of a run cover is one that is listed of its decision, and so is that of each p-use
abbrev pub CoveredOutcomesAreListed : Type 0
CoveredOutcomesAreListed = (P : Source) → HasParts P → (owner : ℕ → Option ℕ) (input : List ℕ) (limit k o : ℕ) → Covered owner (run_events P input limit) (Outcome k o) → HasOutcome (all_sites P).decisions k o

abbrev pub CoveredPUsesHaveOutcomes : Type 0
CoveredPUsesHaveOutcomes = (P : Source) → HasParts P → (owner : ℕ → Option ℕ) (input : List ℕ) (limit d u k o : ℕ) → owner u ≡ Some k → Covered owner (run_events P input limit) (PUse d u o) → HasOutcome (all_sites P).decisions k o
