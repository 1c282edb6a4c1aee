-- Items by their numbers, the variables that are declared outside of functions, and the events of a run.
use Rattle.std.specs.Prelude.{ℕ, zero, suc, ◌++◌, ◌||◌, List, [], ◌∷◌, nat_eq, Bool, false, Option, None}
use Rattle.c_events.specs.declared.events.Event.{Event}
use Rattle.c_syntax.specs.Shape.{decl, DeclaratorShapes, no_declarators, more_declarators, declarator, arrays, function, ExternalShape, defined, declared}
use Rattle.c_tables.specs.Tables.{TablesShape}
use Rattle.c_walk.specs.Items.{Direct, Item, block, decision, def, used}
use Rattle.c_walk.specs.Walked.{Walked}
use Rattle.c_walk.specs.Units.{define_declarator, walk_external}
use Rattle.c_meaning.specs.Deeds.{told}
use Rattle.c_meaning.specs.Calls.{Source}
use Rattle.c_meaning.specs.Runs.{run_heard}

-- ---- items by number

-- the place of the definition of that number, and of the use, if it is direct
abbrev pub def_at : ℕ → List Item → Option Direct
def_at n [] = None
def_at n (block p ∷ items) = def_at n items
def_at n (decision p o ∷ items) = def_at n items
def_at n (used p f d k ∷ items) = def_at n items
def_at zero (def p f d ∷ items) = None
def_at (suc zero) (def p f d ∷ items) = d
def_at (suc (suc n)) (def p f d ∷ items) = def_at (suc n) items

abbrev pub use_at : ℕ → List Item → Option Direct
use_at n [] = None
use_at n (block p ∷ items) = use_at n items
use_at n (decision p o ∷ items) = use_at n items
use_at n (def p f d ∷ items) = use_at n items
use_at zero (used p f d k ∷ items) = None
use_at (suc zero) (used p f d k ∷ items) = d
use_at (suc (suc n)) (used p f d k ∷ items) = use_at (suc n) items

-- ---- variables

-- those that are declared outside of functions
abbrev pub outer_names : TablesShape → DeclaratorShapes → Walked → List ℕ
outer_names t no_declarators w = []
outer_names t (more_declarators (declarator stars x (arrays ls) i) rest) w = suc w.variables ∷ outer_names t rest (define_declarator t 0 (declarator stars x (arrays ls) i) w)
outer_names t (more_declarators (declarator stars x (function ps) i) rest) w = outer_names t rest (define_declarator t 0 (declarator stars x (function ps) i) w)

abbrev pub outer_variables : TablesShape → List ExternalShape → Walked → List ℕ
outer_variables t [] w = []
outer_variables t (declared (decl p specs names) ∷ rest) w = outer_names t names w ++ outer_variables t rest (walk_external t (declared (decl p specs names)) w)
outer_variables t (defined specs d ms a ∷ rest) w = outer_variables t rest (walk_external t (defined specs d ms a) w)

abbrev pub is_among : ℕ → List ℕ → Bool
is_among n [] = false
is_among n (m ∷ ms) = nat_eq m n || is_among n ms

-- ---- runs

-- whatever the program reads, and of at most so many turns
abbrev pub run_events : Source → List ℕ → ℕ → List Event
run_events P input limit = told (run_heard P input limit).deeds
