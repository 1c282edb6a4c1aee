-- Functions' bodies: the walk counts the rows that typing adds, and the variables' initialisers give values.
use Rattle.std.specs.Prelude.{◌≡◌, ℕ, List, ◌++◌, length, Bool, true, false, is_some, Some}
use Rattle.c_syntax.specs.Shape.{TypeOf, NodeShape, InitShape, CompoundShape}
use Rattle.c_syntax.specs.Shaped.{Shaped, ShapedInit, ShapedCompound}
use Rattle.c_constants.specs.Constants as constants
use Rattle.c_tables.specs.Tables.{VariableShape, TablesShape}
use Rattle.c_tables.specs.Rows.{row, fields_in}
use Rattle.c_tree.specs.State.{State, is_set}
use Rattle.c_tree.specs.Typing.{type_node}
use Rattle.c_tree.specs.Initialisers.{type_init}
use Rattle.c_tree.specs.Stating.{Surroundings, type_compound}
use Rattle.c_walk.specs.declared.around.Around.{Around}
use Rattle.c_walk.specs.Walked.{Walked}
use Rattle.c_walk.specs.Stating.{walk_compound}
use Rattle.c_meaning.specs.State.{Bound}
use Rattle.c_meaning.specs.Constants.{value_in}
use Rattle.probe_laws.proofs.Settled.{IsClean}
use Rattle.probe_laws.proofs.Known.{Knows}
use Rattle.flow_values.specs.Initialised.{IsInitialised, InCompound}
use Rattle.flow_initial.specs.Lengths.{IsFilled}
use Rattle.flow_initial.proofs.Cores.{Core, core}
use Rattle.flow_initial.proofs.Arrays.{HasFilled}
use Rattle.flow_initial.proofs.Follows.{Sound}

-- what holds at each token outside of expressions: tags are numbers of structures, each array has an element, and strings are objects
abbrev pub Good : Core → Type 0
Good c = Sound c × HasFilled c × (c.quiet ≡ false)

-- tables that have the variables of an earlier token, and more behind them, and the fields of each structure whose list was begun there
pub record Reaches (t : TablesShape) (c : Core) : Type 0 where
  pub fields : (n : ℕ) → is_set (row c.begun n) ≡ true → fields_in (row t.structures n) ≡ fields_in (row c.structures n)
  pub more : List VariableShape
  pub added : t.variables ≡ c.variables ++ more

-- each initialiser of which nothing is complained gives its variable a value, where these are the tables at the end and the variables of file scope
abbrev pub InitsGive : TablesShape → List Bound → Type 0
InitsGive t b = (c : Bool) (y : TypeOf) (i : InitShape) (s : State) → ShapedInit i → Knows false s → Good (core s) → IsFilled y → Reaches t (core (type_init c (Some y) i s).state)
    → IsClean (type_init c (Some y) i s).state → IsInitialised t b y (type_init c (Some y) i s).init

-- where the walk has counted as many variables as there are rows, it has so behind a body of which nothing is complained, and each declarator
-- there has the row that the walk counts for it: with the type for which its initialiser was typed
abbrev pub BodiesAreInitialised : Type 0
BodiesAreInitialised = (t : TablesShape) (b : List Bound) → InitsGive t b → (e : Surroundings) (a : CompoundShape) (s : State) (c : Around) (w : Walked) → ShapedCompound a → Knows false s → Good (core s)
    → Reaches t (core (type_compound e a s).state) → IsClean (type_compound e a s).state → w.variables ≡ length s.tables.variables
    → ((walk_compound t c (type_compound e a s).compound w).variables ≡ length (type_compound e a s).state.tables.variables) × InCompound t b c (type_compound e a s).compound w

-- what typing takes for a constant initialiser has a value
abbrev pub ConstantsHaveValues : TablesShape → List Bound → Type 0
ConstantsHaveValues t b = (a : NodeShape) (k : TypeOf) (s : State) → Shaped a → Knows false s → Good (core s) → Reaches t (core (type_node a s).state) → IsClean (type_node a s).state
    → (type_node a s).sort.kind ≡ Some k → constants.initialises k (type_node a s).sort.constant ≡ true → is_some (value_in t b (type_node a s).node) ≡ true

-- then each initialiser of which nothing is complained gives its variable a value
abbrev pub ConstantsSuffice : Type 0
ConstantsSuffice = (t : TablesShape) (b : List Bound) → ConstantsHaveValues t b → InitsGive t b
