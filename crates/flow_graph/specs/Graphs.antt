-- The flow graph of a function, and what it means that its paths are the function's walks.
use Rattle.std.specs.Prelude.{◌≡◌, ◌↔◌, ℕ, ◌^◌, ◌<◌, List, [], length, Option, Some, None, slice_get}
use Rattle.c_syntax.specs.Shape.{declarator, ExternalShape, defined, declared}
use Rattle.c_tables.specs.Tables.{TablesShape}
use Rattle.c_tables.specs.Rows.{text_of}
use Rattle.c_walk.specs.Walked.{Walked}
use Rattle.c_walk.specs.Units.{function_of}
use Rattle.flow_walks.specs.declared.action.Action.{Action}
use Rattle.flow_walks.specs.declared.action.Action.TheVariants.{Nothing}
use Rattle.flow_walks.specs.Comes.{Met, act, enter, leave, Comes}
use Rattle.flow_walks.specs.Walks.{function_goes}
use Rattle.flow_rows.specs.Paths.{Row, Graph, HasRow, met_at, Spells}
use Rattle.flow_rows.specs.Counts.{counts}
use Rattle.flow_rows.specs.Laying.{IsWithin}
use Rattle.flow_rows.specs.declared.numbers.Numbers.{Numbers}

-- rows, of which the first one is the start, and the number of the one at which the body has been left
pub record FlowGraph : Type 0 where
  pub rows : Graph
  pub last : ℕ

abbrev pub flow_graph : Graph → ℕ → FlowGraph
flow_graph g l = record { rows = g; last = l }

-- there is a row, there are fewer than 2 ^ 32, and each next row and the last one is one of them
pub record HasRows (g : FlowGraph) : Type 0 where
  pub some : 0 < length g.rows
  pub few : length g.rows < 2 ^ 32
  pub within : IsWithin g.rows
  pub last_within : g.last < length g.rows

-- ---- rows

abbrev pub action_of : Option Met → Action
action_of None = Nothing
action_of (Some (act a)) = a
action_of (Some (enter f)) = Nothing
action_of (Some leave) = Nothing

abbrev pub call_of : Option Met → Option ℕ
call_of None = None
call_of (Some (act a)) = None
call_of (Some (enter f)) = Some f
call_of (Some leave) = None

abbrev pub next_of : Option Row → List ℕ
next_of None = []
next_of (Some row) = row.next

abbrev pub action_at : FlowGraph → ℕ → Action
action_at g r = action_of (met_at (slice_get g.rows r))

abbrev pub call_at : FlowGraph → ℕ → Option ℕ
call_at g r = call_of (met_at (slice_get g.rows r))

abbrev pub next_at : FlowGraph → ℕ → List ℕ
next_at g r = next_of (slice_get g.rows r)

-- ---- paths are walks

-- the paths from row 0 spell exactly what comes, and at one row alone the body has been left
pub record IsGraph (goes : Comes) (g : FlowGraph) : Type 0 where
  pub some : 0 < length g.rows
  pub within : IsWithin g.rows
  pub walks : (w : List Met) → Spells g.rows 0 w ↔ goes w
  pub left : (ts : List ℕ) × HasRow g.rows g.last (Some leave) ts
  pub alone : (i : ℕ) (ts : List ℕ) → HasRow g.rows i (Some leave) ts → i ≡ g.last

-- the marked walks of a function's definition behind these items
abbrev pub walks_of : TablesShape → ExternalShape → Walked → Comes
walks_of t (declared d) s w = ⊥
walks_of t (defined specs (declarator stars x d i) marks c) s w = function_goes t (function_of t (text_of x)) d c s w

abbrev pub IsDeclared : ExternalShape → Type 0
IsDeclared (declared d) = Unit {0}
IsDeclared (defined specs d marks c) = ⊥

-- a graph for a function's definition, behind items that are counted so, and none for a declaration
abbrev pub IsLaid : TablesShape → ExternalShape → Numbers → Option FlowGraph → Type 0
IsLaid t e n None = IsDeclared e
IsLaid t e n (Some g) = (w : Walked) → counts w ≡ n → IsGraph (walks_of t e w) g
