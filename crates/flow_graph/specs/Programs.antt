-- The graph of one function of a program.
use Rattle.std.specs.Prelude.{ℕ, Bool, false, List, Option, Some, None, nat_eq}
use Rattle.c_syntax.specs.Shape.{declarator, ExternalShape, defined, declared}
use Rattle.c_tables.specs.Tables.{TablesShape}
use Rattle.c_tables.specs.Rows.{text_of}
use Rattle.c_walk.specs.Units.{function_of}
use Rattle.flow_walks.specs.Comes.{Met, Comes}
use Rattle.flow_graph.specs.Graphs.{FlowGraph, IsGraph}

-- a definition of the function of that number
abbrev pub defines : TablesShape → ℕ → ExternalShape → Bool
defines t f (declared d) = false
defines t f (defined specs (declarator stars x d i) marks c) = nat_eq (function_of t (text_of x)) f

-- a graph of what comes, or nothing comes
abbrev pub IsFound : Comes → Option FlowGraph → Type 0
IsFound goes None = (w : List Met) → goes w → ⊥
IsFound goes (Some g) = IsGraph goes g
