-- What stands before a node: it decides the numbers in what is told of the node, and which variable a local declarator makes, and nothing
-- else. The numbers are those that the walk over the program gives (c_walk), of which each step here hands on one.
use Rattle.std.specs.Prelude.{ℕ, suc, ◌+◌, Bool, true, false, if◌then◌else◌}
use Rattle.c_base.specs.declared.place.Pos.{Pos}
use Rattle.c_events.specs.declared.events.Cell.{Cell}
use Rattle.c_events.specs.declared.events.Event.{Event}
use Rattle.c_events.specs.declared.events.Event.TheVariants.{Block, Def, Use, Test}
use Rattle.c_syntax.specs.Shape.{NoteShape, NodeShape, node, ExprShape, ItemShapes}
use Rattle.c_store.specs.declared.value.Pointer.{Pointer}
use Rattle.c_store.specs.Cells.{cell_of}
use Rattle.c_walk.specs.declared.around.Around.{Around}
use Rattle.c_walk.specs.declared.around.Taken.{Taken}
use Rattle.c_walk.specs.Items.{cases}
use Rattle.c_walk.specs.Tests.{is_logical, choosing, case_values}
use Rattle.c_walk.specs.Counted.{block_count, def_count, use_count}
use Rattle.c_walk.specs.Walked.{Walked, with_block, with_block_if, pos_of, next_decision, with_decision, inside, inside_test, with_test, with_site}
use Rattle.c_walk.specs.Walking.{walk_node, walk_test, walk_arm}
use Rattle.c_walk.specs.Stating.{walk_choice}
use Rattle.c_meaning.specs.State.{Act, begins, makes, tells, State, activation, did}

-- how many variables are declared before it; where something is told, all that is counted before it, and what stands around it
pub data First : Type 0 where
  quiet : ℕ → First
  heard : Around → Walked → First

abbrev pub variables_before : First → ℕ
variables_before (quiet n) = n
variables_before (heard c w) = w.variables

-- behind what the walk goes through, in which no variable is declared
abbrev pub on : (Around → Walked → Walked) → First → First
on walk (quiet n) = quiet n
on walk (heard c w) = heard c (walk c w)

-- behind what declares so many variables
abbrev pub past : ℕ → (Around → Walked → Walked) → First → First
past m walk (quiet n) = quiet (n + m)
past m walk (heard c w) = heard c (walk c w)

-- ---- expressions

-- they declare no variable, so how many stand before one doesn't matter
abbrev pub in_expression : First → First
in_expression (quiet n) = quiet 0
in_expression (heard c w) = heard c w

-- behind the expression, with which that is done
abbrev pub behind : Taken → NodeShape → First → First
behind r a i = on (λ c w. walk_node c r a w) i

-- in an expression, behind its own site
abbrev pub within : Taken → Pos → NoteShape → ExprShape → First → First
within r p n f i = on (λ c w. with_site c r p n f w) i

-- at a test position, and behind it
abbrev pub at_test : NodeShape → First → First
at_test a (quiet n) = quiet n
at_test (node p o n f) (heard c w) = heard (inside_test c f w) (with_test p f w)

abbrev pub behind_test : NodeShape → First → First
behind_test a i = on (λ c w. walk_test c a w) i

-- at an expression that is a block, and behind it
abbrev pub at_arm : NodeShape → First → First
at_arm a i = on (λ c w. with_block (pos_of a) w) i

abbrev pub behind_arm : NodeShape → First → First
behind_arm a i = on (λ c w. walk_arm c a w) i

-- at what a switch chooses by, and behind it
abbrev pub at_choice : NodeShape → ItemShapes → First → First
at_choice e items (quiet n) = quiet n
at_choice e items (heard c w) = heard (inside c w) (with_decision (pos_of e) (cases (case_values (choosing e) items)) w)

abbrev pub behind_choice : NodeShape → ItemShapes → First → First
behind_choice e items i = on (λ c w. walk_choice c e items w) i

-- at a statement that is a block or not
abbrev pub at_block : Bool → Pos → First → First
at_block b p i = on (λ c w. with_block_if b p w) i

-- ---- what is told

abbrev pub cell_at : Pointer → Cell
cell_at q = record { instance = q.instance; index = cell_of q }

abbrev pub noted_block : Bool → First → State → State
noted_block b (quiet n) s = s
noted_block false (heard c w) s = s
noted_block true (heard c w) s = did (tells (Block (suc (block_count w.items)))) s

-- outcome 1 is true, and 2 is false
abbrev pub outcome : Bool → ℕ
outcome true = 1
outcome false = 2

-- the next decision ends with that outcome
abbrev pub noted_outcome : First → ℕ → State → State
noted_outcome (quiet n) o s = s
noted_outcome (heard c w) o s = did (tells (Test (next_decision w) o (activation s))) s

-- a test position is a decision, but for `&&` and `||`
abbrev pub noted_test : NodeShape → First → Bool → State → State
noted_test a (quiet n) b s = s
noted_test a (heard c w) b s = if is_logical a then s else noted_outcome (heard c w) (outcome b) s

-- the cell is used, or defined: told as an event, or as a further one
abbrev pub noted_use : (Event → Act) → First → Pointer → State → State
noted_use way (quiet n) q s = s
noted_use way (heard c w) q s = did (way (Use (suc (use_count w.items)) (cell_at q) (activation s))) s

abbrev pub noted_def : (Event → Act) → First → Pointer → State → State
noted_def way (quiet n) q s = s
noted_def way (heard c w) q s = did (way (Def (suc (def_count w.items)) (cell_at q))) s

-- the instance of the variable is made, the last one of the store
abbrev pub noted_made : First → ℕ → State → State
noted_made (quiet n) v s = s
noted_made (heard c w) v s = did (makes v s.store.count) s

-- a call of the function begins
abbrev pub noted_begun : First → ℕ → State → State
noted_begun (quiet n) f s = s
noted_begun (heard c w) f s = did (begins f) s
