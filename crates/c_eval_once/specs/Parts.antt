-- What parts of an expression do in a run that isn't observed.
use Rattle.std.specs.Prelude.{ℕ, suc, ◌+◌, ◌<◌, pos, drop, map, Bool, List, [], ◌∷◌, ◌++◌, true, false, Option, Some, None, option_map, if◌then◌else◌}
use Rattle.c_arith.specs.Arith.{truth}
use Rattle.c_syntax.specs.declared.tree.StepOp.{StepOp}
use Rattle.c_syntax.specs.declared.tree.StepOp.TheVariants as way
use Rattle.c_syntax.specs.declared.tree.BinaryOp.{BinaryOp}
use Rattle.c_syntax.specs.declared.tree.Node.{Node}
use Rattle.c_syntax.specs.declared.tree.UnaryOp.TheVariants as front
use Rattle.c_syntax.specs.Shape.{Step, NoteShape, NodeShape, ExprShape, unary, before, plain, and, or, assign, comma, dot, arrow, prefix, cast, suffix, two, choose, probe, index, field, behind, simple, select, test, used, def}
use Rattle.c_syntax.specs.View.{type_of, note_shape, expr_shape, node_shape, node_list}
use Rattle.c_store.specs.declared.value.Value.{Value}
use Rattle.c_store.specs.declared.value.Value.TheVariants.{Int, At}
use Rattle.c_store.specs.declared.value.Pointer.{Pointer}
use Rattle.c_tables.specs.Tables.{TablesShape}
use Rattle.c_walk.specs.declared.around.Taken.TheVariants.{Read as Reading}
use Rattle.c_walk.specs.Tests.{choosing}
use Rattle.c_meaning.specs.State.{State}
use Rattle.c_meaning.specs.Results.{Got, Gives, Stops, then_do, untyped, settled, present, needed}
use Rattle.c_meaning.specs.Operators.{converted, is_true, operated, stepped_by_one, element_pointer, of_one, target, pointed}
use Rattle.c_meaning.specs.Firsts.{quiet, outcome}
use Rattle.c_meaning.specs.Places.{field_place, logs, marks, loaded, fetched}
use Rattle.c_meaning.specs.Constants.{select_constants, chosen_among, kind_noted, type_at}
use Rattle.c_meaning.specs.Knot.{Knot}
use Rattle.c_meaning.specs.Builtins.{called, as_parameter}
use Rattle.c_meaning.specs.Expressions.{meaning, arguments, gives, operand, cast_value, last_test, assigned, written, stepped_from, log_test}
use Rattle.c_eval_once.specs.declared.reply.Reply.{Reply}
use Rattle.c_eval_once.specs.declared.reply.Reply.TheVariants as reply

abbrev pub value : TablesShape → Knot → NodeShape → State → Got (Option Value)
value t k e s = (meaning t k e).value (quiet 0) s

abbrev pub place : TablesShape → Knot → NodeShape → State → Got Pointer
place t k e s = (meaning t k e).place Reading (quiet 0) s

-- a step stands in front of its operand
abbrev pub is_front : StepOp → Bool
is_front way.PreInc = true
is_front way.PreDec = true
is_front way.PostInc = false
is_front way.PostDec = false

-- the operand at that place is stepped
abbrev pub stepped_there : Bool → Step → NodeShape → Pointer → State → Got (Option Value)
stepped_there front u a q s =
    then_do (loaded (marks used a) (quiet 0) q s) (λ x s.
    then_do (settled (stepped_by_one u (operand a) x) s) (λ v s.
    then_do (written (type_at a) (marks def a) (quiet 0) q v s) (stepped_from front x)))

-- two values meet in an operator
abbrev pub combined : BinaryOp → NodeShape → NodeShape → Value → Value → State → Got (Option Value)
combined u a b v w s = then_do (settled (operated u (operand a) (operand b) v w) s) gives

-- so do a place's value and another one, and the place is written
abbrev pub combined_into : BinaryOp → NodeShape → NodeShape → Pointer → Value → Value → State → Got (Option Value)
combined_into u a b q x y s = then_do (settled (operated u (operand a) (operand b) x y) s) (λ v. written (type_at a) (marks def a) (quiet 0) q v)

-- an element is pointed to
abbrev pub element_at : NodeShape → NodeShape → Value → Value → State → Got Pointer
element_at a b v w s = then_do (settled (element_pointer (operand a) (operand b) v w) s) (λ v s. settled (target v) s)

abbrev pub truth_at : Value → State → Got (Option Value)
truth_at v s = gives (Int (truth (is_true v))) s

-- the value in a probe
abbrev pub probed : ExprShape → Value → State → Got (Option Value)
probed (probe (simple test x) a) v s = logs (log_test (outcome (is_true v))) (x ∷ []) s (gives v)
probed (probe (select x cs) a) v s = logs (log_test (chosen_among (choosing a) v (select_constants (choosing a) cs))) (x ∷ []) s (gives v)
probed f v s = untyped s

-- a value, or why the run stops
abbrev pub replied : Reply → State → Got Value
replied (reply.Value v) s = Gives v s
replied (reply.Stopped why) s = Stops why s

-- with one more turn
abbrev pub one_more : State → State
one_more s = record s { turns = suc s.turns }
