-- What an expression has still to do.
use Rattle.std.specs.Prelude.{ℕ, suc, ◌+◌, ◌<◌, pos, drop, map, Bool, List, [], ◌∷◌, ◌++◌, true, false, Option, Some, None, option_map, if◌then◌else◌}
use Rattle.c_arith.specs.Arith.{truth}
use Rattle.c_syntax.specs.declared.tree.StepOp.{StepOp}
use Rattle.c_syntax.specs.declared.tree.StepOp.TheVariants as way
use Rattle.c_syntax.specs.declared.tree.BinaryOp.{BinaryOp}
use Rattle.c_syntax.specs.declared.tree.Node.{Node}
use Rattle.c_syntax.specs.declared.tree.UnaryOp.TheVariants as front
use Rattle.c_syntax.specs.Shape.{Step, NoteShape, NodeShape, ExprShape, unary, before, plain, and, or, assign, comma, dot, arrow, prefix, cast, suffix, two, choose, probe, index, field, behind, simple, select, test, used, def}
use Rattle.c_syntax.specs.View.{type_of, note_shape, expr_shape, node_shape, node_list}
use Rattle.c_store.specs.declared.value.Value.{Value}
use Rattle.c_store.specs.declared.value.Value.TheVariants.{Int, At}
use Rattle.c_store.specs.declared.value.Pointer.{Pointer}
use Rattle.c_tables.specs.Tables.{TablesShape}
use Rattle.c_walk.specs.declared.around.Taken.TheVariants.{Read as Reading}
use Rattle.c_walk.specs.Places.{holds_structure}
use Rattle.c_walk.specs.Tests.{choosing}
use Rattle.c_meaning.specs.State.{State}
use Rattle.c_meaning.specs.Results.{Got, Gives, Stops, then_do, untyped, settled, present, needed}
use Rattle.c_meaning.specs.Operators.{converted, is_true, operated, stepped_by_one, element_pointer, of_one, target, pointed}
use Rattle.c_meaning.specs.Firsts.{quiet, outcome}
use Rattle.c_meaning.specs.Places.{field_place, logs, marks, loaded, fetched, copied}
use Rattle.c_meaning.specs.Constants.{select_constants, chosen_among, kind_noted, type_at}
use Rattle.c_meaning.specs.Knot.{Knot}
use Rattle.c_meaning.specs.Builtins.{called, as_parameter}
use Rattle.c_meaning.specs.Expressions.{meaning, arguments, gives, operand, cast_value, last_test, assigned, written, stepped_from, log_test}
use Rattle.c_eval.specs.declared.frame.Frame.{Frame}
use Rattle.c_eval.specs.declared.frame.Wait.{Wait}
use Rattle.c_eval.specs.declared.frame.Wait.TheVariants as wait
use Rattle.c_eval.specs.declared.frame.Focus.{Focus}
use Rattle.c_eval.specs.declared.frame.Focus.TheVariants as focus
use Rattle.c_eval_once.specs.declared.reply.Reply.{Reply}
use Rattle.c_eval_once.specs.declared.reply.Reply.TheVariants as reply
use Rattle.c_eval.specs.declared.frame.Step as stepping
use Rattle.c_eval.specs.declared.frame.Step.TheVariants as step
use Rattle.c_eval.specs.declared.work.Work.{Work}
use Rattle.c_eval_once.specs.Parts.{value, place, is_front, stepped_there, combined, combined_into, element_at, truth_at, probed, replied, one_more}

-- ---- what waits

-- a value, or none, or a place was come to
pub data Gave : Type 0 where
  Val : (v : Option Value) → Gave
  Spot : (q : Pointer) → Gave

abbrev pub Taker : Type 0
Taker = Gave → State → Got (Option Value)

-- takes a value or none; takes a value; takes a place
abbrev pub on_any : (Option Value → State → Got (Option Value)) → Taker
on_any go (Val v) s = go v s
on_any go (Spot q) s = untyped s

abbrev pub on_value : (Value → State → Got (Option Value)) → Taker
on_value go (Val v) s = then_do (present v s) go
on_value go (Spot q) s = untyped s

abbrev pub on_place : (Pointer → State → Got (Option Value)) → Taker
on_place go (Val v) s = untyped s
on_place go (Spot q) s = go q s

abbrev pub to_value : Taker → Option Value → State → Got (Option Value)
to_value go v s = go (Val v) s

abbrev pub to_spot : Taker → Pointer → State → Got (Option Value)
to_spot go q s = go (Spot q) s

abbrev pub answer : Taker
answer = on_any Gives

-- ---- frames, by what is waited for

abbrev pub nothing_waits : Taker
nothing_waits x s = untyped s

-- the value of the first operand
abbrev pub on_operand : TablesShape → Knot → NoteShape → ExprShape → Taker → Taker
on_operand t k n (prefix (unary front.Deref) a) go = on_value (λ v s. then_do (settled (target v) s) (to_spot go))
on_operand t k n (prefix (unary u) a) go = on_value (λ v s. then_do (then_do (settled (of_one u (operand a) v) s) gives) (to_value go))
on_operand t k n (cast y a) go = on_any (λ v s. then_do (cast_value (kind_noted n) (Gives v s)) (to_value go))
on_operand t k n (suffix a (index b)) go = on_value (λ v s. then_do (then_do (needed (value t k b s)) (element_at a b v)) (to_spot go))
on_operand t k n (suffix a (field arrow x q)) go = on_value (λ v s. then_do (then_do (settled (target v) s) (field_place t x (pointed (operand a)))) (to_spot go))
on_operand t k n (two (plain u) a b) go = on_value (λ v s. then_do (then_do (needed (value t k b s)) (combined u a b v)) (to_value go))
on_operand t k n (two and a b) go = on_value (λ v s. then_do (if is_true v then last_test b (meaning t k b) (quiet 0) s else gives (Int (pos 0)) s) (to_value go))
on_operand t k n (two or a b) go = on_value (λ v s. then_do (if is_true v then gives (Int (pos 1)) s else last_test b (meaning t k b) (quiet 0) s) (to_value go))
on_operand t k n (two comma a b) go = on_any (λ v s. then_do (value t k b s) (to_value go))
on_operand t k n (choose a b c) go = on_value (λ v s.
    then_do (then_do (if is_true v then value t k b s else value t k c s) (λ v. Gives (option_map (converted (kind_noted n)) v))) (to_value go))
on_operand t k n f go = nothing_waits

-- the place of the operand
abbrev pub on_found : TablesShape → Knot → ExprShape → Taker → Taker
on_found t k (prefix (unary front.AddressOf) a) go = on_place (λ q s. then_do (gives (At q) s) (to_value go))
on_found t k (prefix (before u) a) go = on_place (λ q s. then_do (stepped_there true u a q s) (to_value go))
on_found t k (suffix a (behind u)) go = on_place (λ q s. then_do (stepped_there false u a q s) (to_value go))
on_found t k (suffix a (field dot x p)) go = on_place (λ q s. then_do (field_place t x (type_at a) q s) (to_spot go))
on_found t k (two (assign None) a b) go = on_place (λ q s. then_do (assigned (holds_structure a) (type_at a) (marks def a) (marks used b) (meaning t k b) (quiet 0) (quiet 0) q s) (to_value go))
on_found t k (two (assign (Some u)) a b) go = on_place (λ q s.
    then_do (then_do (loaded (marks used a) (quiet 0) q s) (λ x s. then_do (needed (value t k b s)) (combined_into u a b q x))) (to_value go))
on_found t k f go = nothing_waits

-- the value of the second operand
abbrev pub on_second : ExprShape → Value → Taker → Taker
on_second (two (plain u) a b) v go = on_value (λ w s. then_do (combined u a b v w s) (to_value go))
on_second (suffix a (index b)) v go = on_value (λ w s. then_do (element_at a b v w s) (to_spot go))
on_second f v go = nothing_waits

-- what is written
abbrev pub on_written : ExprShape → Pointer → Taker → Taker
on_written (two (assign None) a b) q go = on_value (λ v s. then_do (written (type_at a) (marks def a) (quiet 0) q v s) (to_value go))
on_written f q go = nothing_waits

abbrev pub on_combined : ExprShape → Pointer → Value → Taker → Taker
on_combined (two (assign (Some u)) a b) q x go = on_value (λ y s. then_do (combined_into u a b q x y s) (to_value go))
on_combined f q x go = nothing_waits

-- the place of the structure that is copied
abbrev pub on_copied : ExprShape → Pointer → Taker → Taker
on_copied (two (assign None) a b) q go = on_place (λ r s. then_do (copied (marks def a) (marks used b) (quiet 0) (quiet 0) q r s) (to_value go))
on_copied f q go = nothing_waits

-- the left side of a comma
abbrev pub on_comma : TablesShape → Knot → ExprShape → Taker → Taker
on_comma t k (two comma a b) go = on_any (λ v s. then_do (place t k b s) (to_spot go))
on_comma t k f go = nothing_waits

-- what a node does with what it waits for
abbrev pub waits : TablesShape → Knot → NoteShape → ExprShape → NodeShape → Wait → Taker → Taker
waits t k n f e wait.Operand go = on_operand t k n f go
waits t k n f e wait.Probe go = on_value (λ v s. then_do (probed f v s) (to_value go))
waits t k n f e wait.Place go = on_found t k f go
waits t k n f e wait.Read go = on_place (λ q s. then_do (fetched t n (marks used e) (quiet 0) q s) (to_value go))
waits t k n f e (wait.Second v) go = on_second f v go
waits t k n f e wait.Truth go = on_value (λ v s. then_do (truth_at v s) (to_value go))
waits t k n f e (wait.Into q) go = on_written f q go
waits t k n f e (wait.Combine q x) go = on_combined f q x go
waits t k n f e (wait.Copy q) go = on_copied f q go
waits t k n f e wait.Chosen go = on_any (λ v s. go (Val (option_map (converted (kind_noted n)) v)) s)
waits t k n f e wait.Comma go = on_comma t k f go
waits t k n f e (wait.Argument kinds others done) go = on_value (λ v s.
    then_do (then_do (arguments t k (node_list others.now) (drop 1 (map type_of kinds.now)) (quiet 0) s) (λ vs. called t k n (done.items ++ as_parameter (map type_of kinds.now) v ∷ vs))) (to_value go))

abbrev pub waiting : TablesShape → Knot → Node → Wait → Taker → Taker
waiting t k e w go = waits t k (note_shape e.note) (expr_shape e.form) (node_shape e) w go

abbrev pub does : TablesShape → Knot → Frame → Taker → Taker
does t k f go = waiting t k f.node.now f.wait go

-- what a stack does with what is come to: its last frame is the top
abbrev pub all_do : TablesShape → Knot → List Frame → Taker → Taker
all_do t k [] go = go
all_do t k (f ∷ fs) go = all_do t k fs (does t k f go)

-- ---- works

abbrev pub rest_of : TablesShape → Knot → Focus → Taker → State → Got (Option Value)
rest_of t k (focus.Value e) go s = then_do (value t k (node_shape e.now) s) (to_value go)
rest_of t k (focus.Place e) go s = then_do (place t k (node_shape e.now) s) (to_spot go)
rest_of t k (focus.Given v) go s = go (Val v) s
rest_of t k (focus.At q) go s = go (Spot q) s

-- what is still to do
abbrev pub rest : TablesShape → Knot → Work → State → Got (Option Value)
rest t k w s = rest_of t k w.focus (all_do t k w.stack.items answer) s

-- what waits in a work
abbrev pub left : TablesShape → Knot → Work → Taker
left t k w = all_do t k w.stack.items answer

-- the same after a step
abbrev pub rest_after : TablesShape → Knot → stepping.Step → Work → State → Got (Option Value)
rest_after t k step.More w s = rest t k w s
rest_after t k (step.Answer v) w s = Gives v s
rest_after t k (step.Call f args) w s = then_do (k.call f args.items s) (to_value (left t k w))
rest_after t k (step.Stopped why) w s = Stops why s

-- ---- what is open

-- a frame, but for those of probes, which take no turn
abbrev pub wait_weight : Wait → ℕ
wait_weight wait.Operand = 1
wait_weight wait.Probe = 0
wait_weight wait.Place = 1
wait_weight wait.Read = 1
wait_weight (wait.Second v) = 1
wait_weight wait.Truth = 1
wait_weight (wait.Into q) = 1
wait_weight (wait.Combine q x) = 1
wait_weight (wait.Copy q) = 1
wait_weight wait.Chosen = 1
wait_weight wait.Comma = 1
wait_weight (wait.Argument kinds others done) = 1

abbrev pub weight : Frame → ℕ
weight f = wait_weight f.wait

abbrev pub weights : List Frame → ℕ
weights [] = 0
weights (f ∷ fs) = weight f + weights fs

abbrev pub focus_weight : Focus → ℕ
focus_weight (focus.Value e) = 0
focus_weight (focus.Place e) = 0
focus_weight (focus.Given v) = 1
focus_weight (focus.At q) = 1

abbrev pub size : Work → ℕ
size w = focus_weight w.focus + weights w.stack.items

abbrev pub size_after : stepping.Step → Work → ℕ
size_after step.More w = size w
size_after (step.Answer v) w = 0
size_after (step.Call f args) w = weights w.stack.items
size_after (step.Stopped why) w = 0

-- falls, but where the run stops
abbrev pub Lower : stepping.Step → ℕ → ℕ → Type 0
Lower step.More n m = n < m
Lower (step.Answer v) n m = n < m
Lower (step.Call f args) n m = n < m
Lower (step.Stopped why) n m = Unit {0}
