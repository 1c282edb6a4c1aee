-- What a run has still to do.
use Rattle.std.specs.Prelude.{◌≡◌, ℕ, ◌+◌, ◌*◌, List, [], ◌∷◌, Bool, true, false, Option, Some, None, if◌then◌else◌}
use Rattle.c_events.specs.declared.events.Event.{Event}
use Rattle.c_syntax.specs.Shape.{NodeShape, StmtShape, FormShape, while, do_while, for, switch, ItemShapes, DeclaratorShapes}
use Rattle.c_syntax.specs.View.{node_shape, stmt_shape, form_shape, item_list}
use Rattle.c_syntax.specs.declared.tree.Named.{Named}
use Rattle.c_store.specs.declared.value.Value.{Value}
use Rattle.c_tree.specs.declared.program.Program.{Program}
use Rattle.c_tables.specs.Tables.{TablesShape, tables_shape}
use Rattle.c_tables.specs.Rows.{row}
use Rattle.c_meaning.specs.declared.end.Flow.{Flow}
use Rattle.c_meaning.specs.declared.end.Flow.TheVariants.{Next, Break, Continue, Return}
use Rattle.c_meaning.specs.State.{State}
use Rattle.c_meaning.specs.Results.{Got, Gives, Stops, then_do, untyped, present}
use Rattle.c_meaning.specs.Operators.{converted, is_true}
use Rattle.c_meaning.specs.Firsts.{quiet}
use Rattle.c_meaning.specs.Layout.{variable_kind}
use Rattle.c_meaning.specs.Counts.{variables_among}
use Rattle.c_meaning.specs.Knot.{Loop, Knot}
use Rattle.c_meaning.specs.Declarations.{declared_names, scalar_written}
use Rattle.c_meaning.specs.Statements.{here, scope_closed, out_of_switch, after_one, step_flow, while_loop, do_loop, for_loop, chosen_entry, flow, items_flow}
use Rattle.c_meaning.specs.Calls.{Routine, result_in, past_signature, entered, body_flow, left, returned, calls}
use Rattle.c_meaning.specs.Runs.{silent}
use Rattle.c_meaning.specs.Sources.{source_of}
use Rattle.c_world.specs.Names.{scope_counts, one_more}
use Rattle.c_world.specs.World.{state_of}
use Rattle.c_world.specs.declared.world.World.{World}
use Rattle.c_eval.specs.Rest.{Val, all_do, answer, rest, weights, size}
use Rattle.c_eval_once.specs.Parts.{value}
use Rattle.c_eval.specs.declared.frame.Frame.{Frame}
use Rattle.c_eval.specs.declared.work.Work.{Work}
use Rattle.c_plan.specs.Parts.{items_left, names_ahead, first_in, other_in}
use Rattle.c_machine.specs.declared.parts.Purpose.{Purpose}
use Rattle.c_machine.specs.declared.parts.Purpose.TheVariants as purpose
use Rattle.c_machine.specs.declared.parts.Use.{Use}
use Rattle.c_machine.specs.declared.parts.Use.TheVariants as used
use Rattle.c_machine.specs.declared.parts.Declared.{Declared}
use Rattle.c_machine.specs.declared.parts.Declared.TheVariants as declared
use Rattle.c_machine.specs.declared.parts.Waiting.{Waiting}
use Rattle.c_machine.specs.declared.parts.Waiting.TheVariants as waiting
use Rattle.c_machine.specs.declared.parts.Active.{Active}
use Rattle.c_machine.specs.declared.parts.Active.TheVariants as active
use Rattle.c_machine.specs.declared.parts.Step.{Step}
use Rattle.c_machine.specs.declared.parts.Step.TheVariants as step
use Rattle.c_machine.specs.declared.machine.Machine.{Machine}
use Rattle.c_machine.specs.declared.running.Ended.{Ended}
use Rattle.c_machine.specs.declared.running.Ended.TheVariants as ended
use Rattle.c_machine.specs.Run.{ended_as}
use Rattle.c_machine.specs.declared.machine.Begun.{Begun}
use Rattle.c_machine.specs.declared.machine.Begun.TheVariants as begun

-- what takes the way in which a statement leaves, and what takes a value or none
abbrev pub Leaver : Type 0
Leaver = Flow → State → Got (Option Value)

abbrev pub Taker : Type 0
Taker = Option Value → State → Got (Option Value)

-- ---- parts of statements, behind so many variables

-- the statement is begun, where there is one
abbrev pub part_flow : TablesShape → Knot → Option StmtShape → ℕ → State → Got Flow
part_flow t k None n s = untyped s
part_flow t k (Some a) n s = flow t k true a (quiet n) s

-- the one behind an `else`, behind so many variables of the `if`
abbrev pub other_flow : TablesShape → Knot → Option (StmtShape × ℕ) → ℕ → State → Got Flow
other_flow t k None n s = Gives Next s
other_flow t k (Some b) n s = flow t k true b.0 (quiet (n + b.1)) s

-- an `if` has chosen
abbrev pub chosen_flow : TablesShape → Knot → FormShape → ℕ → Bool → State → Got Flow
chosen_flow t k f n x s = if x then part_flow t k (first_in f) n s else other_flow t k (other_in f) n s

-- ---- loops

abbrev pub loop_of : TablesShape → FormShape → ℕ → Option Loop
loop_of t (while e a) n = Some (while_loop t e a (quiet n))
loop_of t (do_while a e) n = Some (do_loop t a e (quiet n))
loop_of t (for e f g a) n = Some (for_loop t f g a (quiet n))
loop_of t f n = None

-- the next turn
abbrev pub again_flow : TablesShape → Knot → Option Loop → State → Got Flow
again_flow t k None s = untyped s
again_flow t k (Some l) s = k.again l s

-- behind the body: what a `for` evaluates there, and the next turn
abbrev pub next_flow : TablesShape → Knot → Option Loop → State → Got Flow
next_flow t k None s = untyped s
next_flow t k (Some l) s = then_do (step_flow t k l.step l.at_step s) (λ f. k.again l)

abbrev pub behind_body : TablesShape → Knot → Option Loop → Flow → State → Got Flow
behind_body t k l Next s = next_flow t k l s
behind_body t k l Continue s = next_flow t k l s
behind_body t k l Break s = Gives Next s
behind_body t k l (Return v) s = Gives (Return v) s

-- the body, and what is behind it
abbrev pub body_turn : TablesShape → Knot → FormShape → ℕ → State → Got Flow
body_turn t k f n s = then_do (part_flow t k (first_in f) n s) (behind_body t k (loop_of t f n))

abbrev pub tested_flow : TablesShape → Knot → FormShape → ℕ → Bool → State → Got Flow
tested_flow t k f n x s = if x then body_turn t k f n s else Gives Next s

-- ---- switches

-- the value chooses where the statements are begun
abbrev pub switch_flow : TablesShape → Knot → FormShape → ℕ → Value → State → Got Flow
switch_flow t k (switch e items) n v s = then_do (items_flow t k (chosen_entry e items v) false items (quiet n) s) out_of_switch
switch_flow t k f n v s = untyped s

-- ---- declarations

-- declarators, and statements behind them
abbrev pub block_flow : TablesShape → Knot → DeclaratorShapes → ItemShapes → ℕ → State → Got Flow
block_flow t k names items n s = then_do (declared_names t k names (quiet n) s) (λ f. items_flow t k here false items (quiet (n + variables_among names)))

-- the value in the type of that variable is written into that instance
abbrev pub init_flow : TablesShape → ℕ → ℕ → Option Named → Value → State → Got Flow
init_flow t j v x a s = then_do (present (variable_kind t v) s) (λ y. scalar_written x (quiet 0) j (converted y a))

-- ---- what an expression's value is for

-- of a value that is needed
abbrev pub needed_flow : TablesShape → Knot → Purpose → FormShape → ℕ → Value → State → Got Flow
needed_flow t k purpose.Choose f n v s = chosen_flow t k f n (is_true v) s
needed_flow t k purpose.Test f n v s = tested_flow t k f n (is_true v) s
needed_flow t k purpose.Again f n v s = again_flow t k (loop_of t f n) s
needed_flow t k purpose.Switch f n v s = switch_flow t k f n v s

abbrev pub stmt_flow : TablesShape → Knot → Purpose → FormShape → ℕ → Option Value → State → Got Flow
stmt_flow t k purpose.Again f n v s = again_flow t k (loop_of t f n) s
stmt_flow t k u f n v s = then_do (present v s) (needed_flow t k u f n)

abbrev pub use_flow : TablesShape → Knot → Use → Option Value → State → Got Flow
use_flow t k used.Discard v s = Gives Next s
use_flow t k used.Return v s = then_do (present v s) (λ v. Gives (Return (Some v)))
use_flow t k (used.Stmt u p) v s = stmt_flow t k u (form_shape p.stmt.now.form) p.before v s
use_flow t k (used.Init j n x) v s = then_do (present v s) (init_flow t j n x.now)

-- a declarator is done; the run stops; or an expression's value has a use
abbrev pub declared_as : TablesShape → Knot → Declared → State → Got Flow
declared_as t k declared.Done s = Gives Next s
declared_as t k (declared.Stopped why) s = Stops why s
declared_as t k (declared.Value e u) s = then_do (value t k (node_shape e.now) s) (use_flow t k u)

abbrev pub uses : TablesShape → Knot → Use → Leaver → Taker
uses t k u go v s = then_do (use_flow t k u v s) go

-- ---- what waits

-- a result, for what waits in the caller's expression
abbrev pub resumed : TablesShape → Knot → List Frame → Use → Leaver → Taker
resumed t k frames u go v s = then_do (all_do t k frames answer (Val v) s) (uses t k u go)

abbrev pub waits : TablesShape → Knot → Waiting → Leaver → Leaver
waits t k (waiting.Rest q) go f s = then_do (after_one (items_flow t k here false (items_left q) (quiet q.before)) f s) go
waits t k (waiting.Loop p) go f s = then_do (behind_body t k (loop_of t (form_shape p.stmt.now.form) p.before) f s) go
waits t k waiting.Scope go f s = go f (scope_closed s)
waits t k waiting.Switch go f s = then_do (out_of_switch f s) go
waits t k (waiting.Names b) go f s = then_do (block_flow t k (names_ahead b) (item_list b.items.now.items) b.before s) go
waits t k (waiting.Caller g frames u) go f s = then_do (returned (result_in (row t.functions g)) f s) (resumed t k frames.items u go)

abbrev pub all_wait : TablesShape → Knot → List Waiting → Leaver → Leaver
all_wait t k [] go = go
all_wait t k (w ∷ ws) go = all_wait t k ws (waits t k w go)

-- the end of the function that the run began with
abbrev pub at_end : TablesShape → ℕ → Leaver
at_end t g f s = returned (result_in (row t.functions g)) f s

-- ---- calls

-- up to the return of a function, where there is one with that number
abbrev pub entered_flow : TablesShape → Knot → ℕ → Option Routine → List Value → State → Got Flow
entered_flow t k g None vs s = untyped s
entered_flow t k g (Some r) vs s = then_do (entered t g r vs s) (λ f. body_flow t k r.marks r.body (past_signature t r.params r.first))

-- a function's result, with which it is left; none where nothing is left but a function
abbrev pub gave : Option (Option Value) → State → Got (Option Value)
gave None s = untyped s
gave (Some v) s = Gives v (left s)

-- ---- machines

abbrev pub active_left : TablesShape → Knot → Active → Work → Use → Leaver → State → Got (Option Value)
active_left t k (active.Open p) work u go s = then_do (flow t k false (stmt_shape p.stmt.now) (quiet p.before) s) go
active_left t k (active.Left f) work u go s = go f s
active_left t k (active.Turn l) work u go s = then_do (next_flow t k (loop_of t (form_shape l.placed.stmt.now.form) l.placed.before) s) go
active_left t k active.Busy work u go s = then_do (rest t k work s) (uses t k u go)

-- what waits in a machine
abbrev pub behind : TablesShape → Knot → Machine → Leaver
behind t k m = all_wait t k m.waiting.items (at_end t m.function)

-- what is still to do
abbrev pub left_in : TablesShape → Knot → Machine → State → Got (Option Value)
left_in t k m s = active_left t k m.active m.work m.used (behind t k m) s

abbrev pub left_after : TablesShape → Knot → Step → Machine → State → Got (Option Value)
left_after t k step.More m s = left_in t k m s
left_after t k step.Ended m s = ended_as m.ended s

-- where there is no step, the way in which a statement was left goes on to what waits
abbrev pub gone_on : TablesShape → Knot → Option Step → Machine → Flow → State → Got (Option Value)
gone_on t k None m f s = behind t k m f s
gone_on t k (Some a) m f s = left_after t k a m s

-- with the functions and loops of a program
abbrev pub knot_of : Program → Knot
knot_of p = calls (source_of p) silent

-- ---- the scopes that are open in each active call

abbrev pub scopes_with : Waiting → List ℕ → List ℕ
scopes_with waiting.Scope ns = one_more ns
scopes_with (waiting.Caller g frames u) ns = 1 ∷ ns
scopes_with w ns = ns

abbrev pub scopes_on : List Waiting → List ℕ → List ℕ
scopes_on [] ns = ns
scopes_on (w ∷ ws) ns = scopes_on ws (scopes_with w ns)

-- where the function that the run began with has only the scope of its parameters
abbrev pub open_scopes : List Waiting → List ℕ
open_scopes ws = scopes_on ws (1 ∷ [])

-- ---- what is open

abbrev pub active_size : Active → Work → ℕ
active_size (active.Open p) work = 0
active_size (active.Left f) work = 1
active_size (active.Turn l) work = 1
active_size active.Busy work = 3 * size work

abbrev pub weight : Waiting → ℕ
weight (waiting.Caller g frames u) = 3 + 3 * weights frames.items
weight w = 1

abbrev pub all_weights : List Waiting → ℕ
all_weights [] = 0
all_weights (w ∷ ws) = weight w + all_weights ws

abbrev pub machine_size : Machine → ℕ
machine_size m = active_size m.active m.work + all_weights m.waiting.items

-- what is still to do is this, and then what waited before
abbrev pub Leaves : Step → Machine → Machine → (TablesShape → Knot → State → Got Flow) → Type 0
Leaves a new old go = (p : Program) (s : State) → left_after (tables_shape p.tables) (knot_of p) a new s ≡ then_do (go (tables_shape p.tables) (knot_of p) s) (behind (tables_shape p.tables) (knot_of p) old)

-- the same in a run of that program, of which some goes on in the world
abbrev pub LeavesIn : Program → Step → Machine → World → Machine → World → (TablesShape → Knot → State → Got Flow) → Type 0
LeavesIn p a new w' old w go =
    (h : List Event) → left_after (tables_shape p.tables) (knot_of p) a new (state_of w' h) ≡ then_do (go (tables_shape p.tables) (knot_of p) (state_of w h)) (behind (tables_shape p.tables) (knot_of p) old)

-- the value of an expression is used
abbrev pub UsesIn : Program → Step → Machine → World → Machine → World → NodeShape → Use → Type 0
UsesIn p a new w' old w e u =
    (h : List Event) → left_after (tables_shape p.tables) (knot_of p) a new (state_of w' h) ≡ then_do (value (tables_shape p.tables) (knot_of p) e (state_of w h)) (uses (tables_shape p.tables) (knot_of p) u (behind (tables_shape p.tables) (knot_of p) old))

-- each scope that waits to be ended is open in the world, and no other
abbrev pub Tied : Machine → World → Type 0
Tied m w = scope_counts w.names.calls ≡ open_scopes m.waiting.items

-- so it is, where the run goes on
abbrev pub OnMore : Step → Type 0 → Type 0
OnMore step.More A = A
OnMore step.Ended A = Unit {0}

-- where there is a step; where it lets the run go on, or there is none; where there is none
abbrev pub OnStep : Option Step → Type 0 → Type 0
OnStep None A = Unit {0}
OnStep (Some a) A = OnMore a A

abbrev pub OnPassed : Option Step → Type 0 → Type 0
OnPassed None A = A
OnPassed (Some a) A = OnMore a A

abbrev pub OnNone : Option Step → Type 0 → Type 0
OnNone None A = A
OnNone (Some a) A = Unit {0}

-- it was stopped
abbrev pub HasStopped : Ended → Type 0
HasStopped (ended.Returned v) = ⊥
HasStopped (ended.Stopped why) = Unit {0}

-- the machine goes on or stops
abbrev pub IsOn : Step → Machine → Type 0
IsOn step.More m = Unit {0}
IsOn step.Ended m = HasStopped m.ended

-- ---- the beginning of a run

abbrev pub begun_left : TablesShape → Knot → Begun → State → Got (Option Value)
begun_left t k (begun.Running m) s = left_in t k m s
begun_left t k (begun.Stopped why) s = Stops why s

-- so it is of the machine, where one runs
abbrev pub OnRunning : Begun → (Machine → Type 0) → Type 0
OnRunning (begun.Running m) A = A m
OnRunning (begun.Stopped why) A = Unit {0}
