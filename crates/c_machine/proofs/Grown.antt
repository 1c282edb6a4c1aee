-- What a run has still to do takes nothing back: the log only grows.
use Rattle.std.proofs.Common.{◌≡◌, ℕ, ◌+◌, List, [], ◌∷◌, refl, arith, Option, Some, None, Bool, true, false}
use Rattle.std.specs.Prelude.{◌||◌, if◌then◌else◌}
use Rattle.c_events.specs.declared.events.Event.{Event}
use Rattle.c_base.specs.declared.place.Pos.{Pos}
use Rattle.c_syntax.specs.declared.tree.Named.{Named}
use Rattle.c_syntax.specs.Shape.{TypeOf, MaybeNode, no_node, one_node, no_specs, decl, no_decls, more_decls, DeclaratorShapes, StmtShape, FormShape, compound, simply, when, either, while, do_while, for, switch, break, continue, return, braces, ItemShapes, no_items, more_items}
use Rattle.c_syntax.specs.View.{stmt_shape, form_shape, item_list}
use Rattle.c_store.specs.declared.value.Value.{Value}
use Rattle.c_store.specs.Cells.{Cells, ended}
use Rattle.c_tree.specs.declared.program.Program.{Program}
use Rattle.c_tables.specs.Tables.{TablesShape, tables_shape}
use Rattle.c_tables.specs.Rows.{row}
use Rattle.c_walk.specs.Stating.{splits, is_labelled}
use Rattle.c_meaning.specs.declared.end.Flow.{Flow}
use Rattle.c_meaning.specs.declared.end.Flow.TheVariants.{Next, Break, Continue, Return}
use Rattle.c_meaning.specs.State.{Bound, State, top_within}
use Rattle.c_meaning.specs.Results.{Got, Gives, Stops, then_do, untyped, present}
use Rattle.c_meaning.specs.Layout.{variable_kind}
use Rattle.c_meaning.specs.Operators.{converted, is_true}
use Rattle.c_meaning.specs.Firsts.{First, quiet, in_expression}
use Rattle.c_meaning.specs.Counts.{variables_among, past_stmt}
use Rattle.c_meaning.specs.Knot.{Loop, Knot}
use Rattle.c_meaning.specs.Expressions.{meaning}
use Rattle.c_meaning.specs.Declarations.{declared_names}
use Rattle.c_meaning.specs.Statements.{Entry, here, is_reached, passed, ended_all, scope_closed, out_of_switch, after_one, step_flow, chosen_entry, flow, items_flow}
use Rattle.c_meaning.specs.Calls.{Source, left, returned, result_in, calls}
use Rattle.c_meaning.specs.Runs.{silent, main_called}
use Rattle.c_meaning.specs.Lasting.{Lasted, Keeps, IsFront, IsLater}
use Rattle.c_meaning.proofs.Steadily.{at_rest, behind_step, then_kept, if_kept, present_kept, scalar_kept}
use Rattle.c_meaning.proofs.SteadyNodes.{node_steady, arm_kept}
use Rattle.c_meaning.proofs.SteadyRuns.{later_lasts, flow_kept, compound_kept, calls_later, main_later}
use Rattle.c_meaning.specs.Sources.{source_of}
use Rattle.c_eval.specs.Advance.{Grown}
use Rattle.c_eval.specs.Rest.{Val, answer}
use Rattle.c_eval.specs.declared.frame.Frame.{Frame}
use Rattle.c_eval.specs.declared.work.Work.{Work}
use Rattle.c_eval.proofs.Advanced.{grown_later}
use Rattle.c_eval.proofs.Grown.{stack_on, work_later, answer_on}
use Rattle.c_plan.specs.Parts.{items_left, names_ahead, first_in, other_in}
use Rattle.c_machine.specs.declared.parts.Purpose.{Purpose}
use Rattle.c_machine.specs.declared.parts.Purpose.TheVariants as purpose
use Rattle.c_machine.specs.declared.parts.Use.{Use}
use Rattle.c_machine.specs.declared.parts.Use.TheVariants as used
use Rattle.c_machine.specs.declared.parts.Waiting.{Waiting}
use Rattle.c_machine.specs.declared.parts.Waiting.TheVariants as waiting
use Rattle.c_machine.specs.declared.parts.Active.{Active}
use Rattle.c_machine.specs.declared.parts.Active.TheVariants as active
use Rattle.c_machine.specs.declared.parts.Step.{Step}
use Rattle.c_machine.specs.declared.parts.Step.TheVariants as step
use Rattle.c_machine.specs.declared.machine.Machine.{Machine}
use Rattle.c_machine.specs.declared.running.Ended.{Ended}
use Rattle.c_machine.specs.declared.running.Ended.TheVariants as ended
use Rattle.c_machine.specs.Run.{ended_as}
use Rattle.c_machine.specs.declared.machine.Begun.{Begun}
use Rattle.c_machine.specs.declared.machine.Begun.TheVariants as begun
use Rattle.c_machine.specs.Todo.{Leaver, part_flow, other_flow, chosen_flow, loop_of, again_flow, next_flow, behind_body, tested_flow, switch_flow, block_flow, init_flow, needed_flow, stmt_flow, use_flow, uses, resumed, waits, all_wait, at_end, active_left, behind, left_in, left_after, begun_left, knot_of}

-- the result is in a later state, or the run stops in one
abbrev Later : {A : Type 0} → State → Got A → Type 0
Later s r = Lasted IsLater IsLater s r

-- so it is, whatever is taken
abbrev Onward : {A B : Type 0} → (A → State → Got B) → Type 0
Onward {A = A} go = (a : A) (s : State) → Later s (go a s)

-- ---- in general

still : {A : Type 0} (a : A) (s : State) → Later s (Gives a s)
still a s = at_rest IsLater IsLater IsLater IsLater later_lasts _ _ (later_lasts.same s)

stopped : {A : Type 0} (s : State) → Later s (untyped {A = A} s)
stopped s = at_rest IsLater IsLater IsLater IsLater later_lasts _ _ (later_lasts.same s)

on : {A B : Type 0} (s : State) (r : Got A) (go : A → State → Got B) → Later s r → Onward go → Later s (then_do r go)
on s r go kept onward = then_kept IsLater IsLater IsLater IsLater later_lasts s r go kept onward

one_of : {A : Type 0} (s : State) (b : Bool) (q r : Got A) → Later s q → Later s r → Later s (if b then q else r)
one_of s b q r x y = if_kept IsLater IsLater IsLater IsLater later_lasts s b q r x y

there : {A : Type 0} (o : Option A) (s : State) → Later s (present o s)
there o s = present_kept IsLater IsLater IsLater IsLater later_lasts o s

-- ---- scopes and calls end

ended_count : (bs : List Bound) (c : Cells) → (ended_all bs c).count ≡ c.count
ended_count [] c = refl
ended_count (b ∷ bs) c = ended_count bs (ended c b.instance)

closed_later : (s : State) → IsLater s (scope_closed s)
closed_later s =
    let r = later_lasts.same s in
    record { output = r.output; deeds = r.deeds; log = r.log; turns = r.turns; made = omega (arith, ended_count (top_within s.calls) s.store); last = r.last }

left_later : (s : State) → IsLater s (left s)
left_later s =
    let r = closed_later s in
    record { output = r.output; deeds = r.deeds; log = r.log; turns = r.turns; made = r.made; last = r.last }

returned_later : (y : TypeOf) → Onward (returned y)
returned_later y (Return (Some v)) s = record { holds = left_later s }
returned_later y (Return None) s = record { holds = left_later s }
returned_later y Next s = record { holds = left_later s }
returned_later y Break s = stopped s
returned_later y Continue s = stopped s

-- ---- ways on

out_later : Onward out_of_switch
out_later Next s = still _ s
out_later Break s = still _ s
out_later Continue s = still _ s
out_later (Return v) s = still _ s

after_later : (go : State → Got Flow) → ((s : State) → Later s (go s)) → Onward (after_one go)
after_later go onward Next s = onward s
after_later go onward Break s = still _ s
after_later go onward Continue s = still _ s
after_later go onward (Return v) s = still _ s

-- what leaves so in the end left so before
before_next : (s : State) (r : Got Flow) → Later s (then_do (then_do r (λ f. Gives Next)) (λ f. Gives Next)) → Later s r
before_next s (Gives f u) kept = record { holds = kept.holds }
before_next s (Stops why u) kept = record { holds = kept.holds }

module _ (t : TablesShape) (k : Knot) (keeps : Keeps IsLater IsLater IsLater IsLater k) where
  -- ---- parts of statements

  stmt_later : (b : Bool) (a : StmtShape) (i : First) (s : State) → Later s (flow t k b a i s)
  stmt_later b a i s = flow_kept IsLater IsLater IsLater IsLater later_lasts t k keeps b a i s

  items_later : (e : Entry) (b : Bool) (items : ItemShapes) (i : First) (s : State) → Later s (items_flow t k e b items i s)
  items_later e b no_items i s = still _ s
  items_later e b (more_items labels a rest) i s =
      let c = b || is_labelled labels in
      one_of s (is_reached e labels) _ _
      (on s _ _ (stmt_later c a i s) (after_later _ (λ s. items_later here (splits a) rest (past_stmt t c a i) s)))
      (items_later (passed e labels) (splits a) rest (past_stmt t c a i) s)

  -- as those of a block without statements
  names_later : (names : DeclaratorShapes) (i : First) (s : State) → Later s (declared_names t k names i s)
  names_later names i s =
      let p : Pos = record { line = 1; col = 1 } in
      before_next s _ (compound_kept IsLater IsLater IsLater IsLater later_lasts t k keeps (braces p (more_decls (decl p no_specs names) no_decls) no_items) i s)

  step_later : (e : MaybeNode) (i : First) (s : State) → Later s (step_flow t k e i s)
  step_later no_node i s = still _ s
  step_later (one_node e) i s =
      on s _ _ (arm_kept IsLater IsLater IsLater IsLater later_lasts e (in_expression i) s (meaning t k e).value (λ j s. (node_steady IsLater IsLater IsLater IsLater later_lasts t k keeps e).value_steady j s)) (λ v s. still _ s)

  part_later : (o : Option StmtShape) (n : ℕ) (s : State) → Later s (part_flow t k o n s)
  part_later None n s = stopped s
  part_later (Some a) n s = stmt_later true a (quiet n) s

  other_later : (o : Option (StmtShape × ℕ)) (n : ℕ) (s : State) → Later s (other_flow t k o n s)
  other_later None n s = still _ s
  other_later (Some b) n s = stmt_later true b.0 (quiet (n + b.1)) s

  chosen_later : (f : FormShape) (n : ℕ) (x : Bool) (s : State) → Later s (chosen_flow t k f n x s)
  chosen_later f n x s = one_of s x _ _ (part_later (first_in f) n s) (other_later (other_in f) n s)

  -- ---- loops

  again_later : (l : Option Loop) (s : State) → Later s (again_flow t k l s)
  again_later None s = stopped s
  again_later (Some l) s = keeps.again_keeps l s

  next_later : (l : Option Loop) (s : State) → Later s (next_flow t k l s)
  next_later None s = stopped s
  next_later (Some l) s = on s _ _ (step_later l.step l.at_step s) (λ f s. keeps.again_keeps l s)

  behind_later : (l : Option Loop) → Onward (behind_body t k l)
  behind_later l Next s = next_later l s
  behind_later l Continue s = next_later l s
  behind_later l Break s = still _ s
  behind_later l (Return v) s = still _ s

  tested_later : (f : FormShape) (n : ℕ) (x : Bool) (s : State) → Later s (tested_flow t k f n x s)
  tested_later f n x s = one_of s x _ _ (on s _ _ (part_later (first_in f) n s) (behind_later (loop_of t f n))) (still _ s)

  -- ---- switches and declarations

  switch_later : (f : FormShape) (n : ℕ) (v : Value) (s : State) → Later s (switch_flow t k f n v s)
  switch_later (switch e items) n v s = on s _ _ (items_later (chosen_entry e items v) false items (quiet n) s) out_later
  switch_later (compound c) n v s = stopped s
  switch_later (simply e) n v s = stopped s
  switch_later (when e a) n v s = stopped s
  switch_later (either e a b) n v s = stopped s
  switch_later (while e a) n v s = stopped s
  switch_later (do_while a e) n v s = stopped s
  switch_later (for e f g a) n v s = stopped s
  switch_later break n v s = stopped s
  switch_later continue n v s = stopped s
  switch_later (return e) n v s = stopped s

  block_later : (names : DeclaratorShapes) (items : ItemShapes) (n : ℕ) (s : State) → Later s (block_flow t k names items n s)
  block_later names items n s = on s _ _ (names_later names (quiet n) s) (λ f s. items_later here false items (quiet (n + variables_among names)) s)

  init_later : (j v : ℕ) (x : Option Named) (a : Value) (s : State) → Later s (init_flow t j v x a s)
  init_later j v x a s = on s _ _ (there (variable_kind t v) s) (λ y s. scalar_kept IsLater IsLater IsLater IsLater later_lasts x (quiet 0) j (converted y a) s)

  -- ---- what an expression's value is for

  needed_later : (u : Purpose) (f : FormShape) (n : ℕ) (v : Value) (s : State) → Later s (needed_flow t k u f n v s)
  needed_later purpose.Choose f n v s = chosen_later f n (is_true v) s
  needed_later purpose.Test f n v s = tested_later f n (is_true v) s
  needed_later purpose.Again f n v s = again_later (loop_of t f n) s
  needed_later purpose.Switch f n v s = switch_later f n v s

  purpose_later : (u : Purpose) (f : FormShape) (n : ℕ) (v : Option Value) (s : State) → Later s (stmt_flow t k u f n v s)
  purpose_later purpose.Again f n v s = again_later (loop_of t f n) s
  purpose_later purpose.Choose f n v s = on s _ _ (there v s) (needed_later purpose.Choose f n)
  purpose_later purpose.Test f n v s = on s _ _ (there v s) (needed_later purpose.Test f n)
  purpose_later purpose.Switch f n v s = on s _ _ (there v s) (needed_later purpose.Switch f n)

  use_later : (u : Use) → Onward (use_flow t k u)
  use_later used.Discard v s = still _ s
  use_later used.Return v s = on s _ _ (there v s) (λ v s. still _ s)
  use_later (used.Stmt u p) v s = purpose_later u (form_shape p.stmt.now.form) p.before v s
  use_later (used.Init j n x) v s = on s _ _ (there v s) (init_later j n x.now)

  -- ---- what waits

  uses_later : (u : Use) (go : Leaver) → Onward go → Onward (uses t k u go)
  uses_later u go onward v s = on s _ go (use_later u v s) onward

  resumed_later : (frames : List Frame) (u : Use) (go : Leaver) → Onward go → Onward (resumed t k frames u go)
  resumed_later frames u go onward v s = on s _ _ (stack_on IsLater IsLater IsLater IsLater later_lasts t k keeps frames answer (answer_on IsLater IsLater IsLater IsLater later_lasts) (Val v) s) (uses_later u go onward)

  waits_later : (w : Waiting) (go : Leaver) → Onward go → Onward (waits t k w go)
  waits_later (waiting.Rest q) go onward f s = on s _ go (after_later _ (λ s. items_later here false (items_left q) (quiet q.before) s) f s) onward
  waits_later (waiting.Loop p) go onward f s = on s _ go (behind_later (loop_of t (form_shape p.stmt.now.form) p.before) f s) onward
  waits_later waiting.Scope go onward f s = behind_step IsLater IsLater IsLater IsLater later_lasts s (scope_closed s) _ (closed_later s) (onward f (scope_closed s))
  waits_later waiting.Switch go onward f s = on s _ go (out_later f s) onward
  waits_later (waiting.Names b) go onward f s = on s _ go (block_later (names_ahead b) (item_list b.items.now.items) b.before s) onward
  waits_later (waiting.Caller g frames u) go onward f s = on s _ _ (returned_later (result_in (row t.functions g)) f s) (resumed_later frames.items u go onward)

  all_later : (ws : List Waiting) (go : Leaver) → Onward go → Onward (all_wait t k ws go)
  all_later [] go onward = onward
  all_later (w ∷ ws) go onward = all_later ws (waits t k w go) (waits_later w go onward)

  -- ---- machines

  active_later : (a : Active) (w : Work) (u : Use) (go : Leaver) → Onward go → (s : State) → Later s (active_left t k a w u go s)
  active_later (active.Open p) w u go onward s = on s _ go (stmt_later false (stmt_shape p.stmt.now) (quiet p.before) s) onward
  active_later (active.Left f) w u go onward s = onward f s
  active_later (active.Turn l) w u go onward s = on s _ go (next_later (loop_of t (form_shape l.placed.stmt.now.form) l.placed.before) s) onward
  active_later active.Busy w u go onward s = on s _ _ (work_later t k keeps w s) (uses_later u go onward)

  rest_later : (m : Machine) → Onward (behind t k m)
  rest_later m = all_later m.waiting.items (at_end t m.function) (λ f s. returned_later (result_in (row t.functions m.function)) f s)

  todo_later : (m : Machine) (s : State) → Later s (left_in t k m s)
  todo_later m s = active_later m.active m.work m.used (behind t k m) (rest_later m) s

-- ---- runs

-- what a machine has still to do takes nothing back
pub machine_later : (P : Program) (m : Machine) (s : State) → Lasted IsLater IsLater s (left_in (tables_shape P.tables) (knot_of P) m s)
machine_later P m s = todo_later (tables_shape P.tables) (knot_of P) (calls_later (source_of P) silent) m s

pub machine_grown : (P : Program) (m : Machine) (s : State) (l : List Event) → IsFront l s.log → Grown l (left_in (tables_shape P.tables) (knot_of P) m s)
machine_grown P m s l f = grown_later l s (left_in (tables_shape P.tables) (knot_of P) m s) f (machine_later P m s)

ended_later : (e : Ended) (s : State) → Lasted IsLater IsLater s (ended_as e s)
ended_later (ended.Returned v) s = still v s
ended_later (ended.Stopped why) s = at_rest IsLater IsLater IsLater IsLater later_lasts _ _ (later_lasts.same s)

-- the same after a step
pub machine_after : (P : Program) (a : Step) (m : Machine) (s : State) → Lasted IsLater IsLater s (left_after (tables_shape P.tables) (knot_of P) a m s)
machine_after P step.More m s = machine_later P m s
machine_after P step.Ended m s = ended_later m.ended s

-- and as the run begins
pub begun_later : (P : Program) (b : Begun) (s : State) → Lasted IsLater IsLater s (begun_left (tables_shape P.tables) (knot_of P) b s)
begun_later P (begun.Running m) s = machine_later P m s
begun_later P (begun.Stopped why) s = at_rest IsLater IsLater IsLater IsLater later_lasts _ _ (later_lasts.same s)

-- nor does a whole run
pub made_later : (P : Source) (s : State) → Lasted IsLater IsLater s (main_called P silent (calls P silent) s)
made_later P s = main_later P silent s
