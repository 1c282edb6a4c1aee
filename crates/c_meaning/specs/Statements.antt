-- What statements do (C89, 3.6). Each takes a turn as it begins; the event of a block comes before it.
use Rattle.std.specs.Prelude.{ℕ, ◌-◌, ◌||◌, List, [], ◌∷◌, length, map, nat_le, Bool, true, false, Some, None, if◌then◌else◌}
use Rattle.c_syntax.specs.declared.tree.ProbeMark.{ProbeMark}
use Rattle.c_syntax.specs.Shape.{NodeShape, MaybeNode, no_node, one_node, LabelShape, StmtShape, stmt, FormShape, compound, simply, when, either, while, do_while, for, switch, break, continue, return, CompoundShape, braces, ItemShapes, no_items, more_items}
use Rattle.c_store.specs.declared.value.Value.{Value}
use Rattle.c_store.specs.Cells.{Cells, ended}
use Rattle.c_tables.specs.Tables.{TablesShape}
use Rattle.c_walk.specs.Tests.{choosing}
use Rattle.c_walk.specs.Stating.{splits, is_labelled, case_count, has_default}
use Rattle.c_meaning.specs.declared.end.Flow.{Flow}
use Rattle.c_meaning.specs.declared.end.Flow.TheVariants.{Next, Break, Continue, Return}
use Rattle.c_meaning.specs.State.{Bound, State, in_call, opened, tail_of, top_within}
use Rattle.c_meaning.specs.Results.{Got, Gives, then_do, turn, needed}
use Rattle.c_meaning.specs.Firsts.{First, in_expression, behind_test, at_choice, behind_choice, at_block, noted_block, noted_outcome}
use Rattle.c_meaning.specs.Places.{logs}
use Rattle.c_meaning.specs.Constants.{case_constants, chosen_among}
use Rattle.c_meaning.specs.Counts.{past_decls, past_stmt, behind_maybe, behind_maybe_test, behind_step}
use Rattle.c_meaning.specs.Knot.{Loop, Knot}
use Rattle.c_meaning.specs.Expressions.{meaning, tested, arm, log_block}
use Rattle.c_meaning.specs.Declarations.{declared_all}

-- ---- scopes

abbrev pub ended_all : List Bound → Cells → Cells
ended_all [] c = c
ended_all (b ∷ bs) c = ended_all bs (ended c b.instance)

abbrev pub scope_opened : State → State
scope_opened s = record s { calls = in_call opened s.calls }

-- with the innermost scope its instances end
abbrev pub scope_closed : State → State
scope_closed s = record s { store = ended_all (top_within s.calls) s.store; calls = in_call tail_of s.calls }

abbrev pub scoped : State → (State → Got Flow) → Got Flow
scoped s go = then_do (go (scope_opened s)) (λ f s. Gives f (scope_closed s))

-- ---- labels

-- where a list of statements is begun: at its first; at the case of that number, of those that are left; or at its default
pub data Entry : Type 0 where
  here : Entry
  at_case : ℕ → Entry
  at_default : Entry

abbrev pub is_reached : Entry → List LabelShape → Bool
is_reached here labels = true
is_reached (at_case n) labels = nat_le n (case_count labels)
is_reached at_default labels = has_default labels

-- behind labels that were passed by
abbrev pub passed : Entry → List LabelShape → Entry
passed (at_case n) labels = at_case (n - case_count labels)
passed entry labels = entry

-- the case of that number of so many, or the default
abbrev pub entry_at : ℕ → ℕ → Entry
entry_at n count = if nat_le n count then at_case n else at_default

-- ---- ways on

-- a `break` leaves the switch
abbrev pub out_of_switch : Flow → State → Got Flow
out_of_switch Break s = Gives Next s
out_of_switch f s = Gives f s

-- behind a statement of a list
abbrev pub after_one : (State → Got Flow) → Flow → State → Got Flow
after_one go Next s = go s
after_one go f s = Gives f s

abbrev pub discarded : TablesShape → Knot → MaybeNode → First → State → Got Flow
discarded t k no_node i s = Gives Next s
discarded t k (one_node e) i s = then_do ((meaning t k e).value (in_expression i) s) (λ v. Gives Next)

-- the step of a `for` is a block
abbrev pub step_flow : TablesShape → Knot → MaybeNode → First → State → Got Flow
step_flow t k no_node i s = Gives Next s
step_flow t k (one_node e) i s = then_do (arm e (in_expression i) s (meaning t k e).value) (λ v. Gives Next)

-- behind a loop's body
abbrev pub after_body : TablesShape → Knot → Loop → Flow → State → Got Flow
after_body t k l Next s = then_do (step_flow t k l.step l.at_step s) (λ f. k.again l)
after_body t k l Continue s = then_do (step_flow t k l.step l.at_step s) (λ f. k.again l)
after_body t k l Break s = Gives Next s
after_body t k l (Return v) s = Gives (Return v) s

-- ---- loops

abbrev pub while_loop : TablesShape → NodeShape → StmtShape → First → Loop
while_loop t e a i = record { test = one_node e; at_test = i; body = a; at_body = behind_maybe_test (one_node e) i; step = no_node; at_step = i }

-- the body stands in front of the test
abbrev pub do_loop : TablesShape → StmtShape → NodeShape → First → Loop
do_loop t a e i = record { test = one_node e; at_test = past_stmt t true a i; body = a; at_body = i; step = no_node; at_step = i }

-- behind the first part of a `for`
abbrev pub for_loop : TablesShape → MaybeNode → MaybeNode → StmtShape → First → Loop
for_loop t f g a i = record {
  test = f;
  at_test = i;
  body = a;
  at_body = behind_step g (behind_maybe_test f i);
  step = g;
  at_step = behind_maybe_test f i;
}

-- the test of a loop is a block, and one that is left out holds
abbrev pub loop_test : TablesShape → Knot → MaybeNode → First → State → Got Bool
loop_test t k no_node i s = Gives true s
loop_test t k (one_node e) i s = arm e (in_expression i) s (tested e (meaning t k e))

-- ---- statements

-- block probes in front of a statement
abbrev pub marks_log : List ProbeMark → State → (State → Got Flow) → Got Flow
marks_log ms s go = logs log_block (map (λ m. m.number) ms) s go

-- the number of the case that a value chooses, or one more than there are; and where the statements are begun
abbrev pub case_number : NodeShape → ItemShapes → Value → ℕ
case_number e items v = chosen_among (choosing e) v (case_constants (choosing e) items)

abbrev pub chosen_entry : NodeShape → ItemShapes → Value → Entry
chosen_entry e items v = entry_at (case_number e items v) (length (case_constants (choosing e) items))

abbrev mutual
  -- one that is a block or not
  pub flow : TablesShape → Knot → Bool → StmtShape → First → State → Got Flow
  flow t k b (stmt p ms q f) i s = marks_log ms (noted_block b i s) (λ s. turn s (form_flow t k f (at_block b p i)))

  pub form_flow : TablesShape → Knot → FormShape → First → State → Got Flow
  form_flow t k (compound c) i s = scoped s (compound_flow t k c i)
  form_flow t k (simply e) i s = discarded t k e i s
  form_flow t k (when e a) i s =
      then_do (tested e (meaning t k e) (in_expression i) s) (λ x s. if x then flow t k true a (behind_test e i) s else Gives Next s)
  form_flow t k (either e a b) i s =
      then_do (tested e (meaning t k e) (in_expression i) s) (λ x s. if x then flow t k true a (behind_test e i) s else flow t k true b (past_stmt t true a (behind_test e i)) s)
  form_flow t k (while e a) i s = k.again (while_loop t e a i) s
  form_flow t k (do_while a e) i s = then_do (flow t k true a i s) (after_body t k (do_loop t a e i))
  form_flow t k (for e f g a) i s = then_do (discarded t k e i s) (λ v. k.again (for_loop t f g a (behind_maybe e i)))
  form_flow t k (switch e items) i s =
      then_do (needed ((meaning t k e).value (in_expression (at_choice e items i)) s)) (λ v s.
      then_do (items_flow t k (chosen_entry e items v) false items (behind_choice e items i) (noted_outcome i (case_number e items v) s)) out_of_switch)
  form_flow t k break i s = Gives Break s
  form_flow t k continue i s = Gives Continue s
  form_flow t k (return no_node) i s = Gives (Return None) s
  form_flow t k (return (one_node e)) i s = then_do (needed ((meaning t k e).value (in_expression i) s)) (λ v. Gives (Return (Some v)))

  -- in a scope that is open already
  pub compound_flow : TablesShape → Knot → CompoundShape → First → State → Got Flow
  compound_flow t k (braces p ds items) i s = then_do (declared_all t k ds i s) (λ f. items_flow t k here false items (past_decls t ds i))

  -- statements in a list from an entry on, the first one behind a statement that splits it or not; one with a label is a block too
  pub items_flow : TablesShape → Knot → Entry → Bool → ItemShapes → First → State → Got Flow
  items_flow t k entry after no_items i s = Gives Next s
  items_flow t k entry after (more_items labels a rest) i s =
      let b = after || is_labelled labels in
      if is_reached entry labels
      then then_do (flow t k b a i s) (after_one (items_flow t k here (splits a) rest (past_stmt t b a i)))
      else items_flow t k (passed entry labels) (splits a) rest (past_stmt t b a i) s

-- one turn of a loop, and what follows
abbrev pub loop_turn : TablesShape → Knot → Loop → State → Got Flow
loop_turn t k l s =
    then_do (loop_test t k l.test l.at_test s) (λ x s. if x then then_do (flow t k true l.body l.at_body s) (after_body t k l) else Gives Next s)
