-- Statements with their probes do what the statements do, and log what they tell.
use Rattle.std.proofs.Common.{◌≡◌, ℕ, ◌+◌, ◌≤◌, [], ◌∷◌, length, map, Option, Bool, true, false, ◌∙◌, refl, sym, ap, ap₂, subst, arith}
use Rattle.std.specs.Prelude.{◌||◌}
use Rattle.std.specs.Fmt.{decimal}
use Rattle.c_base.specs.declared.place.Pos.{Pos}
use Rattle.c_syntax.specs.Shape.{NodeShape, node, MaybeNode, no_node, one_node, StmtShape, stmt, FormShape, compound, simply, when, either, while, do_while, for, switch, break, continue, return, CompoundShape, braces, ItemShapes, no_items, more_items}
use Rattle.c_store.specs.declared.value.Value.{Value}
use Rattle.c_tables.specs.Tables.{TablesShape}
use Rattle.c_walk.specs.declared.around.Around.{Around}
use Rattle.c_walk.specs.declared.around.Taken.TheVariants.{Read}
use Rattle.c_walk.specs.Items.{cases}
use Rattle.c_walk.specs.Tests.{choosing, case_values}
use Rattle.c_walk.specs.Walked.{Walked, pos_of, inside, with_block, with_block_if, with_decision, next_decision}
use Rattle.c_walk.specs.Walking.{walk_test, walk_maybe, walk_loop_test, walk_maybe_test, walk_step}
use Rattle.c_walk.specs.Stating.{walk_decls, pos_of_stmt, splits, is_labelled, walk_choice, walk_stmt, walk_body, walk_part, walk_compound, walk_items}
use Rattle.c_meaning.specs.declared.end.Flow.{Flow}
use Rattle.c_meaning.specs.declared.end.Flow.TheVariants.{Next, Break, Continue, Return}
use Rattle.c_meaning.specs.State.{State}
use Rattle.c_meaning.specs.Results.{Got, Gives, Stops, then_do, needed}
use Rattle.c_meaning.specs.Firsts.{First, quiet, heard, noted_block, noted_outcome}
use Rattle.c_meaning.specs.Places.{logs}
use Rattle.c_meaning.specs.Constants.{case_constants, select_constants, chosen_among}
use Rattle.c_meaning.specs.Counts.{stmt_variables, past_stmt}
use Rattle.c_meaning.specs.Knot.{Loop, Knot}
use Rattle.c_meaning.specs.Expressions.{meaning, gives, tested, log_block, log_test}
use Rattle.c_meaning.specs.Statements.{Entry, here, entry_at, is_reached, passed, out_of_switch, after_one, discarded, step_flow, after_body, loop_test, while_loop, do_loop, for_loop, case_number, chosen_entry, scope_opened, flow, form_flow, compound_flow, items_flow, loop_turn}
use Rattle.c_meaning.proofs.Declared.{test_node_count, maybe_count, maybe_test_count, step_count, choice_count, block_count, stmt_count}
use Rattle.c_meaning.proofs.Walks.{node_on, test_node_on, loop_test_on, maybe_test_on, step_on, stmt_on, part_on, items_on}
use Rattle.probe_rules.specs.Marks.{block_marks, constants_at, in_select}
use Rattle.c_walk.specs.Counted.{next_block}
use Rattle.probe_rules.specs.ProbedExpressions.{probed_node, probed_test, probed_maybe, probed_loop_test, probed_maybe_test, probed_step, probed_choice}
use Rattle.probe_rules.specs.ProbedStatements.{probed_stmt, probed_body, probed_compound, probed_items}
use Rattle.probe_rules.specs.Fitting.{HasFewItems}
use Rattle.probe_rules.proofs.Ready.{IsReadyMaybe, IsReadyStmt, IsReadyBody, IsReadyCompound, AreReadyItems}
use Rattle.probe_rules.proofs.Few.{few_before, few_blocks, few_decisions}
use Rattle.probe_rules.proofs.Told.{as_log, with_log, sim_then, sim_turn, sim_if, sim_needed, logs_is, logs_sim, block_told, outcome_told}
use Rattle.probe_rules.proofs.Loops.{HeardLoop, told_loop, probed_loop, IsReadyLoop, Follows}
use Rattle.probe_rules.proofs.SimNodes.{round_right, value_sim, test_sim, arm_sim}
use Rattle.probe_rules.proofs.SelectConstants.{select_read}
use Rattle.probe_rules.proofs.SameCounts.{same_choosing, select_choosing, stmt_same, same_splits, same_cases, part_is}
use Rattle.probe_rules.proofs.SimDecls.{decls_after, decls_sim}

-- ---- what stands before

stmt_after : (t : TablesShape) (b : Bool) (a : StmtShape) (c : Around) (w : Walked) → past_stmt t b (probed_stmt t c b a w) (quiet w.variables) ≡ quiet (walk_stmt t c a (with_block_if b (pos_of_stmt a) w)).variables
stmt_after t b a c w =
    ap quiet (ap (λ m. w.variables + m) (stmt_same t c b a w) ∙ sym (stmt_count t c a (with_block_if b (pos_of_stmt a) w) ∙ ap (λ m. m + stmt_variables a) (block_count b (pos_of_stmt a) w)))

few_part : (t : TablesShape) (c : Around) (a : StmtShape) (w : Walked) → HasFewItems (walk_part t c a w) → HasFewItems (walk_stmt t c a (with_block (pos_of_stmt a) w))
few_part t c a w few = subst HasFewItems (part_is t c a w) few

-- ---- ways on

out_sim : (f : Flow) (s : State) → out_of_switch f (as_log s) ≡ with_log (out_of_switch f s)
out_sim Break s = refl
out_sim Next s = refl
out_sim Continue s = refl
out_sim (Return v) s = refl

after_one_sim : (g h : State → Got Flow) (f : Flow) (s : State) → ((s : State) → g (as_log s) ≡ with_log (h s)) → after_one g f (as_log s) ≡ with_log (after_one h f s)
after_one_sim g h Next s go = go s
after_one_sim g h Break s go = refl
after_one_sim g h Continue s go = refl
after_one_sim g h (Return v) s go = refl

-- the probe of a block in front of a statement
pub mark_sim : (b : Bool) (p : Pos) (c : Around) (w : Walked) (s : State) (h g : State → Got Flow) → HasFewItems (with_block_if b p w) → ((s : State) → h (as_log s) ≡ with_log (g s)) → logs log_block (map (λ m. m.number) (block_marks b p w)) (as_log s) h ≡ with_log (g (noted_block b (heard c w) s))
mark_sim true p c w s h g few go = let below = few_blocks p w few in logs_sim log_block (next_block w) s (noted_block true (heard c w) s) h g (omega arith) (omega arith) (block_told c w s) go
mark_sim false p c w s h g few go = go s

-- ---- a switch

-- which case that is, and its probe
abbrev choice_logged : (Value → ℕ) → ℕ → Value → State → Got (Option Value)
choice_logged number k v s = logs (log_test (number v)) (decimal k ∷ []) s (gives v)

choice_then : (number : Value → ℕ) (c : Around) (w : Walked) (q r : Got Value) (h g : Value → State → Got Flow) → next_decision w ≤ 16383 → q ≡ with_log r → ((v : Value) (s : State) → h v (as_log s) ≡ with_log (g v s)) → then_do (needed (then_do q (choice_logged number (next_decision w)))) h ≡ with_log (then_do r (λ v s. g v (noted_outcome (heard c w) (number v) s)))
choice_then number c w q (Gives v s) h g few e go =
    let k = next_decision w in
    ap (λ z. then_do (needed (then_do z (choice_logged number k))) h) e
    ∙ (ap (λ z. then_do (needed z) h) (logs_is (log_test (number v)) k (as_log s) (gives v) (omega arith) few) ∙ (ap (h v) (outcome_told c w (number v) s) ∙ go v (noted_outcome (heard c w) (number v) s)))
choice_then number c w q (Stops why s) h g few e go = ap (λ z. then_do (needed (then_do z (choice_logged number (next_decision w)))) h) e

select_is : (t : TablesShape) (k : Knot) (a e : NodeShape) (items : ItemShapes) (w : Walked) (i : First) (s : State) → choosing a ≡ choosing e → AreReadyItems items → (meaning t k (in_select (case_values (choosing e) items) w a)).value i s ≡ then_do (needed ((meaning t k a).value i s)) (choice_logged (case_number e items) (next_decision w))
select_is t k (node p o n f) e items w i s same clean =
    ap₂ (λ j cs. then_do (needed ((meaning t k (node p o n f)).value i s)) (λ v s. logs (log_test (chosen_among j v cs)) (decimal (next_decision w) ∷ []) s (gives v))) same
    (ap (λ j. select_constants j (constants_at p o (case_values (choosing e) items))) same ∙ select_read p o (choosing e) items clean)

same_entry : (t : TablesShape) (c : Around) (e : NodeShape) (items : ItemShapes) (w v : Walked) (x : Value) → chosen_entry (probed_choice c e items w) (probed_items t c false items v) x ≡ chosen_entry e items x
same_entry t c e items w v x =
    let vs = case_values (choosing e) items in
    let a = probed_node (inside c w) Read e (with_decision (pos_of e) (cases vs) w) in
    let same : choosing (probed_choice c e items w) ≡ choosing e = select_choosing vs w a ∙ same_choosing (inside c w) Read e (with_decision (pos_of e) (cases vs) w) in
    ap₂ (λ j cs. entry_at (chosen_among j x cs) (length cs)) same (ap (λ j. case_constants j (probed_items t c false items v)) same ∙ same_cases (choosing e) t c false items v)

-- ---- loops

abbrev while_of : Around → NodeShape → StmtShape → Walked → HeardLoop
while_of c e a w = record { around = c; test = one_node e; at_test = w; body = a; at_body = walk_loop_test c e w; step = no_node; at_step = w }

abbrev do_of : TablesShape → Around → StmtShape → NodeShape → Walked → HeardLoop
do_of t c a e w = record { around = c; test = one_node e; at_test = walk_stmt t c a (with_block (pos_of_stmt a) w); body = a; at_body = w; step = no_node; at_step = w }

abbrev for_of : Around → MaybeNode → MaybeNode → StmtShape → Walked → HeardLoop
for_of c f g a w = record { around = c; test = f; at_test = w; body = a; at_body = walk_step c g (walk_maybe_test c f w); step = g; at_step = walk_maybe_test c f w }

while_probed : (t : TablesShape) (c : Around) (e : NodeShape) (a : StmtShape) (w : Walked) → while_loop t (probed_loop_test c e w) (probed_stmt t c true a (walk_loop_test c e w)) (quiet w.variables) ≡ probed_loop t (while_of c e a w)
while_probed t c e a w =
    let f : ℕ → Loop = λ z. record { test = one_node (probed_loop_test c e w); at_test = quiet w.variables; body = probed_stmt t c true a (walk_loop_test c e w); at_body = quiet z; step = no_node; at_step = quiet w.variables } in
    ap f (sym (maybe_test_count c (one_node e) w))

do_probed : (t : TablesShape) (c : Around) (a : StmtShape) (e : NodeShape) (w : Walked) → do_loop t (probed_stmt t c true a w) (probed_loop_test c e (walk_part t c a w)) (quiet w.variables) ≡ probed_loop t (do_of t c a e w)
do_probed t c a e w =
    let f : First → Walked → Loop = λ i v. record { test = one_node (probed_loop_test c e v); at_test = i; body = probed_stmt t c true a w; at_body = quiet w.variables; step = no_node; at_step = quiet w.variables } in
    ap₂ f (stmt_after t true a c w) (part_is t c a w)

for_probed : (t : TablesShape) (c : Around) (f g : MaybeNode) (a : StmtShape) (w : Walked) → (let v = walk_maybe_test c f w in for_loop t (probed_maybe_test c f w) (probed_step c g v) (probed_stmt t c true a (walk_step c g v)) (quiet w.variables) ≡ probed_loop t (for_of c f g a w))
for_probed t c f g a w =
    let v = walk_maybe_test c f w in
    let h : ℕ → ℕ → Loop = λ y z. record { test = probed_maybe_test c f w; at_test = quiet w.variables; body = probed_stmt t c true a (walk_step c g v); at_body = quiet y; step = probed_step c g v; at_step = quiet z } in
    ap₂ h (sym (step_count c g v ∙ maybe_test_count c f w)) (sym (maybe_test_count c f w))

module _ (t : TablesShape) (k l : Knot) (follows : Follows t k l) where
  discarded_sim : (e : MaybeNode) (c : Around) (w : Walked) (n : ℕ) (s : State) → IsReadyMaybe e → HasFewItems (walk_maybe c e w) → discarded t k (probed_maybe c e w) (quiet n) (as_log s) ≡ with_log (discarded t l e (heard c w) s)
  discarded_sim no_node c w n s clean few = refl
  discarded_sim (one_node e) c w n s clean few = sim_then _ _ _ _ (value_sim t k l follows c e w clean few 0 s) (λ v s. refl)

  step_sim : (e : MaybeNode) (c : Around) (w : Walked) (n : ℕ) (s : State) → IsReadyMaybe e → HasFewItems (walk_step c e w) → step_flow t k (probed_step c e w) (quiet n) (as_log s) ≡ with_log (step_flow t l e (heard c w) s)
  step_sim no_node c w n s clean few = refl
  step_sim (one_node e) c w n s clean few = sim_then _ _ _ _ (arm_sim t k l follows c e w clean few 0 s) (λ v s. refl)

  loop_test_sim : (e : MaybeNode) (c : Around) (w : Walked) (n : ℕ) (s : State) → IsReadyMaybe e → HasFewItems (walk_maybe_test c e w) → loop_test t k (probed_maybe_test c e w) (quiet n) (as_log s) ≡ with_log (loop_test t l e (heard c w) s)
  loop_test_sim no_node c w n s clean few = refl
  loop_test_sim (one_node e) c w n s clean few =
      let v = with_block (pos_of e) w in
      round_right t k 0 c w (probed_test c e v) s (tested e (meaning t l e) (heard c v)) (few_blocks (pos_of e) w (few_before (test_node_on c e v) few)) (λ s. test_sim t k l follows c e v clean few 0 s)

  after_sim : (h : HeardLoop) → IsReadyLoop t h → (f : Flow) (s : State) → after_body t k (probed_loop t h) f (as_log s) ≡ with_log (after_body t l (told_loop h) f s)
  after_sim h is Next s = sim_then _ _ _ _ (step_sim h.step h.around h.at_step h.at_step.variables s is.step is.few_steps) (λ f s. follows.again_follows h is s)
  after_sim h is Continue s = sim_then _ _ _ _ (step_sim h.step h.around h.at_step h.at_step.variables s is.step is.few_steps) (λ f s. follows.again_follows h is s)
  after_sim h is Break s = refl
  after_sim h is (Return v) s = refl

  -- ---- statements

  mutual
    pub flow_sim : (b : Bool) (a : StmtShape) (c : Around) (w : Walked) (s : State) → IsReadyStmt a → HasFewItems (walk_stmt t c a (with_block_if b (pos_of_stmt a) w)) → flow t k b (probed_stmt t c b a w) (quiet w.variables) (as_log s) ≡ with_log (flow t l b a (heard c w) s)
    flow_sim b (stmt p (m ∷ ms) q f) c w s clean few = absurd clean.0
    flow_sim b (stmt p [] q f) c w s clean few =
        let v = with_block_if b p w in
        mark_sim b p c w s _ _ (few_before (stmt_on t c (stmt p [] q f) v) few) (λ s. sim_turn s _ _ (λ s.
        ap (λ z. form_flow t k (probed_body t c f v) (quiet z) (as_log s)) (sym (block_count b p w)) ∙ form_sim f c v s clean.1 few))

    form_sim : (f : FormShape) (c : Around) (w : Walked) (s : State) → IsReadyBody f → HasFewItems (walk_body t c f w) → form_flow t k (probed_body t c f w) (quiet w.variables) (as_log s) ≡ with_log (form_flow t l f (heard c w) s)
    form_sim (compound d) c w s clean few = sim_then _ _ _ _ (compound_sim d c w (scope_opened s) clean few) (λ f s. refl)
    form_sim (simply e) c w s clean few = discarded_sim e c w w.variables s clean few
    form_sim (when e a) c w s clean few =
        let v = walk_test c e w in
        sim_then _ _ _ _ (test_sim t k l follows c e w clean.0 (few_before (part_on t c a v) few) 0 s) (λ x s.
        sim_if x _ _ (Gives Next (as_log s)) (Gives Next s) (ap (λ z. flow t k true (probed_stmt t c true a v) (quiet z) (as_log s)) (sym (test_node_count c e w)) ∙ flow_sim true a c v s clean.1 (few_part t c a v few)) refl)
    form_sim (either e a d) c w s clean few =
        let v = walk_test c e w in
        let u = walk_stmt t c a (with_block (pos_of_stmt a) v) in
        let few_u : HasFewItems (walk_part t c a v) = few_before (part_on t c d (walk_part t c a v)) few in
        let few_d : HasFewItems (walk_part t c d u) = subst (λ z. HasFewItems (walk_part t c d z)) (part_is t c a v) few in
        sim_then _ _ _ _ (test_sim t k l follows c e w clean.0 (few_before (part_on t c a v) few_u) 0 s) (λ x s.
        sim_if x _ _ _ _
        (ap (λ z. flow t k true (probed_stmt t c true a v) (quiet z) (as_log s)) (sym (test_node_count c e w)) ∙ flow_sim true a c v s clean.1 (few_part t c a v few_u))
        (ap₂ (λ y z. flow t k true (probed_stmt t c true d y) z (as_log s)) (part_is t c a v) (ap (λ z. past_stmt t true (probed_stmt t c true a v) (quiet z)) (sym (test_node_count c e w)) ∙ stmt_after t true a c v)
        ∙ flow_sim true d c u s clean.2 (few_part t c d u few_d)))
    form_sim (while e a) c w s clean few =
        let v = walk_loop_test c e w in
        ap (λ z. k.again z (as_log s)) (while_probed t c e a w)
        ∙ follows.again_follows (while_of c e a w) (record { test = clean.0; body = clean.1; step = tt; few_tests = few_before (part_on t c a v) few; few_bodies = few_part t c a v few; few_steps = few_before (loop_test_on c e w) (few_before (part_on t c a v) few) }) s
    form_sim (do_while a e) c w s clean few =
        let u = walk_stmt t c a (with_block (pos_of_stmt a) w) in
        let few_e : HasFewItems (walk_loop_test c e u) = subst (λ z. HasFewItems (walk_loop_test c e z)) (part_is t c a w) few in
        let few_a : HasFewItems u = few_before (loop_test_on c e u) few_e in
        let is : IsReadyLoop t (do_of t c a e w) = record { test = clean.1; body = clean.0; step = tt; few_tests = few_e; few_bodies = few_a; few_steps = few_before (part_on t c a w) (few_before (loop_test_on c e (walk_part t c a w)) few) } in
        sim_then _ _ _ _ (flow_sim true a c w s clean.0 few_a) (λ f s. ap (λ z. after_body t k z f (as_log s)) (do_probed t c a e w) ∙ after_sim (do_of t c a e w) is f s)
    form_sim (for e f g a) c w s clean few =
        let u = walk_maybe c e w in
        let v = walk_maybe_test c f u in
        let x = walk_step c g v in
        let few_x = few_before (part_on t c a x) few in
        let few_v = few_before (step_on c g v) few_x in
        let is : IsReadyLoop t (for_of c f g a u) = record { test = clean.1; body = clean.3; step = clean.2; few_tests = few_v; few_bodies = few_part t c a x few; few_steps = few_x } in
        sim_then _ _ _ _ (discarded_sim e c w w.variables s clean.0 (few_before (maybe_test_on c f u) few_v)) (λ y s.
        ap (λ z. k.again z (as_log s)) (ap (λ z. for_loop t (probed_maybe_test c f u) (probed_step c g v) (probed_stmt t c true a x) (quiet z)) (sym (maybe_count c e w)) ∙ for_probed t c f g a u) ∙ follows.again_follows (for_of c f g a u) is s)
    form_sim (switch e items) c w s clean few =
        let vs = case_values (choosing e) items in
        let d = with_decision (pos_of e) (cases vs) w in
        let v = walk_choice c e items w in
        let e' = probed_choice c e items w in
        let a = probed_node (inside c w) Read e d in
        let items' = probed_items t c false items v in
        let few_v : HasFewItems v = few_before (items_on t c false items v) few in
        ap (λ z. then_do (needed z) (λ x s. then_do (items_flow t k (chosen_entry e' items' x) false items' (quiet w.variables) s) out_of_switch)) (select_is t k a e items w (quiet 0) (as_log s) (same_choosing (inside c w) Read e d) clean.1)
        ∙ choice_then (case_number e items) c w (needed ((meaning t k a).value (quiet 0) (as_log s))) (needed ((meaning t l e).value (heard (inside c w) d) s)) _ (λ x s. then_do (items_flow t l (chosen_entry e items x) false items (heard c v) s) out_of_switch)
        (few_decisions (pos_of e) (cases vs) w (few_before (node_on (inside c w) Read e d) few_v)) (sim_needed _ _ (value_sim t k l follows (inside c w) e d clean.0 few_v 0 s)) (λ x s.
        sim_then _ _ _ _ (ap₂ (λ y z. items_flow t k y false items' (quiet z) (as_log s)) (same_entry t c e items w v x) (sym (choice_count c e items w)) ∙ items_sim (chosen_entry e items x) false items c v s clean.1 few) (λ f s. out_sim f s))
    form_sim break c w s clean few = refl
    form_sim continue c w s clean few = refl
    form_sim (return no_node) c w s clean few = refl
    form_sim (return (one_node e)) c w s clean few = sim_then _ _ _ _ (sim_needed _ _ (value_sim t k l follows c e w clean few 0 s)) (λ v s. refl)

    pub compound_sim : (d : CompoundShape) (c : Around) (w : Walked) (s : State) → IsReadyCompound d → HasFewItems (walk_compound t c d w) → compound_flow t k (probed_compound t c d w) (quiet w.variables) (as_log s) ≡ with_log (compound_flow t l d (heard c w) s)
    compound_sim (braces p ds items) c w s clean few =
        let v = walk_decls t c ds w in
        sim_then _ _ _ _ (decls_sim t k l follows ds c w s clean.0 (few_before (items_on t c false items v) few)) (λ f s.
        ap (λ z. items_flow t k here false (probed_items t c false items v) z (as_log s)) (decls_after t c ds w) ∙ items_sim here false items c v s clean.1 few)

    items_sim : (entry : Entry) (after : Bool) (items : ItemShapes) (c : Around) (w : Walked) (s : State) → AreReadyItems items → HasFewItems (walk_items t c after items w) → items_flow t k entry after (probed_items t c after items w) (quiet w.variables) (as_log s) ≡ with_log (items_flow t l entry after items (heard c w) s)
    items_sim entry after no_items c w s clean few = refl
    items_sim entry after (more_items labels a rest) c w s clean few =
        let b = after || is_labelled labels in
        let u = walk_stmt t c a (with_block_if b (pos_of_stmt a) w) in
        let rest' = probed_items t c (splits a) rest u in
        sim_if (is_reached entry labels) _ _ _ _
        (sim_then _ _ _ _ (flow_sim b a c w s clean.1 (few_before (items_on t c (splits a) rest u) few)) (λ f s. after_one_sim _ _ f s (λ s.
        ap₂ (λ y z. items_flow t k here y rest' z (as_log s)) (same_splits t c b a w) (stmt_after t b a c w) ∙ items_sim here (splits a) rest c u s clean.2 few)))
        (ap₂ (λ y z. items_flow t k (passed entry labels) y rest' z (as_log s)) (same_splits t c b a w) (stmt_after t b a c w) ∙ items_sim (passed entry labels) (splits a) rest c u s clean.2 few)

  -- ---- loops

  pub loop_sim : (h : HeardLoop) → IsReadyLoop t h → (s : State) → loop_turn t k (probed_loop t h) (as_log s) ≡ with_log (loop_turn t l (told_loop h) s)
  loop_sim h is s = sim_then _ _ _ _ (loop_test_sim h.test h.around h.at_test h.at_test.variables s is.test is.few_tests) (λ x s.
      sim_if x _ _ (Gives Next (as_log s)) (Gives Next s) (sim_then _ _ _ _ (flow_sim true h.body h.around h.at_body s is.body is.few_bodies) (λ f s. after_sim h is f s)) refl)
