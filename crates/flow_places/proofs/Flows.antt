-- What statements keep: the states are good, and behind each the calls are as they were before it, scopes and all.
use Rattle.std.proofs.Common.{ℕ, ◌≤◌, List, [], ◌∷◌, ◌≡◌, refl, ◌∙◌, map, arith, Bool, true, false}
use Rattle.std.specs.Prelude.{◌||◌}
use Rattle.c_syntax.specs.Shape.{NodeShape, MaybeNode, no_node, one_node, StmtShape, stmt, FormShape, compound, simply, when, either, while, do_while, for, switch, break, continue, return, CompoundShape, braces, ItemShapes, no_items, more_items}
use Rattle.c_store.specs.Cells.{Cells, ended}
use Rattle.c_tables.specs.Tables.{TablesShape}
use Rattle.c_walk.specs.declared.around.Around.{Around}
use Rattle.c_walk.specs.declared.around.Taken.TheVariants.{Read}
use Rattle.c_walk.specs.Walked.{Walked, with_block, with_block_if, pos_of}
use Rattle.c_walk.specs.Walking.{walk_test, walk_maybe, walk_loop_test, walk_maybe_test, walk_step}
use Rattle.c_walk.specs.Stating.{walk_decls, splits, is_labelled, pos_of_stmt, walk_choice, walk_stmt, walk_part}
use Rattle.c_meaning.specs.declared.end.Flow.{Flow}
use Rattle.c_meaning.specs.declared.end.Flow.TheVariants.{Next, Break, Continue, Return}
use Rattle.c_meaning.specs.State.{Bound, State, top_within}
use Rattle.c_meaning.specs.Results.{Got, Gives, Stops, then_do}
use Rattle.c_meaning.specs.Firsts.{heard, noted_block, noted_outcome}
use Rattle.c_meaning.specs.Counts.{past_stmt}
use Rattle.c_meaning.specs.Knot.{Loop, Knot}
use Rattle.c_meaning.specs.Expressions.{meaning, tested, log_block}
use Rattle.c_meaning.specs.Statements.{ended_all, scope_opened, scope_closed, Entry, here, is_reached, passed, out_of_switch, after_one, discarded, step_flow, after_body, loop_test, case_number, chosen_entry, flow, form_flow, compound_flow, items_flow, loop_turn}
use Rattle.c_meaning.specs.Calls.{Source}
use Rattle.c_meaning.proofs.Declared.{block_count, test_node_count, maybe_count, maybe_test_count, step_count, choice_count, stmt_count}
use Rattle.flow_calls.specs.Placing.{Sites}
use Rattle.flow_places.specs.Sited.{IsSited, IsTestSited, IsMaybeSited, IsLoopTestSited, IsStepSited}
use Rattle.flow_places.specs.Declared.{IsSitedStmt, IsSitedBody, IsSitedPart, IsSitedCompound, AreSitedItems}
use Rattle.flow_places.proofs.Bound.{opened_below, opened_tail}
use Rattle.flow_places.proofs.Good.{good_opened, good_closed}
use Rattle.flow_places.proofs.Safe.{Any, GoodAt, Safe, safe_gives, safe_then, safe_turn, safe_if, safe_needed, safe_logs}
use Rattle.flow_places.proofs.Parts.{block_safe, outcome_safe}
use Rattle.flow_names.specs.Keeping.{KeepsNames}
use Rattle.flow_places.proofs.Nodes.{Calling, value_safe, test_safe, block_arm_safe, tested_safe, arm_safe}
use Rattle.flow_places.proofs.Declarations.{TopAt, Opens, opens_then, opens_safe, decls_open}

pub ended_count : (bs : List Bound) (c : Cells) → (ended_all bs c).count ≡ c.count
ended_count [] c = refl
ended_count (b ∷ bs) c = ended_count bs (ended c b.instance)

-- how many variables are declared behind a block's declarations
abbrev pub opened_to : TablesShape → Around → CompoundShape → Walked → ℕ
opened_to t c (braces p ds items) w = (walk_decls t c ds w).variables

module _ (S : Sites) (F : List Bound) (P : Source) (kn : Knot) (keeps : KeepsNames kn) where
  -- ---- scopes

  closed_at : (n m : ℕ) (s : State) (r : Got Flow) → TopAt S F m (scope_opened s) r → GoodAt S F s (then_do r (λ f s. Gives f (scope_closed s))) Any
  closed_at n m s (Gives f t) h = (good_closed S F t (ended_all (top_within t.calls) t.store) (ended_count (top_within t.calls) t.store) h.0, h.1 ∙ opened_tail s.calls, tt)
  closed_at n m s (Stops why t) h = h

  scoped_safe : (n m : ℕ) (s : State) (r : Got Flow) → Opens S F n m (scope_opened s) r → Safe S F n s (then_do r (λ f s. Gives f (scope_closed s))) Any
  scoped_safe n m s r h = record { by = λ g w. closed_at n m s r (h.by (good_opened S F s g) (opened_below n s.calls w)) }

  -- ---- loops

  abbrev pub looping : Around → MaybeNode → Walked → StmtShape → Walked → MaybeNode → Walked → Loop
  looping c f v a w g u = record { test = f; at_test = heard c v; body = a; at_body = heard c w; step = g; at_step = heard c u }

  -- a loop's further turns
  abbrev pub Turning : Type 0
  Turning = (n : ℕ) (c : Around) (f : MaybeNode) (v : Walked) (a : StmtShape) (w : Walked) (g : MaybeNode) (u : Walked) → IsLoopTestSited S F P.tables c f v → IsSitedPart S F P.tables c a w → IsStepSited S F P.tables c g u → n ≤ w.variables → (s : State)
      → Safe S F n s (kn.again (looping c f v a w g u) s) Any

  one_safe : (n : ℕ) (go : State → Got Flow) → ((s : State) → Safe S F n s (go s) Any) → (f : Flow) (s : State) → Safe S F n s (after_one go f s) Any
  one_safe n go h Next s = h s
  one_safe n go h Break s = safe_gives S F n s _ Any tt
  one_safe n go h Continue s = safe_gives S F n s _ Any tt
  one_safe n go h (Return v) s = safe_gives S F n s _ Any tt

  out_safe : (n : ℕ) (f : Flow) (s : State) → Safe S F n s (out_of_switch f s) Any
  out_safe n Next s = safe_gives S F n s _ Any tt
  out_safe n Break s = safe_gives S F n s _ Any tt
  out_safe n Continue s = safe_gives S F n s _ Any tt
  out_safe n (Return v) s = safe_gives S F n s _ Any tt

  part_stmt : (c : Around) (a : StmtShape) (w : Walked) → IsSitedPart S F P.tables c a w → IsSitedStmt S F P.tables c a (with_block_if true (pos_of_stmt a) w)
  part_stmt c (stmt p ms q f) w h = h

  module _ (calling : Calling S F P kn keeps) (turning : Turning) where
    value_of : (n : ℕ) (e : NodeShape) (c : Around) (w : Walked) → IsSited S F P.tables c Read e w → (s : State) → Safe S F n s ((meaning P.tables kn e).value (heard c w) s) Any
    value_of n e c w h s = value_safe S F P kn keeps calling c e w h n s

    discarded_safe : (n : ℕ) (e : MaybeNode) (c : Around) (w : Walked) → IsMaybeSited S F P.tables c e w → (s : State) → Safe S F n s (discarded P.tables kn e (heard c w) s) Any
    discarded_safe n no_node c w h s = safe_gives S F n s _ Any tt
    discarded_safe n (one_node e) c w h s = safe_then S F n s _ _ Any Any (value_of n e c w h s) (λ v s e k. safe_gives S F n s _ Any tt)

    step_flow_safe : (n : ℕ) (e : MaybeNode) (c : Around) (w : Walked) → IsStepSited S F P.tables c e w → (s : State) → Safe S F n s (step_flow P.tables kn e (heard c w) s) Any
    step_flow_safe n no_node c w h s = safe_gives S F n s _ Any tt
    step_flow_safe n (one_node e) c w h s = safe_then S F n s _ _ Any Any (arm_safe S F P kn keeps c e w (block_arm_safe S F P kn keeps calling c e w h) n s) (λ v s e k. safe_gives S F n s _ Any tt)

    test_of : (n : ℕ) (e : NodeShape) (c : Around) (w : Walked) → IsTestSited S F P.tables c e w → (s : State) → Safe S F n s (tested e (meaning P.tables kn e) (heard c w) s) Any
    test_of n e c w h s = tested_safe S F P kn keeps c e w (test_safe S F P kn keeps calling c e w h) n s

    loop_test_safe : (n : ℕ) (e : MaybeNode) (c : Around) (w : Walked) → IsLoopTestSited S F P.tables c e w → (s : State) → Safe S F n s (loop_test P.tables kn e (heard c w) s) Any
    loop_test_safe n no_node c w h s = safe_gives S F n s _ Any tt
    loop_test_safe n (one_node e) c w h s = block_safe S F n true c w s _ Any (test_of n e c (with_block (pos_of e) w) h (noted_block true (heard c w) s))

    after_safe : (n : ℕ) (c : Around) (f : MaybeNode) (v : Walked) (a : StmtShape) (w : Walked) (g : MaybeNode) (u : Walked) → IsLoopTestSited S F P.tables c f v → IsSitedPart S F P.tables c a w → IsStepSited S F P.tables c g u → n ≤ w.variables → (fl : Flow) (s : State)
        → Safe S F n s (after_body P.tables kn (looping c f v a w g u) fl s) Any
    after_safe n c f v a w g u hf ha hg le Next s = safe_then S F n s _ _ Any Any (step_flow_safe n g c u hg s) (λ x s e k. turning n c f v a w g u hf ha hg le s)
    after_safe n c f v a w g u hf ha hg le Continue s = safe_then S F n s _ _ Any Any (step_flow_safe n g c u hg s) (λ x s e k. turning n c f v a w g u hf ha hg le s)
    after_safe n c f v a w g u hf ha hg le Break s = safe_gives S F n s _ Any tt
    after_safe n c f v a w g u hf ha hg le (Return r) s = safe_gives S F n s _ Any tt

    -- ---- statements

    -- a statement that is a block or not
    abbrev Flows : ℕ → Around → Bool → StmtShape → Walked → Type 0
    Flows n c b a w = (s : State) → Safe S F n s (flow P.tables kn b a (heard c w) s) Any

    do_safe : (n : ℕ) (a : StmtShape) (e : NodeShape) (c : Around) (w : Walked) → IsSitedPart S F P.tables c a w → IsLoopTestSited S F P.tables c (one_node e) (walk_part P.tables c a w) → n ≤ w.variables → Flows n c true a w → (s : State)
        → Safe S F n s (form_flow P.tables kn (do_while a e) (heard c w) s) Any
    do_safe n (stmt p ms q f) e c w ha he le fl s =
        let a = stmt p ms q f in
        safe_then S F n s _ _ Any Any (fl s) (λ x s k z. after_safe n c (one_node e) (walk_part P.tables c a w) a w no_node w he ha tt le x s)

    else_safe : (n : ℕ) (a b : StmtShape) (c : Around) (w : Walked) → Flows n c true b (walk_part P.tables c a w) → (s : State) → Safe S F n s (flow P.tables kn true b (past_stmt P.tables true a (heard c w)) s) Any
    else_safe n (stmt p ms q f) b c w fl s = fl s

    part_variables : (c : Around) (a : StmtShape) (w : Walked) (n : ℕ) → n ≤ w.variables → n ≤ (walk_part P.tables c a w).variables
    part_variables c (stmt p ms q f) w n le = let e = stmt_count P.tables c (stmt p ms q f) (with_block p w) in omega (arith, e, le)

    mutual
      pub flow_safe : (n : ℕ) (b : Bool) (a : StmtShape) (c : Around) (w : Walked) → n ≤ w.variables → IsSitedStmt S F P.tables c a (with_block_if b (pos_of_stmt a) w) → Flows n c b a w
      flow_safe n b (stmt p ms q f) c w le h s =
          let u = with_block_if b p w in
          block_safe S F n b c w s _ Any
          (safe_logs S F n log_block (map (λ m. m.number) ms) (noted_block b (heard c w) s) _ Any (λ m s. record { deeds = refl; calls = refl; count = omega arith; last = refl; file = refl }) (λ t e.
          safe_turn S F n t _ Any (λ v e. form_safe n f c u (let k = block_count b p w in omega (arith, k, le)) h v)))

      form_safe : (n : ℕ) (f : FormShape) (c : Around) (w : Walked) → n ≤ w.variables → IsSitedBody S F P.tables c f w → (s : State) → Safe S F n s (form_flow P.tables kn f (heard c w) s) Any
      form_safe n (compound a) c w le h s = scoped_safe n (opened_to P.tables c a w) s _ (compound_opens n a c w le h (scope_opened s))
      form_safe n (simply e) c w le h s = discarded_safe n e c w h s
      form_safe n (when e a) c w le h s =
          let j = walk_test c e w in
          safe_then S F n s _ _ Any Any (test_of n e c w h.0 s) (λ x s k z.
          safe_if S F n x s _ _ Any (flow_safe n true a c j (let k = test_node_count c e w in omega (arith, k, le)) (part_stmt c a j h.1) s) (safe_gives S F n s _ Any tt))
      form_safe n (either e a d) c w le h s =
          let j = walk_test c e w in
          let lj : n ≤ j.variables = let k = test_node_count c e w in omega (arith, k, le) in
          safe_then S F n s _ _ Any Any (test_of n e c w h.0 s) (λ x s k z.
          safe_if S F n x s _ _ Any (flow_safe n true a c j lj (part_stmt c a j h.1) s)
          (else_safe n a d c j (λ s. flow_safe n true d c (walk_part P.tables c a j) (part_variables c a j n lj) (part_stmt c d (walk_part P.tables c a j) h.2) s) s))
      form_safe n (while e a) c w le h s =
          turning n c (one_node e) w a (walk_loop_test c e w) no_node w h.0 h.1 tt (let k = maybe_test_count c (one_node e) w in omega (arith, k, le)) s
      form_safe n (do_while a e) c w le h s = do_safe n a e c w h.0 h.1 le (λ s. flow_safe n true a c w le (part_stmt c a w h.0) s) s
      form_safe n (for e f g a) c w le h s =
          let j = walk_maybe c e w in
          let k = walk_maybe_test c f j in
          let u = walk_step c g k in
          safe_then S F n s _ _ Any Any (discarded_safe n e c w h.0 s) (λ x s l z.
          turning n c f j a u g k h.1 h.3 h.2 (let x = maybe_count c e w in let y = maybe_test_count c f j in let z = step_count c g k in omega (arith, x, y, z, le)) s)
      form_safe n (switch e items) c w le h s =
          safe_then S F n s _ _ Any Any (safe_needed S F n s _ (value_of n e _ _ h.0 s)) (λ v s k z.
          outcome_safe S F n c w (case_number e items v) s _ Any
          (safe_then S F n (noted_outcome (heard c w) (case_number e items v) s) _ _ Any Any
          (items_safe n (chosen_entry e items v) false items c (walk_choice c e items w) (let k = choice_count c e items w in omega (arith, k, le)) h.1 (noted_outcome (heard c w) (case_number e items v) s))
          (λ f s k z. out_safe n f s)))
      form_safe n break c w le h s = safe_gives S F n s _ Any tt
      form_safe n continue c w le h s = safe_gives S F n s _ Any tt
      form_safe n (return no_node) c w le h s = safe_gives S F n s _ Any tt
      form_safe n (return (one_node e)) c w le h s = safe_then S F n s _ _ Any Any (safe_needed S F n s _ (value_of n e c w h s)) (λ v s k z. safe_gives S F n s _ Any tt)

      pub compound_opens : (n : ℕ) (a : CompoundShape) (c : Around) (w : Walked) → n ≤ w.variables → IsSitedCompound S F P.tables c a w → (s : State) → Opens S F n (opened_to P.tables c a w) s (compound_flow P.tables kn a (heard c w) s)
      compound_opens n (braces p ds items) c w le h s =
          let u = walk_decls P.tables c ds w in
          opens_then S F n u.variables u.variables s _ _ (decls_open S F P kn keeps calling n ds c w s le h.0) (λ f s. opens_safe S F u.variables u.variables s _ (omega arith) (items_safe u.variables here false items c u (omega arith) h.1 s))

      items_safe : (n : ℕ) (entry : Entry) (after : Bool) (items : ItemShapes) (c : Around) (w : Walked) → n ≤ w.variables → AreSitedItems S F P.tables c after items w → (s : State) → Safe S F n s (items_flow P.tables kn entry after items (heard c w) s) Any
      items_safe n entry after no_items c w le h s = safe_gives S F n s _ Any tt
      items_safe n entry after (more_items labels a rest) c w le h s =
          let b = after || is_labelled labels in
          let j = with_block_if b (pos_of_stmt a) w in
          let u = walk_stmt P.tables c a j in
          let lu : n ≤ u.variables = let x = block_count b (pos_of_stmt a) w in let y = stmt_count P.tables c a j in omega (arith, x, y, le) in
          safe_if S F n (is_reached entry labels) s _ _ Any
          (safe_then S F n s _ _ Any Any (flow_safe n b a c w le h.0 s) (λ f s k z. one_safe n _ (λ s. items_safe n here (splits a) rest c u lu h.1 s) f s))
          (items_safe n (passed entry labels) (splits a) rest c u lu h.1 s)

    -- one turn of a loop, and what follows
    pub turn_safe : (n : ℕ) (c : Around) (f : MaybeNode) (v : Walked) (a : StmtShape) (w : Walked) (g : MaybeNode) (u : Walked) → IsLoopTestSited S F P.tables c f v → IsSitedPart S F P.tables c a w → IsStepSited S F P.tables c g u → n ≤ w.variables → (s : State)
        → Safe S F n s (loop_turn P.tables kn (looping c f v a w g u) s) Any
    turn_safe n c f v a w g u hf ha hg le s = safe_then S F n s _ _ Any Any (loop_test_safe n f c v hf s) (λ x s k z.
        safe_if S F n x s _ _ Any
        (safe_then S F n s _ _ Any Any (flow_safe n true a c w le (part_stmt c a w ha) s) (λ y s k z. after_safe n c f v a w g u hf ha hg le y s))
        (safe_gives S F n s _ Any tt))
