-- What a statement adds is a beginning of a walk of it; of a loop, with as many turns as the knot is tied.
use Rattle.std.proofs.Common.{ℕ, zero, suc, ◌-◌, List, [], ◌∷◌, ◌≡◌, refl, sym, subst, ◌∙◌, map, length, arith, Some, None, Bool, true, false}
use Rattle.std.specs.Prelude.{◌||◌, nat_le, if◌then◌else◌}
use Rattle.c_syntax.specs.Shape.{NodeShape, MaybeNode, no_node, one_node, StmtShape, stmt, FormShape, compound, simply, when, either, while, do_while, for, switch, break, continue, return, CompoundShape, braces, ItemShapes, no_items, more_items}
use Rattle.c_walk.specs.declared.around.Around.{Around}
use Rattle.c_walk.specs.declared.around.Taken.TheVariants.{Read}
use Rattle.c_walk.specs.Items.{cases}
use Rattle.c_walk.specs.Tests.{choosing, case_values}
use Rattle.c_walk.specs.Walked.{Walked, with_block, with_block_if, pos_of, next_decision, inside, with_decision}
use Rattle.c_walk.specs.Counted.{next_block}
use Rattle.c_walk.specs.Walking.{walk_test, walk_maybe, walk_loop_test, walk_maybe_test, walk_step}
use Rattle.c_walk.specs.Stating.{walk_decls, splits, is_labelled, case_count, has_default, pos_of_stmt, walk_choice, walk_stmt, walk_part}
use Rattle.c_meaning.specs.declared.end.Flow.{Flow}
use Rattle.c_meaning.specs.declared.end.Flow.TheVariants.{Next, Break, Continue, Return}
use Rattle.c_meaning.specs.State.{Bound, State, opened, tail_of}
use Rattle.c_meaning.specs.Results.{Got, Gives, then_do}
use Rattle.c_meaning.specs.Firsts.{heard, noted_block, noted_outcome}
use Rattle.c_meaning.specs.Constants.{case_constants}
use Rattle.c_meaning.specs.Counts.{past_stmt}
use Rattle.c_meaning.specs.Knot.{Loop, Knot}
use Rattle.c_meaning.specs.Expressions.{meaning, log_block}
use Rattle.c_meaning.specs.Statements.{here, at_case, at_default, scope_opened, scope_closed, out_of_switch, after_one, discarded, step_flow, after_body, loop_test, case_number, chosen_entry, flow, form_flow, compound_flow, items_flow, loop_turn}
use Rattle.c_meaning.specs.Calls.{Source}
use Rattle.flow_walks.specs.declared.action.Action.TheVariants.{Block, Test}
use Rattle.flow_walks.specs.Comes.{act, Comes, emit, emit_if, choice, turns, loop, value}
use Rattle.flow_walks.specs.Expressions.{node_goes, maybe_goes, loop_test_goes, step_goes}
use Rattle.flow_walks.specs.Statements as walks
use Rattle.flow_walks.specs.Statements.{Exits, in_loop, in_switch, then_goes, stmt_goes, body_goes, part_goes, compound_goes, items_go, at_cases}
use Rattle.flow_walks.proofs.More.{In, UnderExits, under_loop, loop_test_in, part_in}
use Rattle.flow_calls.specs.Orderly.{IsOrderly, IsOrderlyMaybe, IsOrderlyStmt, IsOrderlyBody, IsOrderlyPart, IsOrderlyCompound, AreOrderlyItems}
use Rattle.flow_calls.proofs.Nils.{nil_value, loop_test_nil, step_nil, NilExits, nil_loop, nil_switch, nil_then, body_nil, part_nil, items_nil, at_cases_nil}
use Rattle.flow_calls.proofs.Adding.{Still, Adds, in_call_activations, adds_none, adds_still, adds_from, adds_then, adds_turn, adds_in}
use Rattle.flow_calls.proofs.Parts.{adds_choice, adds_wanted, adds_logs, adds_block, adds_outcome}
use Rattle.flow_calls.proofs.Nodes.{Calling, value_adds, tested_adds, arm_adds}
use Rattle.flow_calls.proofs.Declarations.{decls_adds}
use Rattle.flow_calls.proofs.Cases.{le_is, le_not, cases_among, values_count, all_constants, Within, chosen_within, from_case, case_in, else_in}

-- where a walk goes on behind a statement that is left so
abbrev pub exit : Exits → Flow → Comes
exit x Next = x.next
exit x Break = x.broken
exit x Continue = x.continued
exit x (Return v) = x.returned

pub exit_nil : (x : Exits) → NilExits x → (f : Flow) → exit x f []
exit_nil x h Next = h.next_nil
exit_nil x h Break = h.broken_nil
exit_nil x h Continue = h.continued_nil
exit_nil x h (Return v) = h.returned_nil

same_exits : (x : Exits) → UnderExits x x
same_exits x = record { next_in = λ w p. p; broken_in = λ w p. p; continued_in = λ w p. p; returned_in = λ w p. p }

module _ (P : Source) (F : List Bound) (kn : Knot) where
  -- ---- loops

  -- one turn, from the test on
  abbrev pub once : Around → MaybeNode → Walked → StmtShape → Walked → MaybeNode → Walked → Exits → Comes → Comes
  once c f v a w g u x again = loop_test_goes P.tables c f v (part_goes P.tables c a w (in_loop (step_goes P.tables c g u again) x)) x.next

  abbrev pub looping : Around → MaybeNode → Walked → StmtShape → Walked → MaybeNode → Walked → Loop
  looping c f v a w g u = record { test = f; at_test = heard c v; body = a; at_body = heard c w; step = g; at_step = heard c u }

  -- a loop's further turns are a walk of at most that many turns
  abbrev pub Turning : ℕ → Type 1
  Turning n = (c : Around) (f : MaybeNode) (v : Walked) (a : StmtShape) (w : Walked) (g : MaybeNode) (u : Walked) → IsOrderlyMaybe f → IsOrderlyPart P.tables F c a w → IsOrderlyMaybe g → (x : Exits) → NilExits x → (s : State)
      → Adds P F (turns n (once c f v a w g u x)) s (kn.again (looping c f v a w g u) s) (exit x)

  -- behind the body of a `do`
  abbrev once_do : Around → StmtShape → NodeShape → Walked → Exits → Comes → Comes
  once_do c a e w x again = part_goes P.tables c a w (in_loop (loop_test_goes P.tables c (one_node e) (walk_part P.tables c a w) again x.next) x)

  do_in : (c : Around) (a : StmtShape) (e : NodeShape) (w u : Walked) (x : Exits) → (n : ℕ)
      → In (turns n (once c (one_node e) (walk_part P.tables c a w) a w no_node u x)) (loop_test_goes P.tables c (one_node e) (walk_part P.tables c a w) (turns n (once_do c a e w x)) x.next)
  do_in c a e w u x zero [] p = tt
  do_in c a e w u x zero (b ∷ v) p = absurd p
  do_in c a e w u x (suc n) v p =
      loop_test_in P.tables c (one_node e) (walk_part P.tables c a w) _ _ _ _ (part_in P.tables c a w _ _ (under_loop _ _ x x (λ v q. do_in c a e w u x n v q) (same_exits x))) (λ v q. q) v p

  turns_nil : (n : ℕ) (c : Around) (f : MaybeNode) (v : Walked) (a : StmtShape) (w : Walked) (g : MaybeNode) (u : Walked) (x : Exits) → turns n (once c f v a w g u x) []
  turns_nil zero c f v a w g u x = tt
  turns_nil (suc n) c f v a w g u x = loop_test_nil P.tables c f v _ x.next (part_nil P.tables c a w _)

  gives_flow : (x : Exits) (f : Flow) (s : State) → Adds P F (exit x f) s (Gives f s) (exit x)
  gives_flow x f s = adds_still P F (exit x f) s f _ (λ w p. p)

  module _ (calling : Calling P F kn) where
    value_of : (e : NodeShape) → IsOrderly e → (c : Around) (w : Walked) (k : Comes) → k [] → (s : State) → Adds P F (node_goes P.tables c Read e w (value k)) s ((meaning P.tables kn e).value (heard c w) s) (λ v. k)
    value_of e g c w k h s = value_adds P F kn calling e g c w (value k) (nil_value k h) s

    discarded_adds : (e : MaybeNode) → IsOrderlyMaybe e → (c : Around) (w : Walked) (k : Comes) → k [] → (s : State) → Adds P F (maybe_goes P.tables c e w k) s (discarded P.tables kn e (heard c w) s) (λ f. k)
    discarded_adds no_node g c w k h s = adds_still P F k s _ _ (λ w p. p)
    discarded_adds (one_node e) g c w k h s = adds_then P F _ s _ _ _ _ (value_of e g c w k h s) (λ v s. adds_still P F k s _ _ (λ w p. p))

    step_adds : (e : MaybeNode) → IsOrderlyMaybe e → (c : Around) (w : Walked) (k : Comes) → k [] → (s : State) → Adds P F (step_goes P.tables c e w k) s (step_flow P.tables kn e (heard c w) s) (λ f. k)
    step_adds no_node g c w k h s = adds_still P F k s _ _ (λ w p. p)
    step_adds (one_node e) g c w k h s = adds_then P F _ s _ _ _ _ (arm_adds P F kn e (value_adds P F kn calling e g) c w k h s) (λ v s. adds_still P F k s _ _ (λ w p. p))

    loop_test_adds : (e : MaybeNode) → IsOrderlyMaybe e → (c : Around) (w : Walked) (j k : Comes) → j [] → k [] → (s : State) → Adds P F (loop_test_goes P.tables c e w j k) s (loop_test P.tables kn e (heard c w) s) (λ x. choice x j k)
    loop_test_adds no_node g c w j k h i s = adds_still P F j s true _ (λ w p. p)
    loop_test_adds (one_node e) g c w j k h i s = adds_block P F true c w _ s _ _ (tested_adds P F kn e (value_adds P F kn calling e g) c (with_block (pos_of e) w) j k h i (noted_block true (heard c w) s))

    -- behind a loop's body
    body_adds : (c : Around) (f : MaybeNode) (v : Walked) (a : StmtShape) (w : Walked) (g : MaybeNode) (u : Walked) → IsOrderlyMaybe g → (x : Exits) (k : Comes) → k [] → ((s : State) → Adds P F k s (kn.again (looping c f v a w g u) s) (exit x)) → (fl : Flow) (s : State)
        → Adds P F (exit (in_loop (step_goes P.tables c g u k) x) fl) s (after_body P.tables kn (looping c f v a w g u) fl s) (exit x)
    body_adds c f v a w g u og x k h again Next s = adds_then P F _ s _ _ _ _ (step_adds g og c u k h s) (λ f s. again s)
    body_adds c f v a w g u og x k h again Continue s = adds_then P F _ s _ _ _ _ (step_adds g og c u k h s) (λ f s. again s)
    body_adds c f v a w g u og x k h again Break s = gives_flow x Next s
    body_adds c f v a w g u og x k h again (Return r) s = gives_flow x (Return r) s

    -- ---- scopes, lists and switches

    closed_still : (s : State) → Still s (scope_closed s)
    closed_still s = record { deeds = refl; last = refl; calls = in_call_activations tail_of s.calls; file = refl }

    scoped_adds : (j : Comes) (s : State) (go : State → Got Flow) (L : Flow → Comes) → Adds P F j (scope_opened s) (go (scope_opened s)) L → Adds P F j s (then_do (go (scope_opened s)) (λ f s. Gives f (scope_closed s))) L
    scoped_adds j s go L f = adds_from P F j s (scope_opened s) _ L (record { deeds = refl; last = refl; calls = in_call_activations opened s.calls; file = refl })
        (adds_then P F j (scope_opened s) _ _ L L f (λ f s. adds_none P F (L f) s (scope_closed s) f L (closed_still s) (λ w p. p)))

    one_adds : (x : Exits) (k : Comes) (go : State → Got Flow) → ((s : State) → Adds P F k s (go s) (exit x)) → (f : Flow) (s : State) → Adds P F (exit (then_goes k x) f) s (after_one go f s) (exit x)
    one_adds x k go h Next s = h s
    one_adds x k go h Break s = gives_flow x Break s
    one_adds x k go h Continue s = gives_flow x Continue s
    one_adds x k go h (Return v) s = gives_flow x (Return v) s

    out_adds : (x : Exits) (f : Flow) (s : State) → Adds P F (exit (in_switch x) f) s (out_of_switch f s) (exit x)
    out_adds x Next s = gives_flow x Next s
    out_adds x Break s = gives_flow x Next s
    out_adds x Continue s = gives_flow x Continue s
    out_adds x (Return v) s = gives_flow x (Return v) s

    module _ (n : ℕ) (turning : Turning n) where
      while_adds : (e : NodeShape) (a : StmtShape) (c : Around) (w : Walked) → IsOrderly e → IsOrderlyPart P.tables F c a (walk_loop_test c e w) → (x : Exits) → NilExits x → (s : State) → Adds P F (body_goes P.tables c (while e a) w x) s (form_flow P.tables kn (while e a) (heard c w) s) (exit x)
      while_adds e a c w g o x h s = adds_in P F (turns n (once c (one_node e) w a (walk_loop_test c e w) no_node w x)) _ s _ _ (λ v p. (n, p)) (turning c (one_node e) w a (walk_loop_test c e w) no_node w g o tt x h s)

      -- a statement that is a block or not
      abbrev Flows : Around → Bool → StmtShape → Walked → Type 1
      Flows c b a w = (x : Exits) → NilExits x → (s : State) → Adds P F (emit_if b (act (Block (next_block w))) (stmt_goes P.tables c a (with_block_if b (pos_of_stmt a) w) x)) s (flow P.tables kn b a (heard c w) s) (exit x)

      part_adds : (a : StmtShape) (c : Around) (w : Walked) → Flows c true a w → (x : Exits) → NilExits x → (s : State) → Adds P F (part_goes P.tables c a w x) s (flow P.tables kn true a (heard c w) s) (exit x)
      part_adds (stmt p ms q f) c w fl x h s = fl x h s

      do_adds : (a : StmtShape) (e : NodeShape) (c : Around) (w : Walked) → IsOrderlyPart P.tables F c a w → IsOrderly e → Flows c true a w → (x : Exits) → NilExits x → (s : State) → Adds P F (body_goes P.tables c (do_while a e) w x) s (form_flow P.tables kn (do_while a e) (heard c w) s) (exit x)
      do_adds (stmt p ms q f) e c w o g fl x h s =
          let a = stmt p ms q f in
          let k = loop_test_goes P.tables c (one_node e) (walk_part P.tables c a w) (turns n (once_do c a e w x)) x.next in
          adds_in P F (part_goes P.tables c a w (in_loop k x)) _ s _ _ (λ v r. (suc n, r))
          (adds_then P F _ s _ _ (exit (in_loop k x)) (exit x) (part_adds a c w fl (in_loop k x) (nil_loop k x tt h) s)
          (λ f s. body_adds c (one_node e) (walk_part P.tables c a w) a w no_node w tt x k tt (λ s. adds_in P F _ _ s _ _ (do_in c a e w w x n) (turning c (one_node e) (walk_part P.tables c a w) a w no_node w g o tt x h s)) f s))

      for_adds : (e f g : MaybeNode) (a : StmtShape) (c : Around) (w : Walked) → IsOrderlyMaybe e → IsOrderlyMaybe f → IsOrderlyMaybe g → IsOrderlyPart P.tables F c a (walk_step c g (walk_maybe_test c f (walk_maybe c e w))) → (x : Exits) → NilExits x → (s : State) → Adds P F (body_goes P.tables c (for e f g a) w x) s (form_flow P.tables kn (for e f g a) (heard c w) s) (exit x)
      for_adds e f g a c w oe of og o x h s =
          let j = walk_maybe c e w in
          let k = walk_maybe_test c f j in
          adds_then P F _ s _ _ (λ v. loop (once c f j a (walk_step c g k) g k x)) _ (discarded_adds e oe c w (loop (once c f j a (walk_step c g k) g k x)) (0, tt) s)
          (λ v s. adds_in P F (turns n (once c f j a (walk_step c g k) g k x)) _ s _ _ (λ v p. (n, p)) (turning c f j a (walk_step c g k) g k of o og x h s))

      part_orderly : (a : StmtShape) (c : Around) (w : Walked) → IsOrderlyPart P.tables F c a w → IsOrderlyStmt P.tables F c a (with_block_if true (pos_of_stmt a) w)
      part_orderly (stmt p ms q f) c w o = o

      else_adds : (a b : StmtShape) (c : Around) (w : Walked) → Flows c true b (walk_part P.tables c a w) → (x : Exits) → NilExits x → (s : State) → Adds P F (part_goes P.tables c b (walk_part P.tables c a w) x) s (flow P.tables kn true b (past_stmt P.tables true a (heard c w)) s) (exit x)
      else_adds (stmt p ms q f) b c w fl x h s = part_adds b c (walk_part P.tables c (stmt p ms q f) w) fl x h s

      next_adds : (e : MaybeNode) → IsOrderlyMaybe e → (c : Around) (w : Walked) (x : Exits) → NilExits x → (s : State) → Adds P F (maybe_goes P.tables c e w x.next) s (discarded P.tables kn e (heard c w) s) (exit x)
      next_adds no_node o c w x h s = gives_flow x Next s
      next_adds (one_node e) o c w x h s = adds_then P F _ s _ _ _ _ (value_of e o c w x.next h.next_nil s) (λ v s. gives_flow x Next s)

      -- a statement of a list, and what follows
      reached_adds : (b : Bool) (a : StmtShape) (rest : ItemShapes) (c : Around) (w : Walked) → Flows c b a w
          → (let u = walk_stmt P.tables c a (with_block_if b (pos_of_stmt a) w) in (x : Exits) → NilExits x → (s : State) → Adds P F (items_go P.tables c (splits a) rest u x) s (items_flow P.tables kn here (splits a) rest (heard c u) s) (exit x))
          → (x : Exits) → NilExits x → (s : State)
          → (let u = walk_stmt P.tables c a (with_block_if b (pos_of_stmt a) w) in
          Adds P F (emit_if b (act (Block (next_block w))) (stmt_goes P.tables c a (with_block_if b (pos_of_stmt a) w) (then_goes (items_go P.tables c (splits a) rest u x) x))) s
          (then_do (flow P.tables kn b a (heard c w) s) (after_one (items_flow P.tables kn here (splits a) rest (heard c u)))) (exit x))
      reached_adds b a rest c w fl more x h s =
          let u = walk_stmt P.tables c a (with_block_if b (pos_of_stmt a) w) in
          let k = items_go P.tables c (splits a) rest u x in
          adds_then P F _ s _ _ (exit (then_goes k x)) (exit x) (fl (then_goes k x) (nil_then k x (items_nil P.tables c (splits a) rest u x h) h) s)
          (λ f s. one_adds x k (items_flow P.tables kn here (splits a) rest (heard c u)) (λ s. more x h s) f s)

      -- from the n-th case of a list on, and from its default on
      abbrev FromCase : Around → ItemShapes → Walked → ℕ → Type 1
      FromCase c items w m = (x : Exits) → NilExits x → (s : State) → Adds P F (from_case P.tables c m false items w x) s (items_flow P.tables kn (at_case m) false items (heard c w) s) (exit x)

      abbrev FromDefault : Around → ItemShapes → Walked → Type 1
      FromDefault c items w = (x : Exits) → NilExits x → (s : State) → Adds P F (walks.at_default P.tables c false items w x) s (items_flow P.tables kn at_default false items (heard c w) s) (exit x)

      -- behind the value that a switch chooses by: its number is m, and there are l cases
      chosen_adds : (c : Around) (items : ItemShapes) (w j : Walked) (m l : ℕ) (b : Bool) → nat_le m l ≡ b → Within m l → l ≡ cases_among items → ((n : ℕ) → FromCase c items j n) → FromDefault c items j → (x : Exits) → NilExits x → (s : State)
          → Adds P F (at_cases P.tables c (next_decision w) 1 false items j (in_switch x) (emit (act (Test (next_decision w) (suc l))) (walks.at_default P.tables c false items j (in_switch x)))) s
          (then_do (items_flow P.tables kn (if b then at_case m else at_default) false items (heard c j) (noted_outcome (heard c w) m s)) out_of_switch) (exit x)
      chosen_adds c items w j zero l b e i r from back x h s = absurd (let g = i.low in omega (arith, g))
      chosen_adds c items w j (suc m) l true e i r from back x h s =
          let lt = le_is (suc m) l e in
          let y = in_switch x in
          adds_in P F (emit (act (Test (next_decision w) (suc m))) (from_case P.tables c (suc m) false items j y)) _ s _ _ (λ v p. case_in P.tables c (next_decision w) 1 m false items j y _ (omega (arith, lt, r)) v (subst (λ (k : ℕ). emit (act (Test (next_decision w) k)) (from_case P.tables c (suc m) false items j y) v) (omega arith) p))
          (adds_outcome P F c w (suc m) _ s _ _ (adds_then P F _ (noted_outcome (heard c w) (suc m) s) _ _ (exit y) (exit x) (from (suc m) y (nil_switch x h) (noted_outcome (heard c w) (suc m) s)) (λ f s. out_adds x f s)))
      chosen_adds c items w j (suc m) l false e i r from back x h s =
          let lt = le_not (suc m) l e in
          let g = i.high in
          let y = in_switch x in
          adds_in P F (emit (act (Test (next_decision w) (suc m))) (walks.at_default P.tables c false items j y)) _ s _ _
          (λ v p. else_in P.tables c (next_decision w) 1 false items j y _ v (subst (λ (k : ℕ). emit (act (Test (next_decision w) k)) (walks.at_default P.tables c false items j y) v) (omega (arith, lt, g)) p))
          (adds_outcome P F c w (suc m) _ s _ _ (adds_then P F _ (noted_outcome (heard c w) (suc m) s) _ _ (exit y) (exit x) (back y (nil_switch x h) (noted_outcome (heard c w) (suc m) s)) (λ f s. out_adds x f s)))

      switch_adds : (e : NodeShape) (items : ItemShapes) (c : Around) (w : Walked) → IsOrderly e → ((n : ℕ) → FromCase c items (walk_choice c e items w) n) → FromDefault c items (walk_choice c e items w) → (x : Exits) → NilExits x → (s : State)
          → Adds P F (body_goes P.tables c (switch e items) w x) s (form_flow P.tables kn (switch e items) (heard c w) s) (exit x)
      switch_adds e items c w o from back x h s =
          let k = choosing e in
          let j = walk_choice c e items w in
          let d = next_decision w in
          let l = length (case_values k items) in
          let same : length (case_constants k items) ≡ l = all_constants k items ∙ sym (values_count k items) in
          let rest = at_cases P.tables c d 1 false items j (in_switch x) (emit (act (Test d (suc l))) (walks.at_default P.tables c false items j (in_switch x))) in
          let nil : rest [] = at_cases_nil P.tables c items d 1 false j (in_switch x) (emit _ _) tt in
          adds_then P F _ s _ _ _ _ (adds_wanted P F _ s _ rest nil (value_of e o (inside c w) (with_decision (pos_of e) (cases (case_values k items)) w) rest nil s))
          (λ v s. subst (λ (n : ℕ). Adds P F (at_cases P.tables c d 1 false items j (in_switch x) (emit (act (Test d (suc n))) (walks.at_default P.tables c false items j (in_switch x)))) s
          (then_do (items_flow P.tables kn (chosen_entry e items v) false items (heard c j) (noted_outcome (heard c w) (case_number e items v) s)) out_of_switch) (exit x)) same
          (chosen_adds c items w j (case_number e items v) (length (case_constants k items)) (nat_le (case_number e items v) (length (case_constants k items))) refl (chosen_within k v (case_constants k items)) (all_constants k items) from back x h s))

      mutual
        pub flow_adds : (b : Bool) (a : StmtShape) (c : Around) (w : Walked) → IsOrderlyStmt P.tables F c a (with_block_if b (pos_of_stmt a) w) → Flows c b a w
        flow_adds b (stmt p ms q f) c w o x h s =
            let u = with_block_if b p w in
            let nil = body_nil P.tables c f u x h in
            adds_block P F b c w _ s _ _
            (adds_logs P F log_block (map (λ m. m.number) ms) _ (noted_block b (heard c w) s) _ _ (λ m s. record { deeds = refl; last = refl; calls = refl; file = refl }) nil (λ s. adds_turn P F _ s _ _ nil (λ s. form_adds f c u o x h s)))

        form_adds : (f : FormShape) (c : Around) (w : Walked) → IsOrderlyBody P.tables F c f w → (x : Exits) → NilExits x → (s : State) → Adds P F (body_goes P.tables c f w x) s (form_flow P.tables kn f (heard c w) s) (exit x)
        form_adds (compound b) c w o x h s = scoped_adds _ s (compound_flow P.tables kn b (heard c w)) _ (compound_adds b c w o x h (scope_opened s))
        form_adds (simply e) c w o x h s = next_adds e o c w x h s
        form_adds (when e a) c w o x h s =
            let j = walk_test c e w in
            adds_then P F _ s _ _ _ _ (tested_adds P F kn e (value_adds P F kn calling e o.0) c w (part_goes P.tables c a j x) x.next (part_nil P.tables c a j x) h.next_nil s) (λ v s.
            adds_choice P F v _ _ s _ _ _ (part_adds a c j (flow_adds true a c j (part_orderly a c j o.1)) x h s) (gives_flow x Next s))
        form_adds (either e a b) c w o x h s =
            let j = walk_test c e w in
            let u = walk_part P.tables c a j in
            adds_then P F _ s _ _ _ _ (tested_adds P F kn e (value_adds P F kn calling e o.0) c w (part_goes P.tables c a j x) (part_goes P.tables c b u x) (part_nil P.tables c a j x) (part_nil P.tables c b u x) s) (λ v s.
            adds_choice P F v _ _ s _ _ _ (part_adds a c j (flow_adds true a c j (part_orderly a c j o.1)) x h s) (else_adds a b c j (flow_adds true b c u (part_orderly b c u o.2)) x h s))
        form_adds (while e a) c w o x h s = while_adds e a c w o.0 o.1 x h s
        form_adds (do_while a e) c w o x h s = do_adds a e c w o.0 o.1 (flow_adds true a c w (part_orderly a c w o.0)) x h s
        form_adds (for e f g a) c w o x h s = for_adds e f g a c w o.0 o.1 o.2 o.3 x h s
        form_adds (switch e items) c w o x h s =
            let j = walk_choice c e items w in
            switch_adds e items c w o.0 (λ m x h s. case_adds m false items c j o.1 x h s) (λ x h s. default_adds false items c j o.1 x h s) x h s
        form_adds break c w o x h s = gives_flow x Break s
        form_adds continue c w o x h s = gives_flow x Continue s
        form_adds (return no_node) c w o x h s = gives_flow x (Return None) s
        form_adds (return (one_node e)) c w o x h s = adds_then P F _ s _ _ _ _ (adds_wanted P F _ s _ x.returned h.returned_nil (value_of e o c w x.returned h.returned_nil s)) (λ v s. gives_flow x (Return (Some v)) s)

        pub compound_adds : (b : CompoundShape) (c : Around) (w : Walked) → IsOrderlyCompound P.tables F c b w → (x : Exits) → NilExits x → (s : State) → Adds P F (compound_goes P.tables c b w x) s (compound_flow P.tables kn b (heard c w) s) (exit x)
        compound_adds (braces p ds items) c w o x h s =
            let u = walk_decls P.tables c ds w in
            adds_then P F _ s _ _ (λ f. items_go P.tables c false items u x) _ (decls_adds P F kn calling ds c w o.0 _ s (items_nil P.tables c false items u x h)) (λ f s. items_adds false items c u o.1 x h s)

        items_adds : (after : Bool) (items : ItemShapes) (c : Around) (w : Walked) → AreOrderlyItems P.tables F c after items w → (x : Exits) → NilExits x → (s : State) → Adds P F (items_go P.tables c after items w x) s (items_flow P.tables kn here after items (heard c w) s) (exit x)
        items_adds after no_items c w o x h s = gives_flow x Next s
        items_adds after (more_items labels a rest) c w o x h s =
            let b = after || is_labelled labels in
            reached_adds b a rest c w (flow_adds b a c w o.0) (λ x h s. items_adds (splits a) rest c (walk_stmt P.tables c a (with_block_if b (pos_of_stmt a) w)) o.1 x h s) x h s

        default_adds : (after : Bool) (items : ItemShapes) (c : Around) (w : Walked) → AreOrderlyItems P.tables F c after items w → (x : Exits) → NilExits x → (s : State) → Adds P F (walks.at_default P.tables c after items w x) s (items_flow P.tables kn at_default after items (heard c w) s) (exit x)
        default_adds after no_items c w o x h s = gives_flow x Next s
        default_adds after (more_items labels a rest) c w o x h s =
            let b = after || is_labelled labels in
            let u = walk_stmt P.tables c a (with_block_if b (pos_of_stmt a) w) in
            adds_choice P F (has_default labels) _ _ s _ _ _ (reached_adds b a rest c w (flow_adds b a c w o.0) (λ x h s. items_adds (splits a) rest c u o.1 x h s) x h s) (default_adds (splits a) rest c u o.1 x h s)

        case_adds : (m : ℕ) (after : Bool) (items : ItemShapes) (c : Around) (w : Walked) → AreOrderlyItems P.tables F c after items w → (x : Exits) → NilExits x → (s : State) → Adds P F (from_case P.tables c m after items w x) s (items_flow P.tables kn (at_case m) after items (heard c w) s) (exit x)
        case_adds m after no_items c w o x h s = gives_flow x Next s
        case_adds m after (more_items labels a rest) c w o x h s =
            let b = after || is_labelled labels in
            let u = walk_stmt P.tables c a (with_block_if b (pos_of_stmt a) w) in
            adds_choice P F (nat_le m (case_count labels)) _ _ s _ _ _ (reached_adds b a rest c w (flow_adds b a c w o.0) (λ x h s. items_adds (splits a) rest c u o.1 x h s) x h s) (case_adds (m - case_count labels) (splits a) rest c u o.1 x h s)

      -- one turn more
      pub turn_adds : (c : Around) (f : MaybeNode) (v : Walked) (a : StmtShape) (w : Walked) (g : MaybeNode) (u : Walked) → IsOrderlyMaybe f → IsOrderlyPart P.tables F c a w → IsOrderlyMaybe g → (x : Exits) → NilExits x → (s : State)
          → Adds P F (turns (suc n) (once c f v a w g u x)) s (loop_turn P.tables kn (looping c f v a w g u) s) (exit x)
      turn_adds c f v a w g u of oa og x h s =
          let k = turns n (once c f v a w g u x) in
          let nil = turns_nil n c f v a w g u x in
          let y = in_loop (step_goes P.tables c g u k) x in
          adds_then P F _ s _ _ _ _ (loop_test_adds f of c v (part_goes P.tables c a w y) x.next (part_nil P.tables c a w y) h.next_nil s) (λ b s.
          adds_choice P F b _ _ s _ _ _
          (adds_then P F _ s _ _ (exit y) (exit x) (part_adds a c w (flow_adds true a c w (part_orderly a c w oa)) y (nil_loop (step_goes P.tables c g u k) x (step_nil P.tables c g u k nil) h) s)
          (λ f' s. body_adds c f v a w g u og x k nil (λ s. turning c f v a w g u of oa og x h s) f' s))
          (gives_flow x Next s))
