-- Statements with their probes are typed as they stand, where local declarations are.
use Rattle.std.proofs.Common.{◌≡◌, ℕ, List, [], ◌∷◌, length, Bool, true, false, Option, Some, None, ◌∙◌, refl, ap, ap₂, subst}
use Rattle.std.specs.Prelude.{◌||◌}
use Rattle.c_base.specs.declared.place.Pos.{Pos}
use Rattle.c_syntax.specs.Shape.{NodeShape, MaybeNode, no_node, one_node, LabelShape, StmtShape, stmt, FormShape, compound, simply, when, either, while, do_while, for, switch, break, continue, return, CompoundShape, braces, ItemShapes, no_items, more_items}
use Rattle.c_syntax.specs.Shaped.{Shaped, ShapedMaybe, ShapedStmt, ShapedForm, ShapedCompound, ShapedItems}
use Rattle.c_type_rules.specs.Verdicts.{truth_type, promoted_type}
use Rattle.c_tables.specs.Tables.{TablesShape}
use Rattle.c_tree.specs.State.{State, step, steps}
use Rattle.c_tree.specs.Rulings.{by, rule}
use Rattle.c_tree.specs.Sorts.{pos_in}
use Rattle.c_tree.specs.Typing.{type_node}
use Rattle.c_tree.specs.Declaring.{type_decls, opened_scope}
use Rattle.c_tree.specs.Stating.{Surroundings, in_loop, in_switch, Labels, no_labels, tested, switched, type_maybe, type_test, type_result, type_marks, type_labels, TypedBody, type_body, TypedItems, type_items, type_stmt, type_compound}
use Rattle.c_walk.specs.declared.around.Around.{Around}
use Rattle.c_walk.specs.declared.around.Taken.TheVariants.{Read}
use Rattle.c_walk.specs.Items.{cases}
use Rattle.c_walk.specs.Tests.{choosing, case_values}
use Rattle.c_walk.specs.Walked.{Walked, with_block, with_block_if, with_decision, inside, pos_of}
use Rattle.c_walk.specs.Walking.{walk_test, walk_loop_test, walk_maybe, walk_maybe_test, walk_step}
use Rattle.c_walk.specs.Stating.{walk_decls, pos_of_stmt, splits, is_labelled, walk_choice, walk_stmt, walk_body, walk_part, walk_compound, walk_items}
use Rattle.c_meaning.proofs.Walks.{node_on, loop_test_on, maybe_test_on, step_on, stmt_on, part_on, items_on}
use Rattle.c_sites_probes.specs.Marked.{first, node_mark, maybe_mark, decls_mark, labels_mark, stmt_mark, body_mark, compound_mark, items_mark}
use Rattle.probe_rules.specs.Fitting.{HasFewItems}
use Rattle.probe_rules.specs.Marks.{block_marks}
use Rattle.probe_rules.specs.ProbedExpressions.{probed_test, probed_loop_test, probed_maybe, probed_maybe_test, probed_step, probed_choice}
use Rattle.probe_rules.specs.ProbedStatements.{probed_decls, probed_stmt, probed_body, probed_compound, probed_items}
use Rattle.probe_rules.proofs.ReadyUnits.{none_first, none_second}
use Rattle.c_tree.proofs.Grows.{rule_grows}
use Rattle.c_tree.proofs.GrowsUnits.{maybe_grows, test_grows, maybe_test_grows, stmt_grows, items_grow}
use Rattle.probe_rules.proofs.Moved.{steps_alike, demand_alike}
use Rattle.probe_rules.proofs.Claims.{seen_at, block_claimed}
use Rattle.probe_rules.proofs.Few.{few_before, few_blocks, few_decisions}
use Rattle.probe_laws.proofs.Settled.{IsClean}
use Rattle.probe_laws.proofs.Rules.{back}
use Rattle.probe_laws.proofs.Known.{Knows, entered_holds, rule_goes}
use Rattle.probe_laws.proofs.KnownNodes.{node_knows}
use Rattle.probe_laws.proofs.FitDecls.{decls_fit}
use Rattle.probe_laws.proofs.FitStatements.{stmt_fits}
use Rattle.probe_moved.proofs.States.{further_alike, opened_scope_alike, closed_scope_alike}
use Rattle.probe_moved.proofs.Statements.{AlikeLabels, labels_alike, switched_alike}
use Rattle.probe_cases.proofs.Choice as choices
use Rattle.probe_typed.specs.Typed.{Follows, MayBeTested, IsTypedNear}
use Rattle.probe_typed.proofs.Parts.{tests_typed, loop_tests_typed, maybes_typed, maybe_tests_typed, steps_typed, results_typed, judged_alike, tested_so, reads_typed}
use Rattle.probe_programs.specs.Stated.{IsStmtTypedAs, IsCompoundTypedAs, DeclsAreTypedAs}
use Rattle.c_tree.proofs.AgainUnits.{labels_again}
use Rattle.probe_programs.proofs.Labels.{labels_go}
use Rattle.c_tree.specs.declared.meaning.Side.TheVariants.{Neither}

three : {A B C D : Type 0} (k : A → B → C → D) {a b : A} {c d : B} {e f : C} → a ≡ b → c ≡ d → e ≡ f → k a c e ≡ k b d f
three k {a} {b} {c} {d} {e} {f} p q r = ap (λ x. k x c e) p ∙ ap₂ (k b) q r

-- ---- what comes of a form, and of a list

record IsFormTypedAs (v : Walked) (x : TypedBody) (f : FormShape) (y : TypedBody) : Type 0 where
  form : y.form ≡ f
  state : Follows v x.state y.state

record AreItemsTypedAs (v : Walked) (x : TypedItems) (list : ItemShapes) (y : TypedItems) : Type 0 where
  items : y.items ≡ list
  state : Follows v x.state y.state

-- ---- what is known behind an expression

known_behind : (a : NodeShape) (s : State) → Shaped a → Knows false s → IsClean (type_node a s).state → Knows false (type_node a s).state
known_behind a s is h c = (node_knows a s is h c).1.0

test_clean : (token : ℕ) (a : NodeShape) (s : State) → IsClean (tested token (type_node a s)) → IsClean (type_node a s).state
test_clean token a s c = let t = type_node a s in back (rule_grows (by 33 (truth_type t.sort.kind)) token (pos_in t.node) t.state) c

test_known : (token : ℕ) (a : NodeShape) (s : State) → Shaped a → Knows false s → IsClean (tested token (type_node a s)) → Knows false (tested token (type_node a s))
test_known token a s is h c = let t = type_node a s in (rule_goes (by 33 (truth_type t.sort.kind)) token (pos_in t.node) t.state (known_behind a s is h (test_clean token a s c))).0

test_may : (token : ℕ) (a : NodeShape) (s : State) → Shaped a → Knows false s → IsClean (tested token (type_node a s)) → MayBeTested (type_node a s).sort
test_may token a s is h c = tested_so token (type_node a s) (node_knows a s is h (test_clean token a s c)).0 c

maybe_known : (e : MaybeNode) (s : State) → ShapedMaybe 0 e → Knows false s → IsClean (type_maybe e s).state → Knows false (type_maybe e s).state
maybe_known no_node s is h c = h
maybe_known (one_node a) s is h c = known_behind a s is.1 h c

maybe_test_known : (e : MaybeNode) (s : State) → ShapedMaybe 0 e → Knows false s → IsClean (type_test e s).state → Knows false (type_test e s).state
maybe_test_known no_node s is h c = h
maybe_test_known (one_node a) s is h c = test_known s.at a s is.1 h c

-- ---- blocks

-- in front of a statement that is a block its number is claimed
marked : (b : Bool) (p : Pos) (w : Walked) {s t : State} → HasFewItems (with_block_if b p w) → Follows w s t → Follows (with_block_if b p w) s (type_marks (block_marks b p w) t)
marked true p w {t = t} few al = further_alike 0 0 (seen_at (with_block p w)) 5 (block_claimed 0 0 t.at p p w (few_blocks p w few) al)
marked false p w few al = al

-- ---- tests

module _ (c : Around) (a : NodeShape) (s t : State) (w : Walked) (is : Shaped a) (m : node_mark a ≡ None) (h : Knows false s) where
  test_here : (head head' : ℕ) → IsClean (tested head (type_node a s)) → HasFewItems (walk_test c (type_node a s).node w) → Follows w s t
      → IsTypedNear (walk_test c (type_node a s).node w) (type_node a s) (probed_test c (type_node a s).node w) (type_node (probed_test c (type_node a s).node w) t)
  test_here head head' clean few al = tests_typed false c a w s t is m h (test_clean head a s clean) (test_may head a s is h clean) few al

  loop_here : (head head' : ℕ) → IsClean (tested head (type_node a s)) → HasFewItems (walk_loop_test c (type_node a s).node w) → Follows w s t
      → IsTypedNear (walk_loop_test c (type_node a s).node w) (type_node a s) (probed_loop_test c (type_node a s).node w) (type_node (probed_loop_test c (type_node a s).node w) t)
  loop_here head head' clean few al = loop_tests_typed false c a w s t is m h (test_clean head a s clean) (test_may head a s is h clean) few al

-- labels, typed again wherever they stand
labels_again_alike : (o o' : Option Labels) (ls : List LabelShape) (s t : State) (w : Walked) → o' ≡ o → labels_mark (type_labels o ls s).labels ≡ None → Follows w s t → AlikeLabels 0 0 (seen_at w) (type_labels o ls s) (type_labels o' (type_labels o ls s).labels t)
labels_again_alike o o' ls s t w same m al =
    let qs = (type_labels o ls s).labels in
    subst (λ z. AlikeLabels 0 0 (seen_at w) z (type_labels o' qs t)) (labels_again o o ls s s) (labels_alike 0 0 (seen_at w) o o' qs same m al)

-- ---- statements

module _ (tables : TablesShape) (declared : DeclsAreTypedAs) where
  mutual
    pub stmt_typed : (c : Around) (e : Surroundings) (b : Bool) (a : StmtShape) (w : Walked) (s t : State) → ShapedStmt a → stmt_mark a ≡ None → Knows false s → (
        let x = type_stmt e a s in
        let p = probed_stmt tables c b x.stmt w in
        let v = walk_stmt tables c x.stmt (with_block_if b (pos_of_stmt x.stmt) w) in
        stmt_mark x.stmt ≡ None → IsClean x.state → HasFewItems v → Follows w s t → IsStmtTypedAs v x p (type_stmt e p t))
    stmt_typed c e b (stmt p (g ∷ gs) q f) w s t is m h n clean few al = absurd (cc)
    stmt_typed c e b (stmt p [] q f) w s t is m h n clean few al =
        let x = type_body e q f s in
        let v = with_block_if b p w in
        let few_v : HasFewItems v = few_before (stmt_on tables c (stmt p [] q x.form) v) few in
        let i = body_typed c e q f v s (type_marks (block_marks b p w) t) is m h n clean few (marked b p w few_v al) in
        record { stmt = ap (stmt p (block_marks b p w) q) i.form; state = i.state }

    -- a part of a statement, which is a block
    part_typed : (c : Around) (e : Surroundings) (a : StmtShape) (w : Walked) (s t : State) → ShapedStmt a → stmt_mark a ≡ None → Knows false s → (
        let x = type_stmt e a s in
        let p = probed_stmt tables c true x.stmt w in
        let v = walk_part tables c x.stmt w in
        stmt_mark x.stmt ≡ None → IsClean x.state → HasFewItems v → Follows w s t → IsStmtTypedAs v x p (type_stmt e p t))
    part_typed c e (stmt p (g ∷ gs) q f) w s t is m h n clean few al = absurd (cc)
    part_typed c e (stmt p [] q f) w s t is m h n clean few al =
        let x = type_body e q f s in
        let v = with_block p w in
        let few_v : HasFewItems v = few_before (stmt_on tables c (stmt p [] q x.form) v) few in
        let i = body_typed c e q f v s (type_marks (block_marks true p w) t) is m h n clean few (marked true p w few_v al) in
        record { stmt = ap (stmt p (block_marks true p w) q) i.form; state = i.state }

    body_typed : (c : Around) (e : Surroundings) (p : Pos) (f : FormShape) (w : Walked) (s t : State) → ShapedForm f → body_mark f ≡ None → Knows false s → (
        let x = type_body e p f s in
        let g = probed_body tables c x.form w in
        let v = walk_body tables c x.form w in
        body_mark x.form ≡ None → IsClean x.state → HasFewItems v → Follows w s t → IsFormTypedAs v x g (type_body e p g t))
    body_typed c e p (compound b) w s t is m h n clean few al =
        let i = compound_typed c e b w (opened_scope s) (opened_scope t) is m (entered_holds false (length s.tables.functions) s.names h) n clean few (opened_scope_alike 0 0 (seen_at w) al) in
        record { form = ap compound i.compound; state = closed_scope_alike 0 0 (seen_at (walk_compound tables c (type_compound e b (opened_scope s)).compound w)) i.state }
    body_typed c e p (simply a) w s t is m h n clean few al =
        let x = type_maybe a s in
        let i = maybes_typed false c 0 a w s t is m h clean few al in
        record { form = ap simply i.node; state = steps_alike 0 0 (seen_at (walk_maybe c x.node w)) 1 i.state }
    body_typed c e p (when a d) w s t is m h n clean few al =
        let x = type_node a (steps 2 s) in
        let u = tested (steps 2 s).at x in
        let y = type_stmt e d (step u) in
        let v = walk_test c x.node w in
        let before = back (stmt_grows e d (step u)) clean in
        let q = type_node (probed_test c x.node w) (steps 2 t) in
        let i = test_here c a (steps 2 s) (steps 2 t) w is.0 (none_first (node_mark a) (stmt_mark d) m) h (steps 2 s).at (steps 2 t).at before (few_before (part_on tables c y.stmt v) few) (steps_alike 0 0 (seen_at w) 2 al) in
        let judged = judged_alike v (steps 2 s).at (steps 2 t).at x (probed_test c x.node w) q i in
        let j = part_typed c e d v (step u) (step (tested (steps 2 t).at q)) is.1 (none_second (node_mark a) (stmt_mark d) m) (test_known (steps 2 s).at a (steps 2 s) is.0 h before) (none_second (node_mark x.node) (stmt_mark y.stmt) n) clean few (steps_alike 0 0 (seen_at v) 1 judged) in
        record { form = ap₂ when i.node j.stmt; state = j.state }
    body_typed c e p (either a d f) w s t is m h n clean few al =
        let x = type_node a (steps 2 s) in
        let u = tested (steps 2 s).at x in
        let y = type_stmt e d (step u) in
        let z = type_stmt e f (step y.state) in
        let v = walk_test c x.node w in
        let v' = walk_part tables c y.stmt v in
        let late = back (stmt_grows e f (step y.state)) clean in
        let before = back (stmt_grows e d (step u)) late in
        let few_v' : HasFewItems v' = few_before (part_on tables c z.stmt v') few in
        let ms = none_second (node_mark a) (first (stmt_mark d) (stmt_mark f)) m in
        let ns = none_second (node_mark x.node) (first (stmt_mark y.stmt) (stmt_mark z.stmt)) n in
        let q = type_node (probed_test c x.node w) (steps 2 t) in
        let i = test_here c a (steps 2 s) (steps 2 t) w is.0 (none_first (node_mark a) (first (stmt_mark d) (stmt_mark f)) m) h (steps 2 s).at (steps 2 t).at before (few_before (part_on tables c y.stmt v) few_v') (steps_alike 0 0 (seen_at w) 2 al) in
        let judged = judged_alike v (steps 2 s).at (steps 2 t).at x (probed_test c x.node w) q i in
        let known = test_known (steps 2 s).at a (steps 2 s) is.0 h before in
        let b = probed_stmt tables c true y.stmt v in
        let r = type_stmt e b (step (tested (steps 2 t).at q)) in
        let j = part_typed c e d v (step u) (step (tested (steps 2 t).at q)) is.1 (none_first (stmt_mark d) (stmt_mark f) ms) known (none_first (stmt_mark y.stmt) (stmt_mark z.stmt) ns) late few_v' (steps_alike 0 0 (seen_at v) 1 judged) in
        let behind = (stmt_fits e d (step u) is.1 (none_first (stmt_mark y.stmt) (stmt_mark z.stmt) ns) known late).0.0 in
        let k = part_typed c e f v' (step y.state) (step r.state) is.3 (none_second (stmt_mark d) (stmt_mark f) ms) behind (none_second (stmt_mark y.stmt) (stmt_mark z.stmt) ns) clean few (steps_alike 0 0 (seen_at v') 1 j.state) in
        record { form = three either i.node j.stmt k.stmt; state = k.state }
    body_typed c e p (while a d) w s t is m h n clean few al =
        let x = type_node a (steps 2 s) in
        let u = tested (steps 2 s).at x in
        let y = type_stmt (in_loop e) d (step u) in
        let v = walk_loop_test c x.node w in
        let before = back (stmt_grows (in_loop e) d (step u)) clean in
        let q = type_node (probed_loop_test c x.node w) (steps 2 t) in
        let i = loop_here c a (steps 2 s) (steps 2 t) w is.0 (none_first (node_mark a) (stmt_mark d) m) h (steps 2 s).at (steps 2 t).at before (few_before (part_on tables c y.stmt v) few) (steps_alike 0 0 (seen_at w) 2 al) in
        let judged = judged_alike v (steps 2 s).at (steps 2 t).at x (probed_loop_test c x.node w) q i in
        let j = part_typed c (in_loop e) d v (step u) (step (tested (steps 2 t).at q)) is.1 (none_second (node_mark a) (stmt_mark d) m) (test_known (steps 2 s).at a (steps 2 s) is.0 h before) (none_second (node_mark x.node) (stmt_mark y.stmt) n) clean few (steps_alike 0 0 (seen_at v) 1 judged) in
        record { form = ap₂ while i.node j.stmt; state = j.state }
    body_typed c e p (do_while d a) w s t is m h n clean few al =
        let y = type_stmt (in_loop e) d (step s) in
        let u = steps 2 y.state in
        let x = type_node a u in
        let v = walk_part tables c y.stmt w in
        let v' = walk_loop_test c x.node v in
        let late = back (test_grows u.at a u) clean in
        let few_v : HasFewItems v = few_before (loop_test_on c x.node v) few in
        let r = type_stmt (in_loop e) (probed_stmt tables c true y.stmt w) (step t) in
        let j = part_typed c (in_loop e) d w (step s) (step t) is.0 (none_first (stmt_mark d) (node_mark a) m) h (none_first (stmt_mark y.stmt) (node_mark x.node) n) late few_v (steps_alike 0 0 (seen_at w) 1 al) in
        let behind = (stmt_fits (in_loop e) d (step s) is.0 (none_first (stmt_mark y.stmt) (node_mark x.node) n) h late).0.0 in
        let same : probed_loop_test c x.node v ≡ probed_loop_test c x.node (walk_part tables c y.stmt w) = refl in
        let q = type_node (probed_loop_test c x.node v) (steps 2 r.state) in
        let i = loop_here c a u (steps 2 r.state) v is.1 (none_second (stmt_mark d) (node_mark a) m) behind u.at (steps 2 r.state).at clean few (steps_alike 0 0 (seen_at v) 2 j.state) in
        let judged = judged_alike v' u.at (steps 2 r.state).at x (probed_loop_test c x.node v) q i in
        record { form = ap₂ do_while j.stmt i.node; state = steps_alike 0 0 (seen_at v') 2 judged }
    body_typed c e p (for a d f g) w s t is m h n clean few al =
        let x = type_maybe a (steps 2 s) in
        let y = type_test d (step x.state) in
        let z = type_maybe f (step y.state) in
        let b = type_stmt (in_loop e) g (step z.state) in
        let v = walk_maybe c x.node w in
        let v' = walk_maybe_test c y.node v in
        let v'' = walk_step c z.node v' in
        let stepped = back (stmt_grows (in_loop e) g (step z.state)) clean in
        let tried = back (maybe_grows f (step y.state)) stepped in
        let begun = back (maybe_test_grows d (step x.state)) tried in
        let few_z : HasFewItems v'' = few_before (part_on tables c b.stmt v'') few in
        let few_y : HasFewItems v' = few_before (step_on c z.node v') few_z in
        let few_x : HasFewItems v = few_before (maybe_test_on c y.node v) few_y in
        let m1 = none_second (maybe_mark a) (first (maybe_mark d) (first (maybe_mark f) (stmt_mark g))) m in
        let m2 = none_second (maybe_mark d) (first (maybe_mark f) (stmt_mark g)) m1 in
        let n1 = none_second (maybe_mark x.node) (first (maybe_mark y.node) (first (maybe_mark z.node) (stmt_mark b.stmt))) n in
        let n2 = none_second (maybe_mark y.node) (first (maybe_mark z.node) (stmt_mark b.stmt)) n1 in
        let one = maybes_typed false c 0 a w (steps 2 s) (steps 2 t) is.0 (none_first (maybe_mark a) (first (maybe_mark d) (first (maybe_mark f) (stmt_mark g))) m) h begun few_x (steps_alike 0 0 (seen_at w) 2 al) in
        let x' = type_maybe (probed_maybe c x.node w) (steps 2 t) in
        let known = maybe_known a (steps 2 s) is.0 h begun in
        let two = maybe_tests_typed false c 0 d v (step x.state) (step x'.state) is.1 (none_first (maybe_mark d) (first (maybe_mark f) (stmt_mark g)) m1) known tried few_y (steps_alike 0 0 (seen_at v) 1 one.state) in
        let y' = type_test (probed_maybe_test c y.node v) (step x'.state) in
        let known' = maybe_test_known d (step x.state) is.1 known tried in
        let there = steps_typed false c 0 f v' (step y.state) (step y'.state) is.2 (none_first (maybe_mark f) (stmt_mark g) m2) known' stepped few_z (steps_alike 0 0 (seen_at v') 1 two.state) in
        let z' = type_maybe (probed_step c z.node v') (step y'.state) in
        let known'' = maybe_known f (step y.state) is.2 known' stepped in
        let four = part_typed c (in_loop e) g v'' (step z.state) (step z'.state) is.3 (none_second (maybe_mark f) (stmt_mark g) m2) known'' (none_second (maybe_mark z.node) (stmt_mark b.stmt) n2) clean few (steps_alike 0 0 (seen_at v'') 1 there.state) in
        record { form = three (λ i j k. for i j k (type_stmt (in_loop e) (probed_stmt tables c true b.stmt v'') (step z'.state)).stmt) one.node two.node there.node ∙ ap (for (probed_maybe c x.node w) (probed_maybe_test c y.node v) (probed_step c z.node v')) four.stmt; state = four.state }
    body_typed c e p (switch a items) w s t is m h n clean few al =
        let x = type_node a (steps 2 s) in
        let r = switched x in
        let u = rule r (steps 2 s).at (pos_in x.node) x.state in
        let o = Some (no_labels r) in
        let y = type_items (in_switch e) o items (steps 2 u) in
        let d = with_decision (pos_of x.node) (cases (case_values (choosing x.node) y.items)) w in
        let v = walk_choice c x.node y.items w in
        let few_v : HasFewItems v = few_before (items_on tables c false y.items v) few in
        let few_d : HasFewItems d = few_before (node_on (inside c w) Read x.node d) few_v in
        let late = back (items_grow (in_switch e) o items (steps 2 u)) clean in
        let early = back (rule_grows r (steps 2 s).at (pos_in x.node) x.state) late in
        let begun = steps_alike 0 0 (seen_at w) 2 al in
        let q = probed_choice c x.node y.items w in
        let z = type_node q (steps 2 t) in
        let i = choices.choice_alike 0 0 (seen_at v) e p a items s is h n clean c w (steps 2 t) (few_decisions (pos_of x.node) (cases (case_values (choosing x.node) y.items)) w few_d) begun
        (λ b be. let j = reads_typed a (steps 2 s) is.0 (none_first (node_mark a) (items_mark items) m) h early Neither (inside c w) d few_v b be in (j.node, j.sort, j.state)) in
        let same : promoted_type z.sort.kind ≡ promoted_type x.sort.kind = ap (λ k. promoted_type k.kind) i.1 in
        let judged = switched_alike 0 0 (seen_at v) (steps 2 s).at (steps 2 t).at x z same i.2 in
        let u' = rule (switched z) (steps 2 t).at (pos_in z.node) z.state in
        let known = (rule_goes r (steps 2 s).at (pos_in x.node) x.state (known_behind a (steps 2 s) is.0 h early)).0 in
        let labelled : Some (no_labels (switched z)) ≡ o = ap (λ k. Some (no_labels (by 33 k))) same in
        let j = items_typed c (in_switch e) o (Some (no_labels (switched z))) false items v (steps 2 u) (steps 2 u') labelled is.1 (none_second (node_mark a) (items_mark items) m) known (none_second (node_mark x.node) (items_mark y.items) n) clean few (steps_alike 0 0 (seen_at v) 2 judged) in
        record { form = ap₂ switch i.0 j.items; state = steps_alike 0 0 (seen_at (walk_items tables c false y.items v)) 1 j.state }
    body_typed c e p break w s t is m h n clean few al = record { form = refl; state = steps_alike 0 0 (seen_at w) 2 (demand_alike 0 0 (seen_at w) e.breakable 37 s.at t.at p al) }
    body_typed c e p continue w s t is m h n clean few al = record { form = refl; state = steps_alike 0 0 (seen_at w) 2 (demand_alike 0 0 (seen_at w) e.loop 37 s.at t.at p al) }
    body_typed c e p (return a) w s t is m h n clean few al =
        let x = type_result s.at p e.result a (step s) in
        let i = results_typed false c s.at t.at p e.result 0 a w (step s) (step t) is m h clean few (steps_alike 0 0 (seen_at w) 1 al) in
        record { form = ap return i.node; state = steps_alike 0 0 (seen_at (walk_maybe c x.node w)) 1 i.state }

    pub compound_typed : (c : Around) (e : Surroundings) (b : CompoundShape) (w : Walked) (s t : State) → ShapedCompound b → compound_mark b ≡ None → Knows false s → (
        let x = type_compound e b s in
        let p = probed_compound tables c x.compound w in
        let v = walk_compound tables c x.compound w in
        compound_mark x.compound ≡ None → IsClean x.state → HasFewItems v → Follows w s t → IsCompoundTypedAs v x p (type_compound e p t))
    compound_typed c e (braces p ds items) w s t is m h n clean few al =
        let d = type_decls ds (step s) in
        let y = type_items e None items d.state in
        let v = walk_decls tables c d.decls w in
        let few_v : HasFewItems v = few_before (items_on tables c false y.items v) few in
        let late = back (items_grow e None items d.state) clean in
        let ps = probed_decls tables c d.decls w in
        let i = declared tables c ds w (step s) (step t) is.0 (none_first (decls_mark ds) (items_mark items) m) h (none_first (decls_mark d.decls) (items_mark y.items) n) late few_v (steps_alike 0 0 (seen_at w) 1 al) in
        let known = (decls_fit ds (step s) is.0 (none_first (decls_mark d.decls) (items_mark y.items) n) h late).0.0 in
        let j = items_typed c e None None false items v d.state (type_decls ps (step t)).state refl is.1 (none_second (decls_mark ds) (items_mark items) m) known (none_second (decls_mark d.decls) (items_mark y.items) n) clean few i.state in
        record { compound = ap₂ (braces p) i.decls j.items; state = steps_alike 0 0 (seen_at (walk_items tables c false y.items v)) 1 j.state }

    items_typed : (c : Around) (e : Surroundings) (o o' : Option Labels) (after : Bool) (items : ItemShapes) (w : Walked) (s t : State) → o' ≡ o → ShapedItems items → items_mark items ≡ None → Knows false s → (
        let x = type_items e o items s in
        let ps = probed_items tables c after x.items w in
        let v = walk_items tables c after x.items w in
        items_mark x.items ≡ None → IsClean x.state → HasFewItems v → Follows w s t → AreItemsTypedAs v x ps (type_items e o' ps t))
    items_typed c e o o' after no_items w s t same is m h n clean few al = record { items = refl; state = al }
    items_typed c e o o' after (more_items labels a rest) w s t same is m h n clean few al =
        let l = type_labels o labels s in
        let x = type_stmt e a l.state in
        let y = type_items e l.so_far rest x.state in
        let b = after || is_labelled l.labels in
        let u = walk_stmt tables c x.stmt (with_block_if b (pos_of_stmt x.stmt) w) in
        let late = back (items_grow e l.so_far rest x.state) clean in
        let early = back (stmt_grows e a l.state) late in
        let few_u : HasFewItems u = few_before (items_on tables c (splits x.stmt) y.items u) few in
        let ms = none_second (labels_mark labels) (first (stmt_mark a) (items_mark rest)) m in
        let ns = none_second (labels_mark l.labels) (first (stmt_mark x.stmt) (items_mark y.items)) n in
        let l' = type_labels o' l.labels t in
        let one = labels_again_alike o o' labels s t w same (none_first (labels_mark l.labels) (first (stmt_mark x.stmt) (items_mark y.items)) n) al in
        let known = (labels_go o labels s is.0 h early).0 in
        let p = probed_stmt tables c b x.stmt w in
        let x' = type_stmt e p l'.state in
        let two = stmt_typed c e b a w l.state l'.state is.1 (none_first (stmt_mark a) (items_mark rest) ms) known (none_first (stmt_mark x.stmt) (items_mark y.items) ns) late few_u one.state in
        let known' = (stmt_fits e a l.state is.1 (none_first (stmt_mark x.stmt) (items_mark y.items) ns) known late).0.0 in
        let there = items_typed c e l.so_far l'.so_far (splits x.stmt) rest u x.state x'.state one.so_far is.2 (none_second (stmt_mark a) (items_mark rest) ms) known' (none_second (stmt_mark x.stmt) (items_mark y.items) ns) clean few two.state in
        record { items = three more_items one.labels two.stmt there.items; state = there.state }
