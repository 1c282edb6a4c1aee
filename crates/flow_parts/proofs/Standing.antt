-- Each definition, use and outcome that a walk has is of an item that is counted in the function of the walk.
use Rattle.std.proofs.Common.{◌≡◌, ◌⊎◌, ℕ, zero, suc, ◌+◌, ◌≤◌, ◌||◌, List, [], ◌∷◌, Bool, true, false, Option, Some, None, inl, inr, refl, sym, subst, arith}
use Rattle.std.specs.Prelude.{length, Contains}
use Rattle.std.proofs.lemmas.List.Elements.{Contains-push_cases, Contains-append_cases}
use Rattle.c_base.specs.declared.place.Pos.{Pos}
use Rattle.c_base.specs.declared.labels.OutcomeLabel.{OutcomeLabel}
use Rattle.c_syntax.specs.declared.tree.Named.{Named}
use Rattle.c_syntax.specs.Shape.{NoteShape, bare, known, typed, unary, before, size_of, plain, and, or, assign, comma, NodeShape, node, ExprShape, leaf, paren, call, prefix, size_of_type, cast, suffix, two, choose, probe, index, field, behind, NodeShapes, no_nodes, more_nodes, MaybeNode, no_node, one_node, DeclShape, decl, DeclShapes, no_decls, more_decls, DeclaratorShape, declarator, DeclaratorShapes, no_declarators, more_declarators, DeclFormShape, arrays, function, empty, void, params, MaybeInit, no_init, one_init, InitShape, one, listed, LabelShape, case, default, StmtShape, stmt, FormShape, compound, simply, when, either, while, do_while, for, switch, break, continue, return, CompoundShape, braces, ItemShapes, no_items, more_items, ExternalShape, defined, declared}
use Rattle.c_tables.specs.Tables.{TablesShape}
use Rattle.c_tables.specs.Rows.{row, text_of}
use Rattle.c_walk.specs.Items.{Outcomes, both, only_true, only_false, cases, labels, Item}
use Rattle.c_walk.specs.declared.around.Around.{Around}
use Rattle.c_walk.specs.declared.around.Taken.{Taken}
use Rattle.c_walk.specs.declared.around.Taken.TheVariants.{Read, Written, Changed, Copied, Addressed}
use Rattle.c_walk.specs.Tests.{is_logical, is_logical_form, outcomes, outcomes_of_form, choosing, case_values}
use Rattle.c_walk.specs.Counted.{next_def, next_use}
use Rattle.c_walk.specs.Walked.{Walked, operand_taken, left_taken, right_taken, with_block, with_block_if, with_decision, with_test, with_site, next_decision, inside, inside_test, pos_of}
use Rattle.c_walk.specs.Walking.{walk_node, walk_form, walk_test, walk_arm, walk_nodes, walk_maybe, walk_loop_test, walk_maybe_test, walk_step}
use Rattle.c_walk.specs.Stating.{with_variable, with_whole_def, walk_declarator, walk_declarators, walk_decl, walk_decls, walk_init, walk_maybe_init, pos_of_stmt, splits, is_labelled, case_count, has_default, walk_choice, walk_stmt, walk_body, walk_part, walk_compound, walk_items}
use Rattle.c_walk.specs.Units.{define_declarator, define_declarators, define_decl, define_decls, define_parameters, function_of, in_function, walk_function, walk_external, walk_externals}
use Rattle.flow_walks.specs.declared.action.Action.{Action}
use Rattle.flow_walks.specs.declared.action.Action.TheVariants.{Define, Use, Block, Test, Kill, Nothing}
use Rattle.flow_walks.specs.Comes.{Met, act, enter, leave, Comes, ends, emit, emit_if, choice, turns, loop, Ways, value, test, true_way, false_way, decided, evaluated}
use Rattle.flow_walks.specs.Comes as set
use Rattle.flow_walks.specs.Expressions.{holds_scalar, changed_at, is_defined, entered, node_goes, form_goes, test_goes, arm_goes, nodes_go, maybe_goes, loop_test_goes, step_goes}
use Rattle.flow_walks.specs.Statements.{init_goes, maybe_init_goes, declarator_goes, declarators_go, decl_goes, decls_go, Exits, in_loop, in_switch, then_goes, cases_go, stmt_goes, body_goes, part_goes, compound_goes, items_go, at_cases, at_default}
use Rattle.flow_walks.specs.Walks.{parameter_goes, parameters_of, parameter_line, parameter_lines, parameters_go, body_exits, function_goes, external_goes, externals_go, actions}
use Rattle.flow_parts.proofs.Grown.{grows_on, Counts, counts_on, block_grows, block_if_grows, decision_grows, test_item_grows, whole_grows, site_grows, node_grows, form_grows, test_grows, arm_grows, nodes_grow, maybe_grows, loop_test_grows, maybe_test_grows, step_grows, declarator_grows, declarators_grow, decl_grows, decls_grow, choice_grows, stmt_grows, part_grows, compound_grows, items_grow, define_grows, defines_grow, define_decl_grows, define_decls_grow, parameters_grow, external_grows, externals_grow}
use Rattle.flow_parts.proofs.Outcomes.{Tested, Tests, IsPlain, plain_outcomes, two_outcomes, case_outcomes, all_cases, cases_counted, Under}
use Rattle.flow_parts.proofs.Counted.{is_left, inside_own, Defined, Used, Front, sooner, test_here, read_here, written_here, changed_here, whole_here, unlogical}

module _ (all : List Item) (here : ℕ) where
  -- ---- lists of which each action is of such an item

  abbrev pub IsFit : Met → Type 0
  IsFit (act (Define d)) = Defined all here d
  IsFit (act (Use u)) = Used all here u
  IsFit (act (Block k)) = Unit {0}
  IsFit (act (Test k o)) = Tested all k o
  IsFit (act (Kill v)) = Unit {0}
  IsFit (act Nothing) = Unit {0}
  IsFit (enter f) = Unit {0}
  IsFit leave = Unit {0}

  abbrev pub Fit : List Met → Type 0
  Fit [] = Unit {0}
  Fit (a ∷ w) = IsFit a × Fit w

  abbrev pub Fits : Comes → Type 0
  Fits k = (w : List Met) → k w → Fit w

  emit_fit : (a : Met) (k : Comes) → IsFit a → Fits k → Fits (emit a k)
  emit_fit a k q h [] p = tt
  emit_fit a k q h (b ∷ w) p = (subst IsFit (sym p.0) q, h w p.1)

  defined_fit : (b : Bool) (n : ℕ) (k : Comes) → (b ≡ true → Defined all here n) → Fits k → Fits (emit_if b (act (Define n)) k)
  defined_fit true n k q h = emit_fit (act (Define n)) k (q refl) h
  defined_fit false n k q h = h

  used_fit : (b : Bool) (n : ℕ) (k : Comes) → (b ≡ true → Used all here n) → Fits k → Fits (emit_if b (act (Use n)) k)
  used_fit true n k q h = emit_fit (act (Use n)) k (q refl) h
  used_fit false n k q h = h

  block_fit : (n : ℕ) (k : Comes) → Fits k → Fits (emit (act (Block n)) k)
  block_fit n k h = emit_fit (act (Block n)) k tt h

  block_if_fit : (b : Bool) (n : ℕ) (k : Comes) → Fits k → Fits (emit_if b (act (Block n)) k)
  block_if_fit true n k h = block_fit n k h
  block_if_fit false n k h = h

  test_fit : (d o : ℕ) (k : Comes) → Tested all d o → Fits k → Fits (emit (act (Test d o)) k)
  test_fit d o k q h = emit_fit (act (Test d o)) k q h

  enter_fit : (b : Bool) (f : ℕ) (k : Comes) → Fits k → Fits (emit_if b (enter f) k)
  enter_fit true f k h = emit_fit (enter f) k tt h
  enter_fit false f k h = h

  either_fit : (j k : Comes) → Fits j → Fits k → Fits (set.either j k)
  either_fit j k g h w (inl p) = g w p
  either_fit j k g h w (inr p) = h w p

  choice_fit : (b : Bool) (j k : Comes) → Fits j → Fits k → Fits (choice b j k)
  choice_fit true j k g h = g
  choice_fit false j k g h = h

  ends_fit : Fits ends
  ends_fit [] p = tt
  ends_fit (a ∷ w) p = absurd p

  turns_fit : (n : ℕ) (once : Comes → Comes) → ((k : Comes) → Fits k → Fits (once k)) → Fits (turns n once)
  turns_fit zero once h = ends_fit
  turns_fit (suc n) once h = h (turns n once) (turns_fit n once h)

  loop_fit : (once : Comes → Comes) → ((k : Comes) → Fits k → Fits (once k)) → Fits (loop once)
  loop_fit once h w p = turns_fit p.0 once h w p.1

  -- behind an expression, which is `&&` or `||` or may come to these outcomes
  record FitWays (logical : Bool) (os : Outcomes) (M : Ways) : Type 0 where
    true_fit : Fits (true_way M)
    false_fit : Fits (false_way M)
    evaluated_fit : logical ≡ false → (o : Outcomes) → Under o os → Fits (evaluated o M)

  decided_fit : (os o : Outcomes) (d : ℕ) (j k : Comes) → Under o os → IsPlain os → ((n : ℕ) → (l : OutcomeLabel) × Contains (labels os) (n, l) → Tested all d n) → Fits j → Fits k → Fits (decided o d j k)
  decided_fit os both d j k u p t g h = let q = two_outcomes os both u p in either_fit _ _ (test_fit d 1 j (t 1 (q.0)) g) (test_fit d 2 k (t 2 (q.1)) h)
  decided_fit os only_true d j k u p t g h = test_fit d 1 j (t 1 (two_outcomes os only_true u p)) g
  decided_fit os only_false d j k u p t g h = test_fit d 2 k (t 2 (two_outcomes os only_false u p)) h
  decided_fit os (cases vs) d j k u p t g h = let q = two_outcomes os (cases vs) u p in either_fit _ _ (test_fit d 1 j (t 1 (q.0)) g) (test_fit d 2 k (t 2 (q.1)) h)

  ways_value : (b : Bool) (os : Outcomes) (k : Comes) → Fits k → FitWays b os (value k)
  ways_value b os k h = record { true_fit = h; false_fit = h; evaluated_fit = λ e o u. h }

  changed_fit : (c : Around) → c.function ≡ here → (r : Taken) (a : NodeShape) (s : Walked) (k : Comes) → Front all here (walk_node c r a s) → Fits k → Fits (changed_at r a s k)
  changed_fit c own Changed a s k f h = used_fit (holds_scalar a) (next_use s) k (λ e. changed_here all here c own a s f e) h
  changed_fit c own Read a s k f h = h
  changed_fit c own Written a s k f h = h
  changed_fit c own Copied a s k f h = h
  changed_fit c own Addressed a s k f h = h

  entered_fit : (t : TablesShape) (n : NoteShape) (k : Comes) → Fits k → Fits (entered t n k)
  entered_fit t (typed y (Some f)) k h = enter_fit (is_defined (row t.functions f)) f k h
  entered_fit t (typed y None) k h = h
  entered_fit t bare k h = h
  entered_fit t (known y v) k h = h

  -- a test: its decision is counted, but for `&&` and `||`
  ways_test : (c : Around) (p : Pos) (f : ExprShape) (s : Walked) (j k : Comes) → Counts s → Front all here (with_test p f s) → Fits j → Fits k → FitWays (is_logical_form f) (outcomes_of_form f) (test (next_decision s) j k)
  ways_test c p f s j k l h g i = record {
    true_fit = g;
    false_fit = i;
    evaluated_fit = λ e o u. decided_fit (outcomes_of_form f) o (next_decision s) j k u (plain_outcomes f) (λ n m. test_here all here p (outcomes_of_form f) n s l (unlogical all here (is_logical_form f) s (with_decision p (outcomes_of_form f) s) e h) m) g i;
  }

  -- ---- expressions

  module _ (t : TablesShape) where
    mutual
      node_fits : (c : Around) → c.function ≡ here → (r : Taken) (a : NodeShape) (s : Walked) (M : Ways) → Counts s → Front all here (walk_node c r a s) → FitWays (is_logical a) (outcomes a) M → Fits (node_goes t c r a s M)
      node_fits c own r (node p o n f) s M l h m = form_fits c own r p n f s M l h m

      form_fits : (c : Around) → c.function ≡ here → (r : Taken) (p : Pos) (n : NoteShape) (f : ExprShape) (s : Walked) (M : Ways) → Counts s → Front all here (walk_form c r f (with_site c r p n f s)) → FitWays (is_logical_form f) (outcomes_of_form f) M → Fits (form_goes t c r p n f s M)
      form_fits c own r p n (leaf x) s M l h m = used_fit _ _ _ (read_here all here c own r p n (leaf x) s h) (m.evaluated_fit refl _ (inl refl))
      form_fits c own r p n (paren a) s M l h m = node_fits c own r a s M l h m
      form_fits c own r p n (probe q a) s M l h m = node_fits c own r a s M l h (record { true_fit = m.true_fit; false_fit = m.false_fit; evaluated_fit = λ e o u. m.evaluated_fit refl o (inr refl) })
      form_fits c own r p n (call x args) s M l h m = nodes_fit c own args s _ l h (entered_fit t n _ (m.evaluated_fit refl both (inl refl)))
      form_fits c own r p n (prefix (unary q) a) s M l h m =
          value_fits c own (operand_taken q) a (with_site c r p n (prefix (unary q) a) s) _ (counts_on (site_grows c r p n (prefix (unary q) a) s) l) h (used_fit _ _ _ (read_here all here c own r p n (prefix (unary q) a) s (sooner all here (node_grows c (operand_taken q) a (with_site c r p n (prefix (unary q) a) s)) h)) (m.evaluated_fit refl both (inl refl)))
      form_fits c own r p n (prefix (before q) a) s M l h m = value_fits c own Changed a s _ l h (used_fit _ _ _ (changed_here all here c own a s h) (defined_fit _ _ _ (written_here all here c own Changed a s h refl) (m.evaluated_fit refl both (inl refl))))
      form_fits c own r p n (prefix size_of a) s M l h m = m.evaluated_fit refl both (inl refl)
      form_fits c own r p n (size_of_type y) s M l h m = m.evaluated_fit refl both (inl refl)
      form_fits c own r p n (cast y a) s M l h m = value_fits c own Read a s _ l h (m.evaluated_fit refl both (inl refl))
      form_fits c own r p n (suffix a (index b)) s M l h m =
          let j = with_site c r p n (suffix a (index b)) s in
          let k = walk_node c Read a j in
          let lj = counts_on (site_grows c r p n (suffix a (index b)) s) l in
          value_fits c own Read a j _ lj (sooner all here (node_grows c Read b k) h) (value_fits c own Read b k _ (counts_on (node_grows c Read a j) lj) h (used_fit _ _ _ (read_here all here c own r p n (suffix a (index b)) s (sooner all here (node_grows c Read a j) (sooner all here (node_grows c Read b k) h))) (m.evaluated_fit refl both (inl refl))))
      form_fits c own r p n (suffix a (field g x q)) s M l h m =
          value_fits c own Read a (with_site c r p n (suffix a (field g x q)) s) _ (counts_on (site_grows c r p n (suffix a (field g x q)) s) l) h (used_fit _ _ _ (read_here all here c own r p n (suffix a (field g x q)) s (sooner all here (node_grows c Read a (with_site c r p n (suffix a (field g x q)) s)) h)) (m.evaluated_fit refl both (inl refl)))
      form_fits c own r p n (suffix a (behind q)) s M l h m = value_fits c own Changed a s _ l h (used_fit _ _ _ (changed_here all here c own a s h) (defined_fit _ _ _ (written_here all here c own Changed a s h refl) (m.evaluated_fit refl both (inl refl))))
      form_fits c own r p n (two (plain q) a b) s M l h m =
          let k = walk_node c Read a s in
          value_fits c own Read a s _ l (sooner all here (node_grows c Read b k) h) (value_fits c own Read b k _ (counts_on (node_grows c Read a s) l) h (m.evaluated_fit refl both (inl refl)))
      form_fits c own r p n (two comma a b) s M l h m =
          let k = walk_node c Read a s in
          value_fits c own Read a s _ l (sooner all here (node_grows c Read b k) h) (value_fits c own Read b k _ (counts_on (node_grows c Read a s) l) h (m.evaluated_fit refl both (inl refl)))
      form_fits c own r p n (two and a b) s M l h m =
          let j = walk_test c a s in
          let k = with_block (pos_of b) j in
          let lk = counts_on (grows_on (test_grows c a s) (block_grows (pos_of b) j)) l in
          test_fits c own a s _ _ l (sooner all here (grows_on (block_grows (pos_of b) j) (test_grows c b k)) h) (block_fit _ _ (test_fits c own b k _ _ lk h m.true_fit m.false_fit)) m.false_fit
      form_fits c own r p n (two or a b) s M l h m =
          let j = walk_test c a s in
          let k = with_block (pos_of b) j in
          let lk = counts_on (grows_on (test_grows c a s) (block_grows (pos_of b) j)) l in
          test_fits c own a s _ _ l (sooner all here (grows_on (block_grows (pos_of b) j) (test_grows c b k)) h) m.true_fit (block_fit _ _ (test_fits c own b k _ _ lk h m.true_fit m.false_fit))
      form_fits c own r p n (two (assign q) a b) s M l h m =
          let k = walk_node c (left_taken q) a s in
          let hk = sooner all here (node_grows c (right_taken q a) b k) h in
          value_fits c own (left_taken q) a s _ l hk (changed_fit c own (left_taken q) a s _ hk
          (value_fits c own (right_taken q a) b k _ (counts_on (node_grows c (left_taken q) a s) l) h (defined_fit _ _ _ (written_here all here c own (left_taken q) a s hk (is_left q)) (m.evaluated_fit refl both (inl refl)))))
      form_fits c own r p n (choose a b d) s M l h m =
          let j = walk_test c a s in
          let k = walk_arm c b j in
          let lj = counts_on (test_grows c a s) l in
          let hk = sooner all here (arm_grows c d k) h in
          test_fits c own a s _ _ l (sooner all here (arm_grows c b j) hk) (arm_fits c own b j _ lj hk (m.evaluated_fit refl both (inl refl))) (arm_fits c own d k _ (counts_on (arm_grows c b j) lj) h (m.evaluated_fit refl both (inl refl)))

      value_fits : (c : Around) → c.function ≡ here → (r : Taken) (a : NodeShape) (s : Walked) (k : Comes) → Counts s → Front all here (walk_node c r a s) → Fits k → Fits (node_goes t c r a s (value k))
      value_fits c own r (node p o n f) s k l h g = form_fits c own r p n f s (value k) l h (ways_value (is_logical_form f) (outcomes_of_form f) k g)

      test_fits : (c : Around) → c.function ≡ here → (a : NodeShape) (s : Walked) (j k : Comes) → Counts s → Front all here (walk_test c a s) → Fits j → Fits k → Fits (test_goes t c a s j k)
      test_fits c own (node p o n f) s j k l h g i = form_fits (inside_test c f s) (inside_own here c f s own) Read p n f (with_test p f s) _ (counts_on (test_item_grows p f s) l) h (ways_test c p f s j k l (sooner all here (grows_on (site_grows (inside_test c f s) Read p n f (with_test p f s)) (form_grows (inside_test c f s) Read f (with_site (inside_test c f s) Read p n f (with_test p f s)))) h) g i)

      arm_fits : (c : Around) → c.function ≡ here → (a : NodeShape) (s : Walked) (k : Comes) → Counts s → Front all here (walk_arm c a s) → Fits k → Fits (arm_goes t c a s k)
      arm_fits c own (node p o n f) s k l h g = block_fit _ _ (form_fits c own Read p n f (with_block p s) (value k) (counts_on (block_grows p s) l) h (ways_value (is_logical_form f) (outcomes_of_form f) k g))

      nodes_fit : (c : Around) → c.function ≡ here → (args : NodeShapes) (s : Walked) (k : Comes) → Counts s → Front all here (walk_nodes c args s) → Fits k → Fits (nodes_go t c args s k)
      nodes_fit c own no_nodes s k l h g = g
      nodes_fit c own (more_nodes a rest) s k l h g =
          let j = walk_node c Read a s in
          value_fits c own Read a s _ l (sooner all here (nodes_grow c rest j) h) (nodes_fit c own rest j k (counts_on (node_grows c Read a s) l) h g)

    maybe_fits : (c : Around) → c.function ≡ here → (a : MaybeNode) (s : Walked) (k : Comes) → Counts s → Front all here (walk_maybe c a s) → Fits k → Fits (maybe_goes t c a s k)
    maybe_fits c own no_node s k l h g = g
    maybe_fits c own (one_node a) s k l h g = value_fits c own Read a s k l h g

    loop_test_fits : (c : Around) → c.function ≡ here → (a : MaybeNode) (s : Walked) (j k : Comes) → Counts s → Front all here (walk_maybe_test c a s) → Fits j → Fits k → Fits (loop_test_goes t c a s j k)
    loop_test_fits c own no_node s j k l h g i = g
    loop_test_fits c own (one_node a) s j k l h g i = block_fit _ _ (test_fits c own a (with_block (pos_of a) s) j k (counts_on (block_grows (pos_of a) s) l) h g i)

    step_fits : (c : Around) → c.function ≡ here → (a : MaybeNode) (s : Walked) (k : Comes) → Counts s → Front all here (walk_step c a s) → Fits k → Fits (step_goes t c a s k)
    step_fits c own no_node s k l h g = g
    step_fits c own (one_node a) s k l h g = arm_fits c own a s k l h g

    -- ---- declarations

    init_fits : (c : Around) → c.function ≡ here → (x : Option Named) (i : InitShape) (s : Walked) (k : Comes) → Counts s → Front all here (walk_init c i (with_whole_def t c.function x s)) → Fits k → Fits (init_goes t c x i s k)
    init_fits c own x (one a) s k l h g =
        let j = with_whole_def t c.function x s in
        value_fits c own Read a j _ (counts_on (whole_grows t c.function x s) l) h (emit_fit (act (Define (next_def s))) k (whole_here all here t c.function x s own (sooner all here (node_grows c Read a j) h)) g)
    init_fits c own x (listed p items last) s k l h g = emit_fit (act (Define (next_def s))) k (whole_here all here t c.function x s own h) g

    maybe_init_fits : (c : Around) → c.function ≡ here → (x : Option Named) (i : MaybeInit) (s : Walked) (k : Comes) → Counts s → Front all here (walk_maybe_init t c x i s) → Fits k → Fits (maybe_init_goes t c x i s k)
    maybe_init_fits c own x no_init s k l h g = g
    maybe_init_fits c own x (one_init i) s k l h g = init_fits c own x i s k l h g

    declarator_fits : (c : Around) → c.function ≡ here → (d : DeclaratorShape) (s : Walked) (k : Comes) → Counts s → Front all here (walk_declarator t c d s) → Fits k → Fits (declarator_goes t c d s k)
    declarator_fits c own (declarator stars x (arrays ls) i) s k l h g = emit_fit (act (Kill (with_variable s).variables)) _ tt (maybe_init_fits c own x i (with_variable s) k l h g)
    declarator_fits c own (declarator stars x (function ps) i) s k l h g = g

    declarators_fit : (c : Around) → c.function ≡ here → (ds : DeclaratorShapes) (s : Walked) (k : Comes) → Counts s → Front all here (walk_declarators t c ds s) → Fits k → Fits (declarators_go t c ds s k)
    declarators_fit c own no_declarators s k l h g = g
    declarators_fit c own (more_declarators d rest) s k l h g =
        let j = walk_declarator t c d s in
        declarator_fits c own d s _ l (sooner all here (declarators_grow t c rest j) h) (declarators_fit c own rest j k (counts_on (declarator_grows t c d s) l) h g)

    decl_fits : (c : Around) → c.function ≡ here → (d : DeclShape) (s : Walked) (k : Comes) → Counts s → Front all here (walk_decl t c d s) → Fits k → Fits (decl_goes t c d s k)
    decl_fits c own (decl p specs names) s k l h g = declarators_fit c own names s k l h g

    decls_fit : (c : Around) → c.function ≡ here → (ds : DeclShapes) (s : Walked) (k : Comes) → Counts s → Front all here (walk_decls t c ds s) → Fits k → Fits (decls_go t c ds s k)
    decls_fit c own no_decls s k l h g = g
    decls_fit c own (more_decls d rest) s k l h g =
        let j = walk_decl t c d s in
        decl_fits c own d s _ l (sooner all here (decls_grow t c rest j) h) (decls_fit c own rest j k (counts_on (decl_grows t c d s) l) h g)

    -- ---- statements

    pub record FitExits (x : Exits) : Type 0 where
      pub next_fit : Fits x.next
      pub broken_fit : Fits x.broken
      pub continued_fit : Fits x.continued
      pub returned_fit : Fits x.returned

    exits_loop : (k : Comes) (x : Exits) → Fits k → FitExits x → FitExits (in_loop k x)
    exits_loop k x h m = record { next_fit = h; broken_fit = m.next_fit; continued_fit = h; returned_fit = m.returned_fit }

    exits_switch : (x : Exits) → FitExits x → FitExits (in_switch x)
    exits_switch x m = record { next_fit = m.next_fit; broken_fit = m.next_fit; continued_fit = m.continued_fit; returned_fit = m.returned_fit }

    exits_then : (k : Comes) (x : Exits) → Fits k → FitExits x → FitExits (then_goes k x)
    exits_then k x h m = record { next_fit = h; broken_fit = m.broken_fit; continued_fit = m.continued_fit; returned_fit = m.returned_fit }

    cases_fit : (d n o : ℕ) (ls : List LabelShape) (j k : Comes) → Tests all d n → 1 ≤ o → o + case_count ls ≤ n → Fits j → Fits k → Fits (cases_go d o ls j k)
    cases_fit d n o [] j k t a b g h = h
    cases_fit d n o (case p e ∷ ls) j k t a b g h = either_fit _ _ (test_fit d o j (t o a (omega (arith, b))) g) (cases_fit d n (suc o) ls j k t (omega arith) (omega (arith, b)) g h)
    cases_fit d n o (default p ∷ ls) j k t a b g h = cases_fit d n o ls j k t a b g h

    mutual
      stmt_fits : (c : Around) → c.function ≡ here → (a : StmtShape) (s : Walked) (x : Exits) → Counts s → Front all here (walk_stmt t c a s) → FitExits x → Fits (stmt_goes t c a s x)
      stmt_fits c own (stmt p marks q f) s x l h m = body_fits c own f s x l h m

      body_fits : (c : Around) → c.function ≡ here → (f : FormShape) (s : Walked) (x : Exits) → Counts s → Front all here (walk_body t c f s) → FitExits x → Fits (body_goes t c f s x)
      body_fits c own (compound b) s x l h m = compound_fits c own b s x l h m
      body_fits c own (simply e) s x l h m = maybe_fits c own e s _ l h m.next_fit
      body_fits c own (when e a) s x l h m =
          let j = walk_test c e s in
          test_fits c own e s _ _ l (sooner all here (part_grows t c a j) h) (part_fits c own a j x (counts_on (test_grows c e s) l) h m) m.next_fit
      body_fits c own (either e a b) s x l h m =
          let j = walk_test c e s in
          let k = walk_part t c a j in
          let lj = counts_on (test_grows c e s) l in
          let hk = sooner all here (part_grows t c b k) h in
          test_fits c own e s _ _ l (sooner all here (part_grows t c a j) hk) (part_fits c own a j x lj hk m) (part_fits c own b k x (counts_on (part_grows t c a j) lj) h m)
      body_fits c own (while e a) s x l h m =
          let j = walk_loop_test c e s in
          loop_fit _ (λ k g. loop_test_fits c own (one_node e) s _ _ l (sooner all here (part_grows t c a j) h) (part_fits c own a j _ (counts_on (loop_test_grows c e s) l) h (exits_loop k x g m)) m.next_fit)
      body_fits c own (do_while a e) s x l h m =
          let j = walk_part t c a s in
          loop_fit _ (λ k g. part_fits c own a s _ l (sooner all here (loop_test_grows c e j) h) (exits_loop _ x (loop_test_fits c own (one_node e) j _ _ (counts_on (part_grows t c a s) l) h g m.next_fit) m))
      body_fits c own (for e f g a) s x l h m =
          let i = walk_maybe c e s in
          let j = walk_maybe_test c f i in
          let k = walk_step c g j in
          let li = counts_on (maybe_grows c e s) l in
          let lj = counts_on (maybe_test_grows c f i) li in
          let hk = sooner all here (part_grows t c a k) h in
          let hj = sooner all here (step_grows c g j) hk in
          maybe_fits c own e s _ l (sooner all here (maybe_test_grows c f i) hj)
          (loop_fit _ (λ n again. loop_test_fits c own f i _ _ li hj (part_fits c own a k _ (counts_on (step_grows c g j) lj) h (exits_loop _ x (step_fits c own g j n lj hk again) m)) m.next_fit))
      body_fits c own (switch e items) s x l h m =
          let vs = case_values (choosing e) items in
          let n = suc (length vs) in
          let d = with_decision (pos_of e) (cases vs) s in
          let j = walk_choice c e items s in
          let lj = counts_on (choice_grows c e items s) l in
          let hj = sooner all here (items_grow t c false items j) h in
          let tests : Tests all (next_decision s) n = λ o a b. test_here all here (pos_of e) (cases vs) o s l (sooner all here (node_grows (inside c s) Read e d) hj) (case_outcomes 1 vs o a (omega (arith, b))) in
          let size = cases_counted (choosing e) items in
          value_fits (inside c s) own Read e d _ (counts_on (decision_grows (pos_of e) (cases vs) s) l) hj
          (cases_at c own items (next_decision s) n 1 false j _ _ tests (omega arith) (omega (arith, size)) lj h (exits_switch x m) (test_fit _ _ _ (tests n (omega arith) (omega arith)) (default_at c own false items j _ lj h (exits_switch x m))))
      body_fits c own break s x l h m = m.broken_fit
      body_fits c own continue s x l h m = m.continued_fit
      body_fits c own (return e) s x l h m = maybe_fits c own e s _ l h m.returned_fit

      part_fits : (c : Around) → c.function ≡ here → (a : StmtShape) (s : Walked) (x : Exits) → Counts s → Front all here (walk_part t c a s) → FitExits x → Fits (part_goes t c a s x)
      part_fits c own (stmt p marks q f) s x l h m = block_fit _ _ (body_fits c own f (with_block p s) x (counts_on (block_grows p s) l) h m)

      compound_fits : (c : Around) → c.function ≡ here → (b : CompoundShape) (s : Walked) (x : Exits) → Counts s → Front all here (walk_compound t c b s) → FitExits x → Fits (compound_goes t c b s x)
      compound_fits c own (braces p ds items) s x l h m =
          let j = walk_decls t c ds s in
          decls_fit c own ds s _ l (sooner all here (items_grow t c false items j) h) (items_fit c own false items j x (counts_on (decls_grow t c ds s) l) h m)

      items_fit : (c : Around) → c.function ≡ here → (after : Bool) (items : ItemShapes) (s : Walked) (x : Exits) → Counts s → Front all here (walk_items t c after items s) → FitExits x → Fits (items_go t c after items s x)
      items_fit c own after no_items s x l h m = m.next_fit
      items_fit c own after (more_items labels a rest) s x l h m =
          let b = after || is_labelled labels in
          let j = with_block_if b (pos_of_stmt a) s in
          let k = walk_stmt t c a j in
          let lj = counts_on (block_if_grows b (pos_of_stmt a) s) l in
          block_if_fit b _ _ (stmt_fits c own a j _ lj (sooner all here (items_grow t c (splits a) rest k) h) (exits_then _ x (items_fit c own (splits a) rest k x (counts_on (stmt_grows t c a j) lj) h m) m))

      cases_at : (c : Around) → c.function ≡ here → (items : ItemShapes) (d n o : ℕ) (after : Bool) (s : Walked) (x : Exits) (i : Comes) → Tests all d n → 1 ≤ o → o + all_cases items ≤ n → Counts s → Front all here (walk_items t c after items s) → FitExits x → Fits i → Fits (at_cases t c d o after items s x i)
      cases_at c own no_items d n o after s x i u v z l h m g = g
      cases_at c own (more_items labels a rest) d n o after s x i u v z l h m g =
          let b = after || is_labelled labels in
          let j = with_block_if b (pos_of_stmt a) s in
          let k = walk_stmt t c a j in
          let lj = counts_on (block_if_grows b (pos_of_stmt a) s) l in
          let lk = counts_on (stmt_grows t c a j) lj in
          cases_fit d n o labels _ _ u v (omega (arith, z))
          (block_if_fit b _ _ (stmt_fits c own a j _ lj (sooner all here (items_grow t c (splits a) rest k) h) (exits_then _ x (items_fit c own (splits a) rest k x lk h m) m)))
          (cases_at c own rest d n (o + case_count labels) (splits a) k x i u (omega (arith, v)) (omega (arith, z)) lk h m g)

      default_at : (c : Around) → c.function ≡ here → (after : Bool) (items : ItemShapes) (s : Walked) (x : Exits) → Counts s → Front all here (walk_items t c after items s) → FitExits x → Fits (at_default t c after items s x)
      default_at c own after no_items s x l h m = m.next_fit
      default_at c own after (more_items labels a rest) s x l h m =
          let b = after || is_labelled labels in
          let j = with_block_if b (pos_of_stmt a) s in
          let k = walk_stmt t c a j in
          let lj = counts_on (block_if_grows b (pos_of_stmt a) s) l in
          let lk = counts_on (stmt_grows t c a j) lj in
          choice_fit (has_default labels) _ _
          (block_if_fit b _ _ (stmt_fits c own a j _ lj (sooner all here (items_grow t c (splits a) rest k) h) (exits_then _ x (items_fit c own (splits a) rest k x lk h m) m)))
          (default_at c own (splits a) rest k x lk h m)

    -- ---- functions

    parameter_fits : (f : ℕ) → f ≡ here → (d : DeclaratorShape) (s : Walked) (k : Comes) → Counts s → Front all here (define_declarator t f d s) → Fits k → Fits (parameter_goes t f d s k)
    parameter_fits f e (declarator stars x (arrays ls) i) s k l h g = emit_fit (act (Define (next_def (with_variable s)))) k (whole_here all here t f x (with_variable s) e h) g
    parameter_fits f e (declarator stars x (function ps) i) s k l h g = g

    parameters_fit : (f : ℕ) → f ≡ here → (ds : DeclaratorShapes) (s : Walked) (k : Comes) → Counts s → Front all here (define_declarators t f ds s) → Fits k → Fits (parameters_of t f ds s k)
    parameters_fit f e no_declarators s k l h g = g
    parameters_fit f e (more_declarators d rest) s k l h g =
        let j = define_declarator t f d s in
        parameter_fits f e d s _ l (sooner all here (defines_grow t f rest j) h) (parameters_fit f e rest j k (counts_on (define_grows t f d s) l) h g)

    line_fits : (f : ℕ) → f ≡ here → (d : DeclShape) (s : Walked) (k : Comes) → Counts s → Front all here (define_decl t f d s) → Fits k → Fits (parameter_line t f d s k)
    line_fits f e (decl p specs names) s k l h g = parameters_fit f e names s k l h g

    lines_fit : (f : ℕ) → f ≡ here → (ds : DeclShapes) (s : Walked) (k : Comes) → Counts s → Front all here (define_decls t f ds s) → Fits k → Fits (parameter_lines t f ds s k)
    lines_fit f e no_decls s k l h g = g
    lines_fit f e (more_decls d rest) s k l h g =
        let j = define_decl t f d s in
        line_fits f e d s _ l (sooner all here (define_decls_grow t f rest j) h) (lines_fit f e rest j k (counts_on (define_decl_grows t f d s) l) h g)

    all_parameters_fit : (f : ℕ) → f ≡ here → (d : DeclFormShape) (s : Walked) (k : Comes) → Counts s → Front all here (define_parameters t f d s) → Fits k → Fits (parameters_go t f d s k)
    all_parameters_fit f e (function (params ds)) s k l h g = lines_fit f e ds s k l h g
    all_parameters_fit f e (function empty) s k l h g = g
    all_parameters_fit f e (function void) s k l h g = g
    all_parameters_fit f e (arrays ls) s k l h g = g

    exits_body : FitExits body_exits
    exits_body = record { next_fit = emit_fit leave ends tt ends_fit; broken_fit = ends_fit; continued_fit = ends_fit; returned_fit = emit_fit leave ends tt ends_fit }

    pub function_fits : (f : ℕ) → f ≡ here → (d : DeclFormShape) (b : CompoundShape) (s : Walked) → Counts s → Front all here (walk_function t f d b s) → Fits (function_goes t f d b s)
    function_fits f e d (braces p ds items) s l h =
        let j = define_parameters t f d s in
        let k = with_block p j in
        let lj = counts_on (parameters_grow t f d s) l in
        all_parameters_fit f e d s _ l (sooner all here (grows_on (block_grows p j) (compound_grows t (in_function f) (braces p ds items) k)) h)
        (block_fit _ _ (compound_fits (in_function f) e (braces p ds items) k body_exits (counts_on (block_grows p j) lj) h exits_body))

    external_fits : (e : ExternalShape) (s : Walked) → Counts s → Front all here (walk_external t e s) → Fits (external_goes t here e s)
    external_fits (declared d) s l h w p = absurd p
    external_fits (defined specs (declarator stars x d i) marks b) s l h w p = function_fits (function_of t (text_of x)) p.0 d b s l h w (subst (λ g. function_goes t g d b s w) (sym p.0) p.1)

    pub externals_fit : (es : List ExternalShape) (s : Walked) → Counts s → Front all here (walk_externals t es s) → Fits (externals_go t here es s)
    externals_fit [] s l h w p = absurd p
    externals_fit (e ∷ rest) s l h w (inl p) = external_fits e s l (sooner all here (externals_grow t rest (walk_external t e s)) h) w p
    externals_fit (e ∷ rest) s l h w (inr p) = externals_fit rest (walk_external t e s) (counts_on (external_grows t e s) l) h w p

  -- ---- each action of a list

  at_first : (b x : Action) (v : List Action) → Contains (b ∷ v) x → (b ≡ x) ⊎ Contains v x
  at_first b x v c = elim (Contains-append_cases (b ∷ []) v x c) [
    | inl h ↦ elim (Contains-push_cases [] b x h) [ inl z ↦ absurd (let l = z.1 in omega arith) | inr e ↦ inl e ]
    | inr m ↦ inr m
  ]

  pub in_fit : (w : List Met) (b : Action) → Fit w → Contains (actions w) b → IsFit (act b)
  in_fit [] b h c = absurd (let l = c.1 in omega arith)
  in_fit (act a ∷ w) b h c = elim (at_first a b (actions w) c) [ inl e ↦ subst (λ d. IsFit (act d)) e h.0 | inr m ↦ in_fit w b h.1 m ]
  in_fit (enter f ∷ w) b h c = in_fit w b h.1 c
  in_fit (leave ∷ w) b h c = in_fit w b h.1 c
