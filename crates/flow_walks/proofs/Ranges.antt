-- The definitions that a walk has are those that are counted in its function.
use Rattle.std.proofs.Common.{◌≡◌, ◌⊎◌, ℕ, zero, suc, ◌+◌, ◌<◌, ◌≤◌, ◌++◌, ◌||◌, List, [], ◌∷◌, Bool, true, false, Option, Some, None, if◌then◌else◌, inl, inr, refl, ap, sym, subst, ◌∙◌, arith}
use Rattle.std.specs.Prelude.{Contains}
use Rattle.std.proofs.lemmas.List.Elements.{Contains-push_cases, Contains-append_cases}
use Rattle.c_base.specs.declared.place.Pos.{Pos}
use Rattle.c_syntax.specs.declared.tree.Named.{Named}
use Rattle.c_syntax.specs.declared.tree.BinaryOp.{BinaryOp}
use Rattle.c_syntax.specs.Shape.{NoteShape, bare, known, typed, unary, before, size_of, plain, and, or, assign, comma, NodeShape, node, ExprShape, leaf, paren, call, prefix, size_of_type, cast, suffix, two, choose, probe, index, field, behind, NodeShapes, no_nodes, more_nodes, MaybeNode, no_node, one_node, DeclShape, decl, DeclShapes, no_decls, more_decls, DeclaratorShape, declarator, DeclaratorShapes, no_declarators, more_declarators, DeclFormShape, arrays, function, empty, void, params, MaybeInit, no_init, one_init, InitShape, one, listed, LabelShape, case, default, StmtShape, stmt, FormShape, compound, simply, when, either, while, do_while, for, switch, break, continue, return, CompoundShape, braces, ItemShapes, no_items, more_items, ExternalShape, defined, declared}
use Rattle.c_tables.specs.Tables.{TablesShape}
use Rattle.c_tables.specs.Rows.{row, first_place, name_pos, text_of}
use Rattle.c_walk.specs.Items.{Direct, Outcomes, both, only_true, only_false, cases, def}
use Rattle.c_walk.specs.Places.{is_place, direct_form}
use Rattle.c_walk.specs.declared.around.Around.{Around}
use Rattle.c_walk.specs.declared.around.Taken.{Taken}
use Rattle.c_walk.specs.declared.around.Taken.TheVariants.{Read, Written, Changed, Copied, Addressed}
use Rattle.c_walk.specs.Tests.{choosing, case_values}
use Rattle.c_walk.specs.Counted.{def_count, next_def, next_use}
use Rattle.c_walk.specs.Walked.{Walked, operand_taken, left_taken, right_taken, is_used, is_written, with_block, with_block_if, with_decision, with_test, with_def, with_sites, with_site, next_decision, inside, inside_test, pos_of}
use Rattle.c_walk.specs.Walking.{walk_node, walk_form, walk_test, walk_arm, walk_nodes, walk_maybe, walk_loop_test, walk_maybe_test, walk_step}
use Rattle.c_walk.specs.Stating.{whole, with_variable, with_whole_def, walk_declarator, walk_declarators, walk_decl, walk_decls, walk_init, walk_maybe_init, pos_of_stmt, splits, is_labelled, case_count, has_default, walk_choice, walk_stmt, walk_body, walk_part, walk_compound, walk_items}
use Rattle.c_walk.specs.Units.{define_declarator, define_declarators, define_decl, define_decls, define_parameters, function_of, in_function, walk_function, walk_external, walk_externals}
use Rattle.flow_walks.specs.declared.action.Action.{Action}
use Rattle.flow_walks.specs.declared.action.Action.TheVariants.{Define, Use, Block, Test, Kill, Nothing}
use Rattle.flow_walks.specs.Comes.{Met, act, enter, leave, Comes, ends, emit, emit_if, choice, turns, loop, Ways, value, test, true_way, false_way, decided, evaluated}
use Rattle.flow_walks.specs.Comes as set
use Rattle.flow_walks.specs.Expressions.{holds_place, holds_scalar, form_holds_place, changed_at, is_defined, entered, node_goes, form_goes, test_goes, arm_goes, nodes_go, maybe_goes, loop_test_goes, step_goes}
use Rattle.flow_walks.specs.Statements.{init_goes, maybe_init_goes, declarator_goes, declarators_go, decl_goes, decls_go, Exits, in_loop, in_switch, then_goes, cases_go, stmt_goes, body_goes, part_goes, compound_goes, items_go, at_cases, at_default}
use Rattle.flow_walks.specs.Walks.{parameter_goes, parameters_of, parameter_line, parameter_lines, parameters_go, body_exits, function_goes, external_goes, externals_go, actions}
use Rattle.flow_walks.proofs.Appended.{Adds, adds_on, more_defs, block_adds, block_if_adds, decision_adds, test_item_adds, whole_adds, use_adds, site_adds, node_adds, form_adds, test_adds, arm_adds, nodes_add, maybe_adds, loop_test_adds, maybe_test_adds, step_adds, declarator_adds, declarators_add, decl_adds, decls_add, choice_adds, stmt_adds, part_adds, compound_adds, items_add, define_adds, defines_add, define_decl_adds, define_decls_add, parameters_add, external_adds, Follows, externals_follow, defs_both}

abbrev pub count : Walked → ℕ
count s = def_count s.items

-- ---- a place that is written is counted

is_left : (q : Option BinaryOp) → is_written (left_taken q) ≡ true
is_left None = refl
is_left (Some u) = refl

def_counted : (b : Bool) (c : Around) (p : Pos) (d : Option Direct) (s : Walked) → b ≡ true → count s + 1 ≤ count (with_def b c p d s)
def_counted true c p d s e = let m = defs_both s.items (def p c.function d ∷ []) in omega arith
def_counted false c p d s e = absurd (cc)

sites_counted : (c : Around) (r : Taken) (p : Pos) (d : Option Direct) (scalar : Bool) (s : Walked) → is_written r ≡ true → count s + 1 ≤ count (with_sites c r p d scalar s)
sites_counted c r p d scalar s w =
    let m = def_counted (is_written r) c p d s w in
    let n = more_defs (use_adds scalar c p d (with_def (is_written r) c p d s)) in
    omega arith

site_counted : (c : Around) (r : Taken) (p : Pos) (n : NoteShape) (f : ExprShape) (s : Walked) → is_written r ≡ true → is_place f ≡ true → count s + 1 ≤ count (walk_form c r f (with_site c r p n f s))
site_counted c r p n f s w h =
    let m : count s + 1 ≤ count (with_site c r p n f s) = subst (λ b. count s + 1 ≤ count (if b then with_sites c r p (direct_form n f) (is_used r n) s else s)) (sym h) (sites_counted c r p (direct_form n f) (is_used r n) s w) in
    let k = more_defs (form_adds c r f (with_site c r p n f s)) in
    omega arith

mutual
  place_counted : (c : Around) (r : Taken) (a : NodeShape) (s : Walked) → is_written r ≡ true → holds_place a ≡ true → count s + 1 ≤ count (walk_node c r a s)
  place_counted c r (node p o n f) s w h = form_counted c r p n f s w h

  form_counted : (c : Around) (r : Taken) (p : Pos) (n : NoteShape) (f : ExprShape) (s : Walked) → is_written r ≡ true → form_holds_place f ≡ true → count s + 1 ≤ count (walk_form c r f (with_site c r p n f s))
  form_counted c r p n (paren a) s w h = place_counted c r a s w h
  form_counted c r p n (probe u a) s w h = place_counted c r a s w h
  form_counted c r p n f s w h = site_counted c r p n f s w h

-- ---- lists of which each definition has a number in a range

module _ (lo hi : ℕ) where
  abbrev pub IsFit : Met → Type 0
  IsFit (act (Define d)) = (lo < d) × (d ≤ hi)
  IsFit (act (Use u)) = Unit {0}
  IsFit (act (Block k)) = Unit {0}
  IsFit (act (Test k o)) = Unit {0}
  IsFit (act (Kill v)) = Unit {0}
  IsFit (act Nothing) = Unit {0}
  IsFit (enter f) = Unit {0}
  IsFit leave = Unit {0}

  abbrev pub Fit : List Met → Type 0
  Fit [] = Unit {0}
  Fit (a ∷ w) = IsFit a × Fit w

  abbrev pub Fits : Comes → Type 0
  Fits k = (w : List Met) → k w → Fit w

  emit_fit : (a : Met) (k : Comes) → IsFit a → Fits k → Fits (emit a k)
  emit_fit a k q h [] p = tt
  emit_fit a k q h (b ∷ w) p = (subst IsFit (sym p.0) q, h w p.1)

  defined_fit : (b : Bool) (n : ℕ) (k : Comes) → (b ≡ true → (lo < n) × (n ≤ hi)) → Fits k → Fits (emit_if b (act (Define n)) k)
  defined_fit true n k q h = emit_fit (act (Define n)) k (q refl) h
  defined_fit false n k q h = h

  used_fit : (b : Bool) (n : ℕ) (k : Comes) → Fits k → Fits (emit_if b (act (Use n)) k)
  used_fit true n k h = emit_fit (act (Use n)) k tt h
  used_fit false n k h = h

  block_fit : (n : ℕ) (k : Comes) → Fits k → Fits (emit (act (Block n)) k)
  block_fit n k h = emit_fit (act (Block n)) k tt h

  block_if_fit : (b : Bool) (n : ℕ) (k : Comes) → Fits k → Fits (emit_if b (act (Block n)) k)
  block_if_fit true n k h = block_fit n k h
  block_if_fit false n k h = h

  test_fit : (d o : ℕ) (k : Comes) → Fits k → Fits (emit (act (Test d o)) k)
  test_fit d o k h = emit_fit (act (Test d o)) k tt h

  enter_fit : (b : Bool) (f : ℕ) (k : Comes) → Fits k → Fits (emit_if b (enter f) k)
  enter_fit true f k h = emit_fit (enter f) k tt h
  enter_fit false f k h = h

  either_fit : (j k : Comes) → Fits j → Fits k → Fits (set.either j k)
  either_fit j k g h w (inl p) = g w p
  either_fit j k g h w (inr p) = h w p

  choice_fit : (b : Bool) (j k : Comes) → Fits j → Fits k → Fits (choice b j k)
  choice_fit true j k g h = g
  choice_fit false j k g h = h

  ends_fit : Fits ends
  ends_fit [] p = tt
  ends_fit (a ∷ w) p = absurd p

  turns_fit : (n : ℕ) (once : Comes → Comes) → ((k : Comes) → Fits k → Fits (once k)) → Fits (turns n once)
  turns_fit zero once h = ends_fit
  turns_fit (suc n) once h = h (turns n once) (turns_fit n once h)

  loop_fit : (once : Comes → Comes) → ((k : Comes) → Fits k → Fits (once k)) → Fits (loop once)
  loop_fit once h w p = turns_fit p.0 once h w p.1

  pub record FitWays (M : Ways) : Type 0 where
    pub true_fit : Fits (true_way M)
    pub false_fit : Fits (false_way M)
    pub evaluated_fit : (o : Outcomes) → Fits (evaluated o M)

  decided_fit : (o : Outcomes) (d : ℕ) (j k : Comes) → Fits j → Fits k → Fits (decided o d j k)
  decided_fit both d j k g h = either_fit _ _ (test_fit d 1 j g) (test_fit d 2 k h)
  decided_fit only_true d j k g h = test_fit d 1 j g
  decided_fit only_false d j k g h = test_fit d 2 k h
  decided_fit (cases vs) d j k g h = either_fit _ _ (test_fit d 1 j g) (test_fit d 2 k h)

  ways_value : (k : Comes) → Fits k → FitWays (value k)
  ways_value k h = record { true_fit = h; false_fit = h; evaluated_fit = λ o. h }

  ways_test : (d : ℕ) (j k : Comes) → Fits j → Fits k → FitWays (test d j k)
  ways_test d j k g h = record { true_fit = g; false_fit = h; evaluated_fit = λ o. decided_fit o d j k g h }

  changed_fit : (r : Taken) (a : NodeShape) (s : Walked) (k : Comes) → Fits k → Fits (changed_at r a s k)
  changed_fit Changed a s k h = used_fit (holds_scalar a) (next_use s) k h
  changed_fit Read a s k h = h
  changed_fit Written a s k h = h
  changed_fit Copied a s k h = h
  changed_fit Addressed a s k h = h

  entered_fit : (t : TablesShape) (n : NoteShape) (k : Comes) → Fits k → Fits (entered t n k)
  entered_fit t (typed y (Some f)) k h = enter_fit (is_defined (row t.functions f)) f k h
  entered_fit t (typed y None) k h = h
  entered_fit t bare k h = h
  entered_fit t (known y v) k h = h

  -- where a part begins behind so many, and where a part ends before so many
  later : {f : ℕ} {s t : Walked} → Adds f s t → lo ≤ count s → lo ≤ count t
  later a l = let m = more_defs a in omega arith

  sooner : {f : ℕ} {s t : Walked} → Adds f s t → count t ≤ hi → count s ≤ hi
  sooner a h = let m = more_defs a in omega arith

  -- a place that is written there has a number in the range
  in_range : (c : Around) (r : Taken) (a : NodeShape) (s : Walked) → is_written r ≡ true → lo ≤ count s → count (walk_node c r a s) ≤ hi → holds_place a ≡ true → (lo < next_def s) × (next_def s ≤ hi)
  in_range c r a s w l h p = let m = place_counted c r a s w p in (omega arith, omega arith)

  whole_range : (t : TablesShape) (f : ℕ) (x : Option Named) (s : Walked) → lo ≤ count s → count (with_whole_def t f x s) ≤ hi → (lo < next_def s) × (next_def s ≤ hi)
  whole_range t f x s l h = let m = defs_both s.items (def (name_pos first_place x) f (whole t s.variables) ∷ []) in (omega arith, omega arith)

  -- ---- expressions

  module _ (t : TablesShape) where
    mutual
      node_fits : (c : Around) (r : Taken) (a : NodeShape) (s : Walked) (M : Ways) → lo ≤ count s → count (walk_node c r a s) ≤ hi → FitWays M → Fits (node_goes t c r a s M)
      node_fits c r (node p o n f) s M l h m = form_fits c r p n f s M l h m

      form_fits : (c : Around) (r : Taken) (p : Pos) (n : NoteShape) (f : ExprShape) (s : Walked) (M : Ways) → lo ≤ count s → count (walk_form c r f (with_site c r p n f s)) ≤ hi → FitWays M → Fits (form_goes t c r p n f s M)
      form_fits c r p n (leaf x) s M l h m = used_fit _ _ _ (m.evaluated_fit _)
      form_fits c r p n (paren a) s M l h m = node_fits c r a s M l h m
      form_fits c r p n (probe q a) s M l h m = node_fits c r a s M l h m
      form_fits c r p n (call x args) s M l h m = nodes_fit c args s _ l h (entered_fit t n _ (m.evaluated_fit both))
      form_fits c r p n (prefix (unary q) a) s M l h m =
          value_fits c (operand_taken q) a (with_site c r p n (prefix (unary q) a) s) _ (later (site_adds c r p n (prefix (unary q) a) s) l) h (used_fit _ _ _ (m.evaluated_fit both))
      form_fits c r p n (prefix (before q) a) s M l h m = value_fits c Changed a s _ l h (used_fit _ _ _ (defined_fit _ _ _ (in_range c Changed a s refl l h) (m.evaluated_fit both)))
      form_fits c r p n (prefix size_of a) s M l h m = m.evaluated_fit both
      form_fits c r p n (size_of_type y) s M l h m = m.evaluated_fit both
      form_fits c r p n (cast y a) s M l h m = value_fits c Read a s _ l h (m.evaluated_fit both)
      form_fits c r p n (suffix a (index b)) s M l h m =
          let j = with_site c r p n (suffix a (index b)) s in
          let k = walk_node c Read a j in
          let lj = later (site_adds c r p n (suffix a (index b)) s) l in
          value_fits c Read a j _ lj (sooner (node_adds c Read b k) h) (value_fits c Read b k _ (later (node_adds c Read a j) lj) h (used_fit _ _ _ (m.evaluated_fit both)))
      form_fits c r p n (suffix a (field g x q)) s M l h m =
          value_fits c Read a (with_site c r p n (suffix a (field g x q)) s) _ (later (site_adds c r p n (suffix a (field g x q)) s) l) h (used_fit _ _ _ (m.evaluated_fit both))
      form_fits c r p n (suffix a (behind q)) s M l h m = value_fits c Changed a s _ l h (used_fit _ _ _ (defined_fit _ _ _ (in_range c Changed a s refl l h) (m.evaluated_fit both)))
      form_fits c r p n (two (plain q) a b) s M l h m =
          let k = walk_node c Read a s in
          value_fits c Read a s _ l (sooner (node_adds c Read b k) h) (value_fits c Read b k _ (later (node_adds c Read a s) l) h (m.evaluated_fit both))
      form_fits c r p n (two comma a b) s M l h m =
          let k = walk_node c Read a s in
          value_fits c Read a s _ l (sooner (node_adds c Read b k) h) (value_fits c Read b k _ (later (node_adds c Read a s) l) h (m.evaluated_fit both))
      form_fits c r p n (two and a b) s M l h m =
          let j = walk_test c a s in
          let k = with_block (pos_of b) j in
          let lk = later (adds_on (test_adds c a s) (block_adds c.function (pos_of b) j)) l in
          test_fits c a s _ _ l (sooner (adds_on (block_adds c.function (pos_of b) j) (test_adds c b k)) h) (block_fit _ _ (test_fits c b k _ _ lk h m.true_fit m.false_fit)) m.false_fit
      form_fits c r p n (two or a b) s M l h m =
          let j = walk_test c a s in
          let k = with_block (pos_of b) j in
          let lk = later (adds_on (test_adds c a s) (block_adds c.function (pos_of b) j)) l in
          test_fits c a s _ _ l (sooner (adds_on (block_adds c.function (pos_of b) j) (test_adds c b k)) h) m.true_fit (block_fit _ _ (test_fits c b k _ _ lk h m.true_fit m.false_fit))
      form_fits c r p n (two (assign q) a b) s M l h m =
          let k = walk_node c (left_taken q) a s in
          let hk = sooner (node_adds c (right_taken q a) b k) h in
          value_fits c (left_taken q) a s _ l hk (changed_fit (left_taken q) a s _
          (value_fits c (right_taken q a) b k _ (later (node_adds c (left_taken q) a s) l) h (defined_fit _ _ _ (in_range c (left_taken q) a s (is_left q) l hk) (m.evaluated_fit both))))
      form_fits c r p n (choose a b d) s M l h m =
          let j = walk_test c a s in
          let k = walk_arm c b j in
          let lj = later (test_adds c a s) l in
          let hk = sooner (arm_adds c d k) h in
          test_fits c a s _ _ l (sooner (arm_adds c b j) hk) (arm_fits c b j _ lj hk (m.evaluated_fit both)) (arm_fits c d k _ (later (arm_adds c b j) lj) h (m.evaluated_fit both))

      value_fits : (c : Around) (r : Taken) (a : NodeShape) (s : Walked) (k : Comes) → lo ≤ count s → count (walk_node c r a s) ≤ hi → Fits k → Fits (node_goes t c r a s (value k))
      value_fits c r (node p o n f) s k l h g = form_fits c r p n f s (value k) l h (ways_value k g)

      test_fits : (c : Around) (a : NodeShape) (s : Walked) (j k : Comes) → lo ≤ count s → count (walk_test c a s) ≤ hi → Fits j → Fits k → Fits (test_goes t c a s j k)
      test_fits c (node p o n f) s j k l h g i = form_fits (inside_test c f s) Read p n f (with_test p f s) _ (later (test_item_adds c.function p f s) l) h (ways_test (next_decision s) j k g i)

      arm_fits : (c : Around) (a : NodeShape) (s : Walked) (k : Comes) → lo ≤ count s → count (walk_arm c a s) ≤ hi → Fits k → Fits (arm_goes t c a s k)
      arm_fits c (node p o n f) s k l h g = block_fit _ _ (form_fits c Read p n f (with_block p s) (value k) (later (block_adds c.function p s) l) h (ways_value k g))

      nodes_fit : (c : Around) (args : NodeShapes) (s : Walked) (k : Comes) → lo ≤ count s → count (walk_nodes c args s) ≤ hi → Fits k → Fits (nodes_go t c args s k)
      nodes_fit c no_nodes s k l h g = g
      nodes_fit c (more_nodes a rest) s k l h g =
          let j = walk_node c Read a s in
          value_fits c Read a s _ l (sooner (nodes_add c rest j) h) (nodes_fit c rest j k (later (node_adds c Read a s) l) h g)

    maybe_fits : (c : Around) (a : MaybeNode) (s : Walked) (k : Comes) → lo ≤ count s → count (walk_maybe c a s) ≤ hi → Fits k → Fits (maybe_goes t c a s k)
    maybe_fits c no_node s k l h g = g
    maybe_fits c (one_node a) s k l h g = value_fits c Read a s k l h g

    loop_test_fits : (c : Around) (a : MaybeNode) (s : Walked) (j k : Comes) → lo ≤ count s → count (walk_maybe_test c a s) ≤ hi → Fits j → Fits k → Fits (loop_test_goes t c a s j k)
    loop_test_fits c no_node s j k l h g i = g
    loop_test_fits c (one_node a) s j k l h g i = block_fit _ _ (test_fits c a (with_block (pos_of a) s) j k (later (block_adds c.function (pos_of a) s) l) h g i)

    step_fits : (c : Around) (a : MaybeNode) (s : Walked) (k : Comes) → lo ≤ count s → count (walk_step c a s) ≤ hi → Fits k → Fits (step_goes t c a s k)
    step_fits c no_node s k l h g = g
    step_fits c (one_node a) s k l h g = arm_fits c a s k l h g

    -- ---- declarations

    init_fits : (c : Around) (x : Option Named) (i : InitShape) (s : Walked) (k : Comes) → lo ≤ count s → count (walk_init c i (with_whole_def t c.function x s)) ≤ hi → Fits k → Fits (init_goes t c x i s k)
    init_fits c x (one a) s k l h g =
        let j = with_whole_def t c.function x s in
        value_fits c Read a j _ (later (whole_adds t c.function x s) l) h (emit_fit (act (Define (next_def s))) k (whole_range t c.function x s l (sooner (node_adds c Read a j) h)) g)
    init_fits c x (listed p items last) s k l h g = emit_fit (act (Define (next_def s))) k (whole_range t c.function x s l h) g

    maybe_init_fits : (c : Around) (x : Option Named) (i : MaybeInit) (s : Walked) (k : Comes) → lo ≤ count s → count (walk_maybe_init t c x i s) ≤ hi → Fits k → Fits (maybe_init_goes t c x i s k)
    maybe_init_fits c x no_init s k l h g = g
    maybe_init_fits c x (one_init i) s k l h g = init_fits c x i s k l h g

    declarator_fits : (c : Around) (d : DeclaratorShape) (s : Walked) (k : Comes) → lo ≤ count s → count (walk_declarator t c d s) ≤ hi → Fits k → Fits (declarator_goes t c d s k)
    declarator_fits c (declarator stars x (arrays ls) i) s k l h g = emit_fit (act (Kill (with_variable s).variables)) _ tt (maybe_init_fits c x i (with_variable s) k l h g)
    declarator_fits c (declarator stars x (function ps) i) s k l h g = g

    declarators_fit : (c : Around) (ds : DeclaratorShapes) (s : Walked) (k : Comes) → lo ≤ count s → count (walk_declarators t c ds s) ≤ hi → Fits k → Fits (declarators_go t c ds s k)
    declarators_fit c no_declarators s k l h g = g
    declarators_fit c (more_declarators d rest) s k l h g =
        let j = walk_declarator t c d s in
        declarator_fits c d s _ l (sooner (declarators_add t c rest j) h) (declarators_fit c rest j k (later (declarator_adds t c d s) l) h g)

    decl_fits : (c : Around) (d : DeclShape) (s : Walked) (k : Comes) → lo ≤ count s → count (walk_decl t c d s) ≤ hi → Fits k → Fits (decl_goes t c d s k)
    decl_fits c (decl p specs names) s k l h g = declarators_fit c names s k l h g

    decls_fit : (c : Around) (ds : DeclShapes) (s : Walked) (k : Comes) → lo ≤ count s → count (walk_decls t c ds s) ≤ hi → Fits k → Fits (decls_go t c ds s k)
    decls_fit c no_decls s k l h g = g
    decls_fit c (more_decls d rest) s k l h g =
        let j = walk_decl t c d s in
        decl_fits c d s _ l (sooner (decls_add t c rest j) h) (decls_fit c rest j k (later (decl_adds t c d s) l) h g)

    -- ---- statements

    pub record FitExits (x : Exits) : Type 0 where
      pub next_fit : Fits x.next
      pub broken_fit : Fits x.broken
      pub continued_fit : Fits x.continued
      pub returned_fit : Fits x.returned

    exits_loop : (k : Comes) (x : Exits) → Fits k → FitExits x → FitExits (in_loop k x)
    exits_loop k x h m = record { next_fit = h; broken_fit = m.next_fit; continued_fit = h; returned_fit = m.returned_fit }

    exits_switch : (x : Exits) → FitExits x → FitExits (in_switch x)
    exits_switch x m = record { next_fit = m.next_fit; broken_fit = m.next_fit; continued_fit = m.continued_fit; returned_fit = m.returned_fit }

    exits_then : (k : Comes) (x : Exits) → Fits k → FitExits x → FitExits (then_goes k x)
    exits_then k x h m = record { next_fit = h; broken_fit = m.broken_fit; continued_fit = m.continued_fit; returned_fit = m.returned_fit }

    cases_fit : (d o : ℕ) (ls : List LabelShape) (j k : Comes) → Fits j → Fits k → Fits (cases_go d o ls j k)
    cases_fit d o [] j k g h = h
    cases_fit d o (case p a ∷ ls) j k g h = either_fit _ _ (test_fit d o j g) (cases_fit d (suc o) ls j k g h)
    cases_fit d o (default p ∷ ls) j k g h = cases_fit d o ls j k g h

    mutual
      stmt_fits : (c : Around) (a : StmtShape) (s : Walked) (x : Exits) → lo ≤ count s → count (walk_stmt t c a s) ≤ hi → FitExits x → Fits (stmt_goes t c a s x)
      stmt_fits c (stmt p marks q f) s x l h m = body_fits c f s x l h m

      body_fits : (c : Around) (f : FormShape) (s : Walked) (x : Exits) → lo ≤ count s → count (walk_body t c f s) ≤ hi → FitExits x → Fits (body_goes t c f s x)
      body_fits c (compound b) s x l h m = compound_fits c b s x l h m
      body_fits c (simply e) s x l h m = maybe_fits c e s _ l h m.next_fit
      body_fits c (when e a) s x l h m =
          let j = walk_test c e s in
          test_fits c e s _ _ l (sooner (part_adds t c a j) h) (part_fits c a j x (later (test_adds c e s) l) h m) m.next_fit
      body_fits c (either e a b) s x l h m =
          let j = walk_test c e s in
          let k = walk_part t c a j in
          let lj = later (test_adds c e s) l in
          let hk = sooner (part_adds t c b k) h in
          test_fits c e s _ _ l (sooner (part_adds t c a j) hk) (part_fits c a j x lj hk m) (part_fits c b k x (later (part_adds t c a j) lj) h m)
      body_fits c (while e a) s x l h m =
          let j = walk_loop_test c e s in
          loop_fit _ (λ k g. loop_test_fits c (one_node e) s _ _ l (sooner (part_adds t c a j) h) (part_fits c a j _ (later (loop_test_adds c e s) l) h (exits_loop k x g m)) m.next_fit)
      body_fits c (do_while a e) s x l h m =
          let j = walk_part t c a s in
          loop_fit _ (λ k g. part_fits c a s _ l (sooner (loop_test_adds c e j) h) (exits_loop _ x (loop_test_fits c (one_node e) j _ _ (later (part_adds t c a s) l) h g m.next_fit) m))
      body_fits c (for e f g a) s x l h m =
          let i = walk_maybe c e s in
          let j = walk_maybe_test c f i in
          let k = walk_step c g j in
          let li = later (maybe_adds c e s) l in
          let lj = later (maybe_test_adds c f i) li in
          let hk = sooner (part_adds t c a k) h in
          let hj = sooner (step_adds c g j) hk in
          maybe_fits c e s _ l (sooner (maybe_test_adds c f i) hj)
          (loop_fit _ (λ n again. loop_test_fits c f i _ _ li hj (part_fits c a k _ (later (step_adds c g j) lj) h (exits_loop _ x (step_fits c g j n lj hk again) m)) m.next_fit))
      body_fits c (switch e items) s x l h m =
          let j = walk_choice c e items s in
          let lj = later (choice_adds c e items s) l in
          value_fits (inside c s) Read e (with_decision (pos_of e) (cases (case_values (choosing e) items)) s) _ (later (decision_adds c.function (pos_of e) (cases (case_values (choosing e) items)) s) l) (sooner (items_add t c false items j) h)
          (cases_at c items (next_decision s) 1 false j _ _ lj h (exits_switch x m) (test_fit _ _ _ (default_at c false items j _ lj h (exits_switch x m))))
      body_fits c break s x l h m = m.broken_fit
      body_fits c continue s x l h m = m.continued_fit
      body_fits c (return e) s x l h m = maybe_fits c e s _ l h m.returned_fit

      part_fits : (c : Around) (a : StmtShape) (s : Walked) (x : Exits) → lo ≤ count s → count (walk_part t c a s) ≤ hi → FitExits x → Fits (part_goes t c a s x)
      part_fits c (stmt p marks q f) s x l h m = block_fit _ _ (body_fits c f (with_block p s) x (later (block_adds c.function p s) l) h m)

      compound_fits : (c : Around) (b : CompoundShape) (s : Walked) (x : Exits) → lo ≤ count s → count (walk_compound t c b s) ≤ hi → FitExits x → Fits (compound_goes t c b s x)
      compound_fits c (braces p ds items) s x l h m =
          let j = walk_decls t c ds s in
          decls_fit c ds s _ l (sooner (items_add t c false items j) h) (items_fit c false items j x (later (decls_add t c ds s) l) h m)

      items_fit : (c : Around) (after : Bool) (items : ItemShapes) (s : Walked) (x : Exits) → lo ≤ count s → count (walk_items t c after items s) ≤ hi → FitExits x → Fits (items_go t c after items s x)
      items_fit c after no_items s x l h m = m.next_fit
      items_fit c after (more_items labels a rest) s x l h m =
          let b = after || is_labelled labels in
          let j = with_block_if b (pos_of_stmt a) s in
          let k = walk_stmt t c a j in
          let lj = later (block_if_adds c.function b (pos_of_stmt a) s) l in
          block_if_fit b _ _ (stmt_fits c a j _ lj (sooner (items_add t c (splits a) rest k) h) (exits_then _ x (items_fit c (splits a) rest k x (later (stmt_adds t c a j) lj) h m) m))

      cases_at : (c : Around) (items : ItemShapes) (d o : ℕ) (after : Bool) (s : Walked) (x : Exits) (i : Comes) → lo ≤ count s → count (walk_items t c after items s) ≤ hi → FitExits x → Fits i → Fits (at_cases t c d o after items s x i)
      cases_at c no_items d o after s x i l h m g = g
      cases_at c (more_items labels a rest) d o after s x i l h m g =
          let b = after || is_labelled labels in
          let j = with_block_if b (pos_of_stmt a) s in
          let k = walk_stmt t c a j in
          let lj = later (block_if_adds c.function b (pos_of_stmt a) s) l in
          let lk = later (stmt_adds t c a j) lj in
          cases_fit d o labels _ _
          (block_if_fit b _ _ (stmt_fits c a j _ lj (sooner (items_add t c (splits a) rest k) h) (exits_then _ x (items_fit c (splits a) rest k x lk h m) m)))
          (cases_at c rest d (o + case_count labels) (splits a) k x i lk h m g)

      default_at : (c : Around) (after : Bool) (items : ItemShapes) (s : Walked) (x : Exits) → lo ≤ count s → count (walk_items t c after items s) ≤ hi → FitExits x → Fits (at_default t c after items s x)
      default_at c after no_items s x l h m = m.next_fit
      default_at c after (more_items labels a rest) s x l h m =
          let b = after || is_labelled labels in
          let j = with_block_if b (pos_of_stmt a) s in
          let k = walk_stmt t c a j in
          let lj = later (block_if_adds c.function b (pos_of_stmt a) s) l in
          let lk = later (stmt_adds t c a j) lj in
          choice_fit (has_default labels) _ _
          (block_if_fit b _ _ (stmt_fits c a j _ lj (sooner (items_add t c (splits a) rest k) h) (exits_then _ x (items_fit c (splits a) rest k x lk h m) m)))
          (default_at c (splits a) rest k x lk h m)

    -- ---- functions

    parameter_fits : (f : ℕ) (d : DeclaratorShape) (s : Walked) (k : Comes) → lo ≤ count s → count (define_declarator t f d s) ≤ hi → Fits k → Fits (parameter_goes t f d s k)
    parameter_fits f (declarator stars x (arrays ls) i) s k l h g = emit_fit (act (Define (next_def (with_variable s)))) k (whole_range t f x (with_variable s) l h) g
    parameter_fits f (declarator stars x (function ps) i) s k l h g = g

    parameters_fit : (f : ℕ) (ds : DeclaratorShapes) (s : Walked) (k : Comes) → lo ≤ count s → count (define_declarators t f ds s) ≤ hi → Fits k → Fits (parameters_of t f ds s k)
    parameters_fit f no_declarators s k l h g = g
    parameters_fit f (more_declarators d rest) s k l h g =
        let j = define_declarator t f d s in
        parameter_fits f d s _ l (sooner (defines_add t f rest j) h) (parameters_fit f rest j k (later (define_adds t f d s) l) h g)

    line_fits : (f : ℕ) (d : DeclShape) (s : Walked) (k : Comes) → lo ≤ count s → count (define_decl t f d s) ≤ hi → Fits k → Fits (parameter_line t f d s k)
    line_fits f (decl p specs names) s k l h g = parameters_fit f names s k l h g

    lines_fit : (f : ℕ) (ds : DeclShapes) (s : Walked) (k : Comes) → lo ≤ count s → count (define_decls t f ds s) ≤ hi → Fits k → Fits (parameter_lines t f ds s k)
    lines_fit f no_decls s k l h g = g
    lines_fit f (more_decls d rest) s k l h g =
        let j = define_decl t f d s in
        line_fits f d s _ l (sooner (define_decls_add t f rest j) h) (lines_fit f rest j k (later (define_decl_adds t f d s) l) h g)

    all_parameters_fit : (f : ℕ) (d : DeclFormShape) (s : Walked) (k : Comes) → lo ≤ count s → count (define_parameters t f d s) ≤ hi → Fits k → Fits (parameters_go t f d s k)
    all_parameters_fit f (function (params ds)) s k l h g = lines_fit f ds s k l h g
    all_parameters_fit f (function empty) s k l h g = g
    all_parameters_fit f (function void) s k l h g = g
    all_parameters_fit f (arrays ls) s k l h g = g

    exits_body : FitExits body_exits
    exits_body = record { next_fit = emit_fit leave ends tt ends_fit; broken_fit = ends_fit; continued_fit = ends_fit; returned_fit = emit_fit leave ends tt ends_fit }

    pub function_fits : (f : ℕ) (d : DeclFormShape) (b : CompoundShape) (s : Walked) → lo ≤ count s → count (walk_function t f d b s) ≤ hi → Fits (function_goes t f d b s)
    function_fits f d (braces p ds items) s l h =
        let j = define_parameters t f d s in
        let k = with_block p j in
        let lj = later (parameters_add t f d s) l in
        all_parameters_fit f d s _ l (sooner (adds_on (block_adds f p j) (compound_adds t (in_function f) (braces p ds items) k)) h)
        (block_fit _ _ (compound_fits (in_function f) (braces p ds items) k body_exits (later (block_adds f p j) lj) h exits_body))

    pub external_fits : (f : ℕ) (e : ExternalShape) (s : Walked) → lo ≤ count s → count (walk_external t e s) ≤ hi → Fits (external_goes t f e s)
    external_fits f (declared d) s l h w p = absurd p
    external_fits f (defined specs (declarator stars x d i) marks b) s l h w p =
        function_fits (function_of t (text_of x)) d b s l h w (subst (λ g. function_goes t g d b s w) (sym p.0) p.1)

  -- ---- the definitions of a list

  at_first : (b x : Action) (v : List Action) → Contains (b ∷ v) x → (b ≡ x) ⊎ Contains v x
  at_first b x v c = elim (Contains-append_cases (b ∷ []) v x c) [
    | inl h ↦ elim (Contains-push_cases [] b x h) [ inl z ↦ absurd (let l = z.1 in omega arith) | inr e ↦ inl e ]
    | inr m ↦ inr m
  ]

  pub in_fit : (w : List Met) (d : ℕ) → Fit w → Contains (actions w) (Define d) → (lo < d) × (d ≤ hi)
  in_fit [] d h c = absurd (let l = c.1 in omega arith)
  in_fit (act a ∷ w) d h c = elim (at_first a (Define d) (actions w) c) [ inl e ↦ subst (λ b. IsFit (act b)) e h.0 | inr m ↦ in_fit w d h.1 m ]
  in_fit (enter f ∷ w) d h c = in_fit w d h.1 c
  in_fit (leave ∷ w) d h c = in_fit w d h.1 c

-- ---- which external declaration a definition belongs to

pub in_external : (t : TablesShape) (f : ℕ) (e : ExternalShape) (s : Walked) (w : List Met) (d : ℕ) → external_goes t f e s w → Contains (actions w) (Define d) → (count s < d) × (d ≤ count (walk_external t e s))
in_external t f e s w d p c = in_fit (count s) (count (walk_external t e s)) w d (external_fits (count s) (count (walk_external t e s)) t f e s (omega arith) (omega arith) w p) c

-- a walk of some function with a definition that is counted in this external declaration is one of it
pub not_behind : (t : TablesShape) (f : ℕ) (es : List ExternalShape) (s : Walked) (w : List Met) (d : ℕ) → externals_go t f es s w → Contains (actions w) (Define d) → count s < d
not_behind t f [] s w d p c = absurd p
not_behind t f (e ∷ rest) s w d (inl p) c = (in_external t f e s w d p c).0
not_behind t f (e ∷ rest) s w d (inr p) c = let m = not_behind t f rest (walk_external t e s) w d p c in let n = more_defs (external_adds t e s) in omega arith

pub follow_defs : {s t : Walked} → Follows s t → count s ≤ count t
follow_defs {s} {t} a = let e : count t ≡ count s + def_count a.more = ap def_count a.items ∙ defs_both s.items a.more in omega arith

pub out_of : (t : TablesShape) (f : ℕ) (front : List ExternalShape) (e : ExternalShape) (rest : List ExternalShape) (s : Walked) (w : List Met) (d : ℕ) → Contains (actions w) (Define d)
    → count (walk_externals t front s) < d → d ≤ count (walk_external t e (walk_externals t front s)) → externals_go t f (front ++ e ∷ rest) s w → external_goes t f e (walk_externals t front s) w
out_of t f [] e rest s w d c l h (inl p) = p
out_of t f [] e rest s w d c l h (inr p) = absurd (let m = not_behind t f rest (walk_external t e s) w d p c in omega arith)
out_of t f (b ∷ front) e rest s w d c l h (inl p) =
    absurd (let m = (in_external t f b s w d p c).1 in let n = follow_defs (externals_follow t front (walk_external t b s)) in omega arith)
out_of t f (b ∷ front) e rest s w d c l h (inr p) = out_of t f front e rest (walk_external t b s) w d c l h p

pub into : (t : TablesShape) (f : ℕ) (front : List ExternalShape) (e : ExternalShape) (rest : List ExternalShape) (s : Walked) (w : List Met) → external_goes t f e (walk_externals t front s) w → externals_go t f (front ++ e ∷ rest) s w
into t f [] e rest s w p = inl p
into t f (b ∷ front) e rest s w p = inr (into t f front e rest (walk_external t b s) w p)
