-- Where more may come behind a part, more may come with it.
use Rattle.std.proofs.Common.{ℕ, zero, suc, ◌+◌, List, [], ◌∷◌, Bool, true, false, Option, Some, None, inl, inr}
use Rattle.c_base.specs.declared.place.Pos.{Pos}
use Rattle.c_syntax.specs.declared.tree.Named.{Named}
use Rattle.c_syntax.specs.Shape.{NoteShape, bare, known, typed, unary, before, size_of, plain, and, or, assign, comma, NodeShape, node, ExprShape, leaf, paren, call, prefix, size_of_type, cast, suffix, two, choose, probe, index, field, behind, NodeShapes, no_nodes, more_nodes, MaybeNode, no_node, one_node, DeclShape, decl, DeclShapes, no_decls, more_decls, DeclaratorShape, declarator, DeclaratorShapes, no_declarators, more_declarators, arrays, function, MaybeInit, no_init, one_init, InitShape, one, listed, LabelShape, case, default, StmtShape, stmt, FormShape, compound, simply, when, either, while, do_while, for, switch, break, continue, return, CompoundShape, braces, ItemShapes, no_items, more_items}
use Rattle.c_tables.specs.Tables.{TablesShape}
use Rattle.c_walk.specs.declared.around.Around.{Around}
use Rattle.c_walk.specs.declared.around.Taken.{Taken}
use Rattle.c_walk.specs.declared.around.Taken.TheVariants.{Read, Written, Changed, Copied, Addressed}
use Rattle.c_walk.specs.Items.{Outcomes, both, only_true, only_false, cases}
use Rattle.c_walk.specs.Walked.{Walked, operand_taken, left_taken, right_taken, with_block, next_decision, inside, inside_test, with_test, with_site}
use Rattle.c_walk.specs.Walking.{walk_node, walk_maybe, walk_maybe_test, walk_step}
use Rattle.c_walk.specs.Stating.{with_variable, walk_declarator, walk_decl, splits, case_count, has_default, walk_part}
use Rattle.c_walk.specs.Counted.{next_use, next_def}
use Rattle.flow_walks.specs.declared.action.Action.TheVariants.{Use, Define}
use Rattle.flow_walks.specs.Comes.{Met, act, Comes, ends, emit, emit_if, choice, turns, loop, Ways, value, test, true_way, false_way, decided, evaluated}
use Rattle.flow_walks.specs.Comes as set
use Rattle.flow_walks.specs.Expressions.{holds_scalar, holds_place, reads, read_form, changed_at, entered, used_at, defined_at, node_goes, form_goes, test_goes, arm_goes, nodes_go, maybe_goes, loop_test_goes, step_goes}
use Rattle.flow_walks.specs.Statements.{init_goes, maybe_init_goes, declarator_goes, declarators_go, decl_goes, decls_go, Exits, in_loop, in_switch, then_goes, cases_go, stmt_goes, body_goes, part_goes, compound_goes, items_go, at_cases, at_default}

-- what j allows, k allows too
abbrev pub In : Comes → Comes → Type 0
In j k = (w : List Met) → j w → k w

pub emit_in : (a : Met) (j k : Comes) → In j k → In (emit a j) (emit a k)
emit_in a j k h [] p = tt
emit_in a j k h (b ∷ w) p = (p.0, h w p.1)

pub emit_if_in : (b : Bool) (a : Met) (j k : Comes) → In j k → In (emit_if b a j) (emit_if b a k)
emit_if_in true a j k h = emit_in a j k h
emit_if_in false a j k h = h

pub either_in : (i j k l : Comes) → In i k → In j l → In (set.either i j) (set.either k l)
either_in i j k l f h w (inl p) = inl (f w p)
either_in i j k l f h w (inr p) = inr (h w p)

choice_in : (b : Bool) (i j k l : Comes) → In i k → In j l → In (choice b i j) (choice b k l)
choice_in true i j k l f h = f
choice_in false i j k l f h = h

pub turns_in : (n : ℕ) (once twice : Comes → Comes) → ((j k : Comes) → In j k → In (once j) (twice k)) → In (turns n once) (turns n twice)
turns_in zero once twice h w p = p
turns_in (suc n) once twice h w p = h (turns n once) (turns n twice) (turns_in n once twice h) w p

loop_in : (once twice : Comes → Comes) → ((j k : Comes) → In j k → In (once j) (twice k)) → In (loop once) (loop twice)
loop_in once twice h w p = (p.0, turns_in p.0 once twice h w p.1)

-- ---- expressions

pub record Under (M N : Ways) : Type 0 where
  pub true_in : In (true_way M) (true_way N)
  pub false_in : In (false_way M) (false_way N)
  pub evaluated_in : (o : Outcomes) → In (evaluated o M) (evaluated o N)

pub under_value : (j k : Comes) → In j k → Under (value j) (value k)
under_value j k h = record { true_in = h; false_in = h; evaluated_in = λ o. h }

decided_in : (o : Outcomes) (d : ℕ) (i j k l : Comes) → In i k → In j l → In (decided o d i j) (decided o d k l)
decided_in both d i j k l f h = either_in _ _ _ _ (emit_in _ i k f) (emit_in _ j l h)
decided_in only_true d i j k l f h = emit_in _ i k f
decided_in only_false d i j k l f h = emit_in _ j l h
decided_in (cases vs) d i j k l f h = either_in _ _ _ _ (emit_in _ i k f) (emit_in _ j l h)

pub under_test : (d : ℕ) (i j k l : Comes) → In i k → In j l → Under (test d i j) (test d k l)
under_test d i j k l f h = record { true_in = f; false_in = h; evaluated_in = λ o. decided_in o d i j k l f h }

pub used_in : (a : NodeShape) (s : Walked) (j k : Comes) → In j k → In (used_at a s j) (used_at a s k)
used_in a s j k h = emit_if_in (holds_scalar a) (act (Use (next_use s))) j k h

pub defined_in : (a : NodeShape) (s : Walked) (j k : Comes) → In j k → In (defined_at a s j) (defined_at a s k)
defined_in a s j k h = emit_if_in (holds_place a) (act (Define (next_def s))) j k h

pub read_in : (r : Taken) (n : NoteShape) (f : ExprShape) (s : Walked) (j k : Comes) → In j k → In (read_form r n f s j) (read_form r n f s k)
read_in r n f s j k h = emit_if_in (reads r n f) (act (Use (next_use s))) j k h

stepped_in : (a : NodeShape) (s : Walked) (j k : Comes) → In j k → In (used_at a s (defined_at a s j)) (used_at a s (defined_at a s k))
stepped_in a s j k h = used_in a s _ _ (defined_in a s j k h)

pub changed_in : (r : Taken) (a : NodeShape) (s : Walked) (j k : Comes) → In j k → In (changed_at r a s j) (changed_at r a s k)
changed_in Changed a s j k h = emit_if_in _ _ j k h
changed_in Read a s j k h = h
changed_in Written a s j k h = h
changed_in Copied a s j k h = h
changed_in Addressed a s j k h = h

pub entered_in : (t : TablesShape) (n : NoteShape) (j k : Comes) → In j k → In (entered t n j) (entered t n k)
entered_in t (typed y (Some f)) j k h = emit_if_in _ _ j k h
entered_in t (typed y None) j k h = h
entered_in t bare j k h = h
entered_in t (known y v) j k h = h

module _ (t : TablesShape) where
  mutual
    pub node_in : (c : Around) (r : Taken) (a : NodeShape) (s : Walked) (M N : Ways) → Under M N → In (node_goes t c r a s M) (node_goes t c r a s N)
    node_in c r (node p o n f) s M N u = form_in c r p n f s M N u

    pub form_in : (c : Around) (r : Taken) (p : Pos) (n : NoteShape) (f : ExprShape) (s : Walked) (M N : Ways) → Under M N → In (form_goes t c r p n f s M) (form_goes t c r p n f s N)
    form_in c r p n (leaf l) s M N u = emit_if_in _ _ _ _ (u.evaluated_in _)
    form_in c r p n (paren a) s M N u = node_in c r a s M N u
    form_in c r p n (probe q a) s M N u = node_in c r a s M N u
    form_in c r p n (call x args) s M N u = nodes_in c args s _ _ (entered_in t n _ _ (u.evaluated_in both))
    form_in c r p n (prefix (unary q) a) s M N u = value_in c (operand_taken q) a _ _ _ (emit_if_in _ _ _ _ (u.evaluated_in both))
    form_in c r p n (prefix (before q) a) s M N u = value_in c Changed a s _ _ (stepped_in a s _ _ (u.evaluated_in both))
    form_in c r p n (prefix size_of a) s M N u = u.evaluated_in both
    form_in c r p n (size_of_type y) s M N u = u.evaluated_in both
    form_in c r p n (cast y a) s M N u = value_in c Read a s _ _ (u.evaluated_in both)
    form_in c r p n (suffix a (index b)) s M N u =
        let j = with_site c r p n (suffix a (index b)) s in
        value_in c Read a j _ _ (value_in c Read b (walk_node c Read a j) _ _ (emit_if_in _ _ _ _ (u.evaluated_in both)))
    form_in c r p n (suffix a (field h x q)) s M N u = value_in c Read a _ _ _ (emit_if_in _ _ _ _ (u.evaluated_in both))
    form_in c r p n (suffix a (behind q)) s M N u = value_in c Changed a s _ _ (stepped_in a s _ _ (u.evaluated_in both))
    form_in c r p n (two (plain q) a b) s M N u = value_in c Read a s _ _ (value_in c Read b (walk_node c Read a s) _ _ (u.evaluated_in both))
    form_in c r p n (two comma a b) s M N u = value_in c Read a s _ _ (value_in c Read b (walk_node c Read a s) _ _ (u.evaluated_in both))
    form_in c r p n (two and a b) s M N u = test_in c a s _ _ _ _ (emit_in _ _ _ (test_in c b _ _ _ _ _ u.true_in u.false_in)) u.false_in
    form_in c r p n (two or a b) s M N u = test_in c a s _ _ _ _ u.true_in (emit_in _ _ _ (test_in c b _ _ _ _ _ u.true_in u.false_in))
    form_in c r p n (two (assign q) a b) s M N u =
        value_in c (left_taken q) a s _ _ (changed_in (left_taken q) a s _ _ (value_in c (right_taken q a) b (walk_node c (left_taken q) a s) _ _ (emit_if_in _ _ _ _ (u.evaluated_in both))))
    form_in c r p n (choose a b d) s M N u = test_in c a s _ _ _ _ (arm_in c b _ _ _ (u.evaluated_in both)) (arm_in c d _ _ _ (u.evaluated_in both))

    pub value_in : (c : Around) (r : Taken) (a : NodeShape) (s : Walked) (j k : Comes) → In j k → In (node_goes t c r a s (value j)) (node_goes t c r a s (value k))
    value_in c r (node p o n f) s j k h = form_in c r p n f s (value j) (value k) (under_value j k h)

    pub test_in : (c : Around) (a : NodeShape) (s : Walked) (i j k l : Comes) → In i k → In j l → In (test_goes t c a s i j) (test_goes t c a s k l)
    test_in c (node p o n f) s i j k l g h = form_in (inside_test c f s) Read p n f (with_test p f s) _ _ (under_test (next_decision s) i j k l g h)

    pub arm_in : (c : Around) (a : NodeShape) (s : Walked) (j k : Comes) → In j k → In (arm_goes t c a s j) (arm_goes t c a s k)
    arm_in c (node p o n f) s j k h = emit_in _ _ _ (form_in c Read p n f (with_block p s) (value j) (value k) (under_value j k h))

    pub nodes_in : (c : Around) (args : NodeShapes) (s : Walked) (j k : Comes) → In j k → In (nodes_go t c args s j) (nodes_go t c args s k)
    nodes_in c no_nodes s j k h = h
    nodes_in c (more_nodes a rest) s j k h = value_in c Read a s _ _ (nodes_in c rest (walk_node c Read a s) j k h)

  pub maybe_in : (c : Around) (a : MaybeNode) (s : Walked) (j k : Comes) → In j k → In (maybe_goes t c a s j) (maybe_goes t c a s k)
  maybe_in c no_node s j k h = h
  maybe_in c (one_node a) s j k h = value_in c Read a s j k h

  pub loop_test_in : (c : Around) (a : MaybeNode) (s : Walked) (i j k l : Comes) → In i k → In j l → In (loop_test_goes t c a s i j) (loop_test_goes t c a s k l)
  loop_test_in c no_node s i j k l g h = g
  loop_test_in c (one_node a) s i j k l g h = emit_in _ _ _ (test_in c a _ i j k l g h)

  pub step_in : (c : Around) (a : MaybeNode) (s : Walked) (j k : Comes) → In j k → In (step_goes t c a s j) (step_goes t c a s k)
  step_in c no_node s j k h = h
  step_in c (one_node a) s j k h = arm_in c a s j k h

  -- ---- declarations

  init_in : (c : Around) (x : Option Named) (i : InitShape) (s : Walked) (j k : Comes) → In j k → In (init_goes t c x i s j) (init_goes t c x i s k)
  init_in c x (one a) s j k h = value_in c Read a _ _ _ (emit_in _ j k h)
  init_in c x (listed p items last) s j k h = emit_in _ j k h

  maybe_init_in : (c : Around) (x : Option Named) (i : MaybeInit) (s : Walked) (j k : Comes) → In j k → In (maybe_init_goes t c x i s j) (maybe_init_goes t c x i s k)
  maybe_init_in c x no_init s j k h = h
  maybe_init_in c x (one_init i) s j k h = init_in c x i s j k h

  pub declarator_in : (c : Around) (d : DeclaratorShape) (s : Walked) (j k : Comes) → In j k → In (declarator_goes t c d s j) (declarator_goes t c d s k)
  declarator_in c (declarator stars x (arrays ls) i) s j k h = emit_in _ _ _ (maybe_init_in c x i (with_variable s) j k h)
  declarator_in c (declarator stars x (function ps) i) s j k h = h

  pub declarators_in : (c : Around) (ds : DeclaratorShapes) (s : Walked) (j k : Comes) → In j k → In (declarators_go t c ds s j) (declarators_go t c ds s k)
  declarators_in c no_declarators s j k h = h
  declarators_in c (more_declarators d rest) s j k h = declarator_in c d s _ _ (declarators_in c rest (walk_declarator t c d s) j k h)

  decl_in : (c : Around) (d : DeclShape) (s : Walked) (j k : Comes) → In j k → In (decl_goes t c d s j) (decl_goes t c d s k)
  decl_in c (decl p specs names) s j k h = declarators_in c names s j k h

  pub decls_in : (c : Around) (ds : DeclShapes) (s : Walked) (j k : Comes) → In j k → In (decls_go t c ds s j) (decls_go t c ds s k)
  decls_in c no_decls s j k h = h
  decls_in c (more_decls d rest) s j k h = decl_in c d s _ _ (decls_in c rest (walk_decl t c d s) j k h)

-- ---- statements

pub record UnderExits (x y : Exits) : Type 0 where
  pub next_in : In x.next y.next
  pub broken_in : In x.broken y.broken
  pub continued_in : In x.continued y.continued
  pub returned_in : In x.returned y.returned

pub under_loop : (j k : Comes) (x y : Exits) → In j k → UnderExits x y → UnderExits (in_loop j x) (in_loop k y)
under_loop j k x y h u = record { next_in = h; broken_in = u.next_in; continued_in = h; returned_in = u.returned_in }

pub under_switch : (x y : Exits) → UnderExits x y → UnderExits (in_switch x) (in_switch y)
under_switch x y u = record { next_in = u.next_in; broken_in = u.next_in; continued_in = u.continued_in; returned_in = u.returned_in }

pub under_then : (j k : Comes) (x y : Exits) → In j k → UnderExits x y → UnderExits (then_goes j x) (then_goes k y)
under_then j k x y h u = record { next_in = h; broken_in = u.broken_in; continued_in = u.continued_in; returned_in = u.returned_in }

pub cases_in : (d o : ℕ) (ls : List LabelShape) (i j k l : Comes) → In i k → In j l → In (cases_go d o ls i j) (cases_go d o ls k l)
cases_in d o [] i j k l g h = h
cases_in d o (case p a ∷ ls) i j k l g h = either_in _ _ _ _ (emit_in _ i k g) (cases_in d (suc o) ls i j k l g h)
cases_in d o (default p ∷ ls) i j k l g h = cases_in d o ls i j k l g h

module _ (t : TablesShape) (c : Around) where
  mutual
    pub stmt_in : (a : StmtShape) (s : Walked) (x y : Exits) → UnderExits x y → In (stmt_goes t c a s x) (stmt_goes t c a s y)
    stmt_in (stmt p marks q f) s x y u = body_in f s x y u

    pub body_in : (f : FormShape) (s : Walked) (x y : Exits) → UnderExits x y → In (body_goes t c f s x) (body_goes t c f s y)
    body_in (compound b) s x y u = compound_in b s x y u
    body_in (simply e) s x y u = maybe_in t c e s _ _ u.next_in
    body_in (when e a) s x y u = test_in t c e s _ _ _ _ (part_in a _ x y u) u.next_in
    body_in (either e a b) s x y u = test_in t c e s _ _ _ _ (part_in a _ x y u) (part_in b _ x y u)
    body_in (while e a) s x y u = loop_in _ _ (λ j k h. loop_test_in t c (one_node e) s _ _ _ _ (part_in a _ _ _ (under_loop j k x y h u)) u.next_in)
    body_in (do_while a e) s x y u = loop_in _ _ (λ j k h. part_in a s _ _ (under_loop _ _ x y (loop_test_in t c (one_node e) (walk_part t c a s) _ _ _ _ h u.next_in) u))
    body_in (for e f g a) s x y u =
        maybe_in t c e s _ _ (loop_in _ _ (λ j k h. loop_test_in t c f (walk_maybe c e s) _ _ _ _ (part_in a (walk_step c g (walk_maybe_test c f (walk_maybe c e s))) _ _ (under_loop _ _ x y (step_in t c g (walk_maybe_test c f (walk_maybe c e s)) j k h) u)) u.next_in))
    body_in (switch e items) s x y u =
        node_in t (inside c s) Read e _ _ _ (under_value _ _ (cases_under items _ 1 false _ _ _ _ _ (under_switch x y u) (emit_in _ _ _ (default_under false items _ _ _ (under_switch x y u)))))
    body_in break s x y u = u.broken_in
    body_in continue s x y u = u.continued_in
    body_in (return e) s x y u = maybe_in t c e s _ _ u.returned_in

    pub part_in : (a : StmtShape) (s : Walked) (x y : Exits) → UnderExits x y → In (part_goes t c a s x) (part_goes t c a s y)
    part_in (stmt p marks q f) s x y u = emit_in _ _ _ (body_in f (with_block p s) x y u)

    pub compound_in : (b : CompoundShape) (s : Walked) (x y : Exits) → UnderExits x y → In (compound_goes t c b s x) (compound_goes t c b s y)
    compound_in (braces p ds items) s x y u = decls_in t c ds s _ _ (items_in false items _ x y u)

    pub items_in : (after : Bool) (items : ItemShapes) (s : Walked) (x y : Exits) → UnderExits x y → In (items_go t c after items s x) (items_go t c after items s y)
    items_in after no_items s x y u = u.next_in
    items_in after (more_items labels a rest) s x y u = emit_if_in _ _ _ _ (stmt_in a _ _ _ (under_then _ _ x y (items_in (splits a) rest _ x y u) u))

    pub cases_under : (items : ItemShapes) (d o : ℕ) (after : Bool) (s : Walked) (x y : Exits) (j k : Comes) → UnderExits x y → In j k → In (at_cases t c d o after items s x j) (at_cases t c d o after items s y k)
    cases_under no_items d o after s x y j k u h = h
    cases_under (more_items labels a rest) d o after s x y j k u h =
        cases_in d o labels _ _ _ _ (emit_if_in _ _ _ _ (stmt_in a _ _ _ (under_then _ _ x y (items_in (splits a) rest _ x y u) u))) (cases_under rest d (o + case_count labels) (splits a) _ x y j k u h)

    pub default_under : (after : Bool) (items : ItemShapes) (s : Walked) (x y : Exits) → UnderExits x y → In (at_default t c after items s x) (at_default t c after items s y)
    default_under after no_items s x y u = u.next_in
    default_under after (more_items labels a rest) s x y u =
        choice_in (has_default labels) _ _ _ _ (emit_if_in _ _ _ _ (stmt_in a _ _ _ (under_then _ _ x y (items_in (splits a) rest _ x y u) u))) (default_under (splits a) rest _ x y u)
