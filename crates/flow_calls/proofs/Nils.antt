-- A walk may stop before it begins: each set of a part of a function holds the empty list where those behind the part do.
use Rattle.std.specs.Prelude.{◌||◌}
use Rattle.std.proofs.Common.{ℕ, ◌+◌, List, [], ◌∷◌, Bool, true, false, Option, Some, None, inl}
use Rattle.c_base.specs.declared.place.Pos.{Pos}
use Rattle.c_syntax.specs.declared.tree.Named.{Named}
use Rattle.c_syntax.specs.Shape.{NoteShape, bare, known, typed, unary, before, size_of, plain, and, or, assign, comma, NodeShape, node, ExprShape, leaf, paren, call, prefix, size_of_type, cast, suffix, two, choose, probe, index, field, behind, NodeShapes, no_nodes, more_nodes, MaybeNode, no_node, one_node, DeclShape, decl, DeclShapes, no_decls, more_decls, DeclaratorShape, declarator, DeclaratorShapes, no_declarators, more_declarators, arrays, function, InitShape, one, listed, LabelShape, case, default, StmtShape, stmt, FormShape, compound, simply, when, either, while, do_while, for, switch, break, continue, return, CompoundShape, braces, ItemShapes, no_items, more_items}
use Rattle.c_tables.specs.Tables.{TablesShape}
use Rattle.c_walk.specs.declared.around.Around.{Around}
use Rattle.c_walk.specs.declared.around.Taken.{Taken}
use Rattle.c_walk.specs.declared.around.Taken.TheVariants.{Read, Written, Changed, Copied, Addressed}
use Rattle.c_walk.specs.Items.{Outcomes, both, only_true, only_false, cases}
use Rattle.c_tables.specs.Rows.{row}
use Rattle.c_walk.specs.Tests.{outcomes_of_form, choosing, case_values}
use Rattle.c_walk.specs.Counted.{next_block, next_def, next_use}
use Rattle.c_walk.specs.Walking.{walk_node, walk_test, walk_arm}
use Rattle.c_walk.specs.Walked.{Walked, operand_taken, left_taken, right_taken, pos_of, with_block_if, with_decision, with_site, inside, inside_test, with_test, next_decision}
use Rattle.c_walk.specs.Stating.{with_whole_def, walk_declarator, walk_decl, walk_decls, walk_choice, walk_stmt, walk_part, splits, is_labelled, pos_of_stmt, case_count, has_default}
use Rattle.flow_walks.specs.declared.action.Action.TheVariants.{Define, Use, Block}
use Rattle.flow_walks.specs.Comes.{Met, act, enter, Comes, emit, emit_if, choice, loop, Ways, value, test, true_way, false_way, decided, evaluated}
use Rattle.flow_walks.specs.Expressions.{holds_place, holds_scalar, used_at, defined_at, reads, read_form, is_defined, changed_at, entered, node_goes, form_goes, test_goes, arm_goes, nodes_go, maybe_goes, loop_test_goes, step_goes}
use Rattle.flow_walks.specs.Statements.{init_goes, declarator_goes, declarators_go, decl_goes, decls_go, Exits, in_loop, in_switch, then_goes, cases_go, stmt_goes, body_goes, part_goes, compound_goes, items_go, at_cases, at_default}

pub record NilWays (m : Ways) : Type 0 where
  pub evaluated_nil : (o : Outcomes) → evaluated o m []
  pub true_nil : true_way m []
  pub false_nil : false_way m []

pub nil_value : (k : Comes) → k [] → NilWays (value k)
nil_value k h = record { evaluated_nil = λ o. h; true_nil = h; false_nil = h }

decided_nil : (o : Outcomes) (d : ℕ) (j k : Comes) → decided o d j k []
decided_nil both d j k = inl tt
decided_nil only_true d j k = tt
decided_nil only_false d j k = tt
decided_nil (cases vs) d j k = inl tt

pub nil_test : (d : ℕ) (j k : Comes) → j [] → k [] → NilWays (test d j k)
nil_test d j k h g = record { evaluated_nil = λ o. decided_nil o d j k; true_nil = h; false_nil = g }

pub emit_if_nil : (b : Bool) (a : Met) (k : Comes) → k [] → emit_if b a k []
emit_if_nil true a k h = tt
emit_if_nil false a k h = h

pub entered_nil : (t : TablesShape) (n : NoteShape) (k : Comes) → k [] → entered t n k []
entered_nil t (typed y (Some f)) k h = emit_if_nil (is_defined (row t.functions f)) (enter f) k h
entered_nil t (typed y None) k h = h
entered_nil t bare k h = h
entered_nil t (known y v) k h = h

pub read_nil : (r : Taken) (n : NoteShape) (f : ExprShape) (w : Walked) (k : Comes) → k [] → read_form r n f w k []
read_nil r n f w k h = emit_if_nil (reads r n f) (act (Use (next_use w))) k h

pub used_nil : (a : NodeShape) (w : Walked) (k : Comes) → k [] → used_at a w k []
used_nil a w k h = emit_if_nil (holds_scalar a) (act (Use (next_use w))) k h

pub defined_nil : (a : NodeShape) (w : Walked) (k : Comes) → k [] → defined_at a w k []
defined_nil a w k h = emit_if_nil (holds_place a) (act (Define (next_def w))) k h

pub block_nil : (b : Bool) (w : Walked) (k : Comes) → k [] → emit_if b (act (Block (next_block w))) k []
block_nil b w k h = emit_if_nil b (act (Block (next_block w))) k h

changed_nil : (r : Taken) (a : NodeShape) (w : Walked) (k : Comes) → k [] → changed_at r a w k []
changed_nil Changed a w k h = used_nil a w k h
changed_nil Read a w k h = h
changed_nil Written a w k h = h
changed_nil Copied a w k h = h
changed_nil Addressed a w k h = h

module _ (t : TablesShape) where
  mutual
    pub node_nil : (c : Around) (r : Taken) (a : NodeShape) (w : Walked) (m : Ways) → NilWays m → node_goes t c r a w m []
    node_nil c r (node p o n f) w m h = form_nil c r p n f w m h

    pub form_nil : (c : Around) (r : Taken) (p : Pos) (n : NoteShape) (f : ExprShape) (w : Walked) (m : Ways) → NilWays m → form_goes t c r p n f w m []
    form_nil c r p n (leaf l) w m h = read_nil r n (leaf l) w (evaluated (outcomes_of_form (leaf l)) m) (h.evaluated_nil (outcomes_of_form (leaf l)))
    form_nil c r p n (paren a) w m h = node_nil c r a w m h
    form_nil c r p n (probe u a) w m h = node_nil c r a w m h
    form_nil c r p n (call x args) w m h = nodes_nil c args w _ (entered_nil t n (evaluated both m) (h.evaluated_nil both))
    form_nil c r p n (prefix (unary u) a) w m h = value_nil c (operand_taken u) a (with_site c r p n (prefix (unary u) a) w) _ (read_nil r n (prefix (unary u) a) w (evaluated both m) (h.evaluated_nil both))
    form_nil c r p n (prefix (before u) a) w m h = value_nil c Changed a w _ (used_nil a w (defined_at a w (evaluated both m)) (defined_nil a w (evaluated both m) (h.evaluated_nil both)))
    form_nil c r p n (prefix size_of a) w m h = h.evaluated_nil both
    form_nil c r p n (size_of_type y) w m h = h.evaluated_nil both
    form_nil c r p n (cast y a) w m h = value_nil c Read a w (evaluated both m) (h.evaluated_nil both)
    form_nil c r p n (suffix a (index b)) w m h =
        let j = with_site c r p n (suffix a (index b)) w in
        value_nil c Read a j _ (value_nil c Read b (walk_node c Read a j) _ (read_nil r n (suffix a (index b)) w (evaluated both m) (h.evaluated_nil both)))
    form_nil c r p n (suffix a (field v x q)) w m h = value_nil c Read a (with_site c r p n (suffix a (field v x q)) w) _ (read_nil r n (suffix a (field v x q)) w (evaluated both m) (h.evaluated_nil both))
    form_nil c r p n (suffix a (behind u)) w m h = value_nil c Changed a w _ (used_nil a w (defined_at a w (evaluated both m)) (defined_nil a w (evaluated both m) (h.evaluated_nil both)))
    form_nil c r p n (two (plain u) a b) w m h = value_nil c Read a w _ (value_nil c Read b (walk_node c Read a w) (evaluated both m) (h.evaluated_nil both))
    form_nil c r p n (two comma a b) w m h = value_nil c Read a w _ (value_nil c Read b (walk_node c Read a w) (evaluated both m) (h.evaluated_nil both))
    form_nil c r p n (two and a b) w m h = test_nil c a w (emit _ _) (false_way m) tt h.false_nil
    form_nil c r p n (two or a b) w m h = test_nil c a w (true_way m) (emit _ _) h.true_nil tt
    form_nil c r p n (two (assign u) a b) w m h = value_nil c (left_taken u) a w _ (changed_nil (left_taken u) a w _ (value_nil c (right_taken u a) b (walk_node c (left_taken u) a w) _ (defined_nil a w (evaluated both m) (h.evaluated_nil both))))
    form_nil c r p n (choose a b d) w m h =
        let j = walk_test c a w in
        test_nil c a w _ _ (arm_nil c b j (evaluated both m)) (arm_nil c d (walk_arm c b j) (evaluated both m))

    pub value_nil : (c : Around) (r : Taken) (a : NodeShape) (w : Walked) (k : Comes) → k [] → node_goes t c r a w (value k) []
    value_nil c r (node p o n f) w k h = form_nil c r p n f w (value k) (nil_value k h)

    pub test_nil : (c : Around) (a : NodeShape) (w : Walked) (j k : Comes) → j [] → k [] → test_goes t c a w j k []
    test_nil c (node p o n f) w j k h g = form_nil (inside_test c f w) Read p n f (with_test p f w) (test (next_decision w) j k) (nil_test (next_decision w) j k h g)

    pub arm_nil : (c : Around) (a : NodeShape) (w : Walked) (k : Comes) → arm_goes t c a w k []
    arm_nil c (node p o n f) w k = tt

    pub nodes_nil : (c : Around) (args : NodeShapes) (w : Walked) (k : Comes) → k [] → nodes_go t c args w k []
    nodes_nil c no_nodes w k h = h
    nodes_nil c (more_nodes a rest) w k h = value_nil c Read a w _ (nodes_nil c rest (walk_node c Read a w) k h)

  pub maybe_nil : (c : Around) (a : MaybeNode) (w : Walked) (k : Comes) → k [] → maybe_goes t c a w k []
  maybe_nil c no_node w k h = h
  maybe_nil c (one_node a) w k h = value_nil c Read a w k h

  pub loop_test_nil : (c : Around) (a : MaybeNode) (w : Walked) (j k : Comes) → j [] → loop_test_goes t c a w j k []
  loop_test_nil c no_node w j k h = h
  loop_test_nil c (one_node a) w j k h = tt

  pub step_nil : (c : Around) (a : MaybeNode) (w : Walked) (k : Comes) → k [] → step_goes t c a w k []
  step_nil c no_node w k h = h
  step_nil c (one_node a) w k h = arm_nil c a w k

  -- ---- declarations

  pub init_nil : (c : Around) (x : Option Named) (i : InitShape) (w : Walked) (k : Comes) → init_goes t c x i w k []
  init_nil c x (one a) w k = value_nil c Read a (with_whole_def t c.function x w) (emit (act (Define (next_def w))) k) tt
  init_nil c x (listed p items last) w k = tt

  declarator_nil : (c : Around) (d : DeclaratorShape) (w : Walked) (k : Comes) → k [] → declarator_goes t c d w k []
  declarator_nil c (declarator stars x (arrays ls) i) w k h = tt
  declarator_nil c (declarator stars x (function ps) i) w k h = h

  pub declarators_nil : (c : Around) (ds : DeclaratorShapes) (w : Walked) (k : Comes) → k [] → declarators_go t c ds w k []
  declarators_nil c no_declarators w k h = h
  declarators_nil c (more_declarators d rest) w k h = declarator_nil c d w _ (declarators_nil c rest (walk_declarator t c d w) k h)

  decl_nil : (c : Around) (d : DeclShape) (w : Walked) (k : Comes) → k [] → decl_goes t c d w k []
  decl_nil c (decl p specs names) w k h = declarators_nil c names w k h

  pub decls_nil : (c : Around) (ds : DeclShapes) (w : Walked) (k : Comes) → k [] → decls_go t c ds w k []
  decls_nil c no_decls w k h = h
  decls_nil c (more_decls d rest) w k h = decl_nil c d w _ (decls_nil c rest (walk_decl t c d w) k h)

-- ---- statements

pub record NilExits (x : Exits) : Type 0 where
  pub next_nil : x.next []
  pub broken_nil : x.broken []
  pub continued_nil : x.continued []
  pub returned_nil : x.returned []

pub nil_loop : (again : Comes) (x : Exits) → again [] → NilExits x → NilExits (in_loop again x)
nil_loop again x h g = record { next_nil = h; broken_nil = g.next_nil; continued_nil = h; returned_nil = g.returned_nil }

pub nil_switch : (x : Exits) → NilExits x → NilExits (in_switch x)
nil_switch x g = record { next_nil = g.next_nil; broken_nil = g.next_nil; continued_nil = g.continued_nil; returned_nil = g.returned_nil }

pub nil_then : (k : Comes) (x : Exits) → k [] → NilExits x → NilExits (then_goes k x)
nil_then k x h g = record { next_nil = h; broken_nil = g.broken_nil; continued_nil = g.continued_nil; returned_nil = g.returned_nil }

cases_nil : (d o : ℕ) (ls : List LabelShape) (j k : Comes) → k [] → cases_go d o ls j k []
cases_nil d o [] j k h = h
cases_nil d o (case p a ∷ ls) j k h = inl tt
cases_nil d o (default p ∷ ls) j k h = cases_nil d o ls j k h

choice_nil : (b : Bool) (j k : Comes) → j [] → k [] → choice b j k []
choice_nil true j k h g = h
choice_nil false j k h g = g

module _ (t : TablesShape) (c : Around) where
  pub at_cases_nil : (items : ItemShapes) (d o : ℕ) (after : Bool) (w : Walked) (x : Exits) (k : Comes) → k [] → at_cases t c d o after items w x k []
  at_cases_nil no_items d o after w x k h = h
  at_cases_nil (more_items labels a rest) d o after w x k h =
      let j = with_block_if (after || is_labelled labels) (pos_of_stmt a) w in
      cases_nil d o labels _ (at_cases t c d (o + case_count labels) (splits a) rest (walk_stmt t c a j) x k) (at_cases_nil rest d (o + case_count labels) (splits a) (walk_stmt t c a j) x k h)

  mutual
    pub stmt_nil : (a : StmtShape) (w : Walked) (x : Exits) → NilExits x → stmt_goes t c a w x []
    stmt_nil (stmt p marks q f) w x h = body_nil f w x h

    pub body_nil : (f : FormShape) (w : Walked) (x : Exits) → NilExits x → body_goes t c f w x []
    body_nil (compound b) w x h = compound_nil b w x h
    body_nil (simply e) w x h = maybe_nil t c e w x.next h.next_nil
    body_nil (when e a) w x h = test_nil t c e w (part_goes t c a (walk_test c e w) x) x.next (part_nil a (walk_test c e w) x) h.next_nil
    body_nil (either e a b) w x h =
        let j = walk_test c e w in
        test_nil t c e w (part_goes t c a j x) (part_goes t c b (walk_part t c a j) x) (part_nil a j x) (part_nil b (walk_part t c a j) x)
    body_nil (while e a) w x h = (0, tt)
    body_nil (do_while a e) w x h = (0, tt)
    body_nil (for e f g a) w x h = maybe_nil t c e w (loop _) (0, tt)
    body_nil (switch e items) w x h =
        let d = next_decision w in
        value_nil t (inside c w) Read e (with_decision (pos_of e) (cases (case_values (choosing e) items)) w) _ (at_cases_nil items d 1 false (walk_choice c e items w) (in_switch x) (emit _ _) tt)
    body_nil break w x h = h.broken_nil
    body_nil continue w x h = h.continued_nil
    body_nil (return e) w x h = maybe_nil t c e w x.returned h.returned_nil

    pub part_nil : (a : StmtShape) (w : Walked) (x : Exits) → part_goes t c a w x []
    part_nil (stmt p marks q f) w x = tt

    pub compound_nil : (b : CompoundShape) (w : Walked) (x : Exits) → NilExits x → compound_goes t c b w x []
    compound_nil (braces p ds items) w x h = decls_nil t c ds w _ (items_nil false items (walk_decls t c ds w) x h)

    pub items_nil : (after : Bool) (items : ItemShapes) (w : Walked) (x : Exits) → NilExits x → items_go t c after items w x []
    items_nil after no_items w x h = h.next_nil
    items_nil after (more_items labels a rest) w x h =
        let b = after || is_labelled labels in
        let j = with_block_if b (pos_of_stmt a) w in
        let k = items_go t c (splits a) rest (walk_stmt t c a j) x in
        block_nil b w (stmt_goes t c a j (then_goes k x)) (stmt_nil a j (then_goes k x) (nil_then k x (items_nil (splits a) rest (walk_stmt t c a j) x h) h))

  pub default_nil : (after : Bool) (items : ItemShapes) (w : Walked) (x : Exits) → NilExits x → at_default t c after items w x []
  default_nil after no_items w x h = h.next_nil
  default_nil after (more_items labels a rest) w x h =
      let b = after || is_labelled labels in
      let j = with_block_if b (pos_of_stmt a) w in
      let k = items_go t c (splits a) rest (walk_stmt t c a j) x in
      choice_nil (has_default labels) (emit_if b (act (Block (next_block w))) (stmt_goes t c a j (then_goes k x))) (at_default t c (splits a) rest (walk_stmt t c a j) x)
      (block_nil b w (stmt_goes t c a j (then_goes k x)) (stmt_nil a j (then_goes k x) (nil_then k x (items_nil (splits a) rest (walk_stmt t c a j) x h) h)))
      (default_nil (splits a) rest (walk_stmt t c a j) x h)
