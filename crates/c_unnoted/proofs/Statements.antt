-- Statements are typed alike without their notes.
use Rattle.std.proofs.Common.{◌≡◌, ℕ, List, [], ◌∷◌, map, Option, Some, None, refl, ap, ◌∙◌}
use Rattle.c_base.specs.declared.place.Pos.{Pos}
use Rattle.c_syntax.specs.Shape.{TypeOf, NodeShape, node, MaybeNode, no_node, one_node, LabelShape, case, default, StmtShape, stmt, FormShape, compound, simply, when, either, while, do_while, for, switch, break, continue, return, CompoundShape, braces, ItemShapes, no_items, more_items}
use Rattle.c_type_rules.specs.Verdicts.{truth_type}
use Rattle.c_constants.specs.Constants as constants
use Rattle.c_tree.specs.Complaints.{wrong_type}
use Rattle.c_tree.specs.State.{State, steps, step}
use Rattle.c_tree.specs.Rulings.{by, rule}
use Rattle.c_tree.specs.Sorts.{TypedNode, pos_in}
use Rattle.c_tree.specs.Parts.{judged_constant}
use Rattle.c_tree.specs.Typing.{type_node}
use Rattle.c_tree.specs.Declaring.{opened_scope, closed_scope, type_decls}
use Rattle.c_tree.specs.Stating.{Surroundings, in_loop, in_switch, Labels, no_labels, tested, switched, TypedMaybe, a_maybe, type_maybe, type_test, result_rule, type_result, type_marks, TypedLabels, case_state, default_state, case_labels, default_labels, one_label, type_labels, TypedStmt, TypedBody, TypedCompound, TypedItems, type_stmt, type_body, type_compound, type_items}
use Rattle.c_tree.specs.Unnoted.{bare_node, bare_maybe, bare_label, bare_stmt, bare_body, bare_compound, bare_items}
use Rattle.c_unnoted.specs.Written.{written_node, written_maybe, written_decls, written_label, written_stmt, written_body, written_compound, written_items}
use Rattle.c_unnoted.proofs.Nodes.{written_typed, pos_same, node_typed}
use Rattle.c_unnoted.proofs.Functions.{decls_typed}

-- ---- what is typed, with the notes that typing writes

abbrev written_maybe_typed : TypedMaybe → TypedMaybe
written_maybe_typed t = record { node = written_maybe t.node; state = t.state }

abbrev written_labels : TypedLabels → TypedLabels
written_labels t = record { labels = map written_label t.labels; so_far = t.so_far; state = t.state }

abbrev written_statement : TypedStmt → TypedStmt
written_statement t = record { stmt = written_stmt t.stmt; state = t.state }

abbrev written_of : TypedBody → TypedBody
written_of t = record { form = written_body t.form; state = t.state }

abbrev pub written_braces : TypedCompound → TypedCompound
written_braces t = record { compound = written_compound t.compound; state = t.state }

abbrev written_item_list : TypedItems → TypedItems
written_item_list t = record { items = written_items t.items; state = t.state }

-- ---- expressions in statements

written_pos : (a : NodeShape) → pos_in (written_node a) ≡ pos_in a
written_pos (node p o n f) = refl

test_same : (first : ℕ) (t : TypedNode) → tested first (written_typed t) ≡ tested first t
test_same first t = ap (λ q. rule (by wrong_type (truth_type t.sort.kind)) first q t.state) (written_pos t.node)

maybe_typed : (e : MaybeNode) (s : State) → type_maybe (bare_maybe e) s ≡ written_maybe_typed (type_maybe e s)
maybe_typed no_node s = refl
maybe_typed (one_node a) s = ap (λ t. a_maybe t t.state) (node_typed a s)

test_typed : (e : MaybeNode) (s : State) → type_test (bare_maybe e) s ≡ written_maybe_typed (type_test e s)
test_typed no_node s = refl
test_typed (one_node a) s =
    let t = type_node a s in
    ap (λ v. a_maybe v (tested s.at v)) (node_typed a s) ∙ ap (a_maybe (written_typed t)) (test_same s.at t)

result_typed : (token : ℕ) (p : Pos) (k : Option TypeOf) (e : MaybeNode) (s : State) → type_result token p k (bare_maybe e) s ≡ written_maybe_typed (type_result token p k e s)
result_typed token p k no_node s = refl
result_typed token p k (one_node a) s = ap (λ v. a_maybe v (rule (result_rule k v.sort) token p v.state)) (node_typed a s)

-- ---- labels

-- a case, by its constant and what was judged of that
abbrev case_with : State → Option Labels → List LabelShape → Pos → Pos → TypedNode → TypedLabels
case_with s o rest p q t =
    let v = constants.value t.sort.constant in
    one_label (case p t.node) (type_labels (case_labels o v) (map bare_label rest) (step (case_state s.at p o v (judged_constant (step s).at q t.sort t.state))))

labels_typed : (o : Option Labels) (ls : List LabelShape) (s : State) → type_labels o (map bare_label ls) s ≡ written_labels (type_labels o ls s)
labels_typed o [] s = refl
labels_typed o (case p a ∷ rest) s =
    let t = type_node a (step s) in
    let v = constants.value t.sort.constant in
    ap (λ q. case_with s o rest p q (type_node (bare_node a) (step s))) (pos_same a)
    ∙ (ap (case_with s o rest p (pos_in a)) (node_typed a (step s))
    ∙ ap (one_label (case p (written_node t.node))) (labels_typed (case_labels o v) rest (step (case_state s.at p o v (judged_constant (step s).at (pos_in a) t.sort t.state)))))
labels_typed o (default p ∷ rest) s = ap (one_label (default p)) (labels_typed (default_labels o) rest (steps 2 (default_state s.at p o s)))

-- ---- statements

-- the parts of a loop's head, one behind the other
abbrev for_third : Surroundings → StmtShape → MaybeNode → MaybeNode → TypedMaybe → TypedBody
for_third c a x y z =
    let b = type_stmt (in_loop c) (bare_stmt a) (step z.state) in
    record { form = for x y z.node b.stmt; state = b.state }

abbrev for_second : Surroundings → MaybeNode → StmtShape → MaybeNode → TypedMaybe → TypedBody
for_second c g a x y = for_third c a x y.node (type_maybe (bare_maybe g) (step y.state))

abbrev for_first : Surroundings → MaybeNode → MaybeNode → StmtShape → TypedMaybe → TypedBody
for_first c f g a x = for_second c g a x.node (type_test (bare_maybe f) (step x.state))

-- a switch, by its expression, which begins at that place
abbrev switch_with : Surroundings → ItemShapes → ℕ → TypedNode → Pos → TypedBody
switch_with c items first x q =
    let v = type_items (in_switch c) (Some (no_labels (switched x))) (bare_items items) (steps 2 (rule (switched x) first q x.state)) in
    record { form = switch x.node v.items; state = step v.state }

mutual
  stmt_typed : (c : Surroundings) (a : StmtShape) (s : State) → type_stmt c (bare_stmt a) s ≡ written_statement (type_stmt c a s)
  stmt_typed c (stmt p marks q f) s = ap (λ t. record { stmt = stmt p marks q t.form; state = t.state }) (body_typed c q f (type_marks marks s))

  body_typed : (c : Surroundings) (p : Pos) (f : FormShape) (s : State) → type_body c p (bare_body f) s ≡ written_of (type_body c p f s)
  body_typed c p (compound b) s = ap (λ t. record { form = compound t.compound; state = closed_scope t.state }) (compound_typed c b (opened_scope s))
  body_typed c p (simply e) s = ap (λ t. record { form = simply t.node; state = step t.state }) (maybe_typed e s)
  body_typed c p (when e a) s =
      let t = type_node e (steps 2 s) in
      ap (λ x. let v = type_stmt c (bare_stmt a) (step (tested (steps 2 s).at x)) in record { form = when x.node v.stmt; state = v.state }) (node_typed e (steps 2 s))
      ∙ (ap (λ w. let v = type_stmt c (bare_stmt a) (step w) in record { form = when (written_node t.node) v.stmt; state = v.state }) (test_same (steps 2 s).at t)
      ∙ ap (λ v. record { form = when (written_node t.node) v.stmt; state = v.state }) (stmt_typed c a (step (tested (steps 2 s).at t))))
  body_typed c p (either e a b) s =
      let t = type_node e (steps 2 s) in
      let u = step (tested (steps 2 s).at t) in
      let v = type_stmt c a u in
      ap (λ x. let y = type_stmt c (bare_stmt a) (step (tested (steps 2 s).at x)) in let z = type_stmt c (bare_stmt b) (step y.state) in record { form = either x.node y.stmt z.stmt; state = z.state }) (node_typed e (steps 2 s))
      ∙ (ap (λ w. let y = type_stmt c (bare_stmt a) (step w) in let z = type_stmt c (bare_stmt b) (step y.state) in record { form = either (written_node t.node) y.stmt z.stmt; state = z.state }) (test_same (steps 2 s).at t)
      ∙ (ap (λ y. let z = type_stmt c (bare_stmt b) (step y.state) in record { form = either (written_node t.node) y.stmt z.stmt; state = z.state }) (stmt_typed c a u)
      ∙ ap (λ z. record { form = either (written_node t.node) (written_stmt v.stmt) z.stmt; state = z.state }) (stmt_typed c b (step v.state))))
  body_typed c p (while e a) s =
      let t = type_node e (steps 2 s) in
      ap (λ x. let v = type_stmt (in_loop c) (bare_stmt a) (step (tested (steps 2 s).at x)) in record { form = while x.node v.stmt; state = v.state }) (node_typed e (steps 2 s))
      ∙ (ap (λ w. let v = type_stmt (in_loop c) (bare_stmt a) (step w) in record { form = while (written_node t.node) v.stmt; state = v.state }) (test_same (steps 2 s).at t)
      ∙ ap (λ v. record { form = while (written_node t.node) v.stmt; state = v.state }) (stmt_typed (in_loop c) a (step (tested (steps 2 s).at t))))
  body_typed c p (do_while a e) s =
      let v = type_stmt (in_loop c) a (step s) in
      let t = type_node e (steps 2 v.state) in
      ap (λ x. let y = type_node (bare_node e) (steps 2 x.state) in record { form = do_while x.stmt y.node; state = steps 2 (tested (steps 2 x.state).at y) }) (stmt_typed (in_loop c) a (step s))
      ∙ (ap (λ y. record { form = do_while (written_stmt v.stmt) y.node; state = steps 2 (tested (steps 2 v.state).at y) }) (node_typed e (steps 2 v.state))
      ∙ ap (λ u. record { form = do_while (written_stmt v.stmt) (written_node t.node); state = steps 2 u }) (test_same (steps 2 v.state).at t))
  body_typed c p (for e f g a) s =
      let t = type_maybe e (steps 2 s) in
      let v = type_test f (step t.state) in
      let w = type_maybe g (step v.state) in
      ap (for_first c f g a) (maybe_typed e (steps 2 s))
      ∙ (ap (for_second c g a (written_maybe t.node)) (test_typed f (step t.state))
      ∙ (ap (for_third c a (written_maybe t.node) (written_maybe v.node)) (maybe_typed g (step v.state))
      ∙ ap (λ b. record { form = for (written_maybe t.node) (written_maybe v.node) (written_maybe w.node) b.stmt; state = b.state }) (stmt_typed (in_loop c) a (step w.state))))
  body_typed c p (switch e items) s =
      let t = type_node e (steps 2 s) in
      let r = switched t in
      ap (λ x. switch_with c items (steps 2 s).at x (pos_in x.node)) (node_typed e (steps 2 s))
      ∙ (ap (switch_with c items (steps 2 s).at (written_typed t)) (written_pos t.node)
      ∙ ap (λ v. record { form = switch (written_node t.node) v.items; state = step v.state }) (items_typed (in_switch c) (Some (no_labels r)) items (steps 2 (rule r (steps 2 s).at (pos_in t.node) t.state))))
  body_typed c p break s = refl
  body_typed c p continue s = refl
  body_typed c p (return e) s = ap (λ t. record { form = return t.node; state = step t.state }) (result_typed s.at p c.result e (step s))

  pub compound_typed : (c : Surroundings) (b : CompoundShape) (s : State) → type_compound c (bare_compound b) s ≡ written_braces (type_compound c b s)
  compound_typed c (braces p ds items) s =
      let d = type_decls ds (step s) in
      ap (λ x. let t = type_items c None (bare_items items) x.state in record { compound = braces p x.decls t.items; state = step t.state }) (decls_typed ds (step s))
      ∙ ap (λ t. record { compound = braces p (written_decls d.decls) t.items; state = step t.state }) (items_typed c None items d.state)

  items_typed : (c : Surroundings) (o : Option Labels) (items : ItemShapes) (s : State) → type_items c o (bare_items items) s ≡ written_item_list (type_items c o items s)
  items_typed c o no_items s = refl
  items_typed c o (more_items labels a rest) s =
      let l = type_labels o labels s in
      let t = type_stmt c a l.state in
      ap (λ x. let y = type_stmt c (bare_stmt a) x.state in let z = type_items c x.so_far (bare_items rest) y.state in record { items = more_items x.labels y.stmt z.items; state = z.state }) (labels_typed o labels s)
      ∙ (ap (λ y. let z = type_items c l.so_far (bare_items rest) y.state in record { items = more_items (map written_label l.labels) y.stmt z.items; state = z.state }) (stmt_typed c a l.state)
      ∙ ap (λ z. record { items = more_items (map written_label l.labels) (written_stmt t.stmt) z.items; state = z.state }) (items_typed c l.so_far rest t.state))
