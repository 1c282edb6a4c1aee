-- Statements, functions with bodies and units are typed alike without their places.
use Rattle.std.proofs.Common.{◌≡◌, ℕ, ℤ, List, [], ◌∷◌, map, not, Option, Some, None, refl, ap, ◌∙◌}
use Rattle.c_base.specs.declared.place.Pos.{Pos}
use Rattle.c_syntax.specs.declared.tree.ProbeMark.{ProbeMark}
use Rattle.c_syntax.specs.Start.{start}
use Rattle.c_syntax.specs.Shape.{TypeOf, block, MaybeNode, no_node, one_node, LabelShape, case, default, StmtShape, stmt, FormShape, compound, simply, when, either, while, do_while, for, switch, break, continue, return, CompoundShape, braces, ItemShapes, no_items, more_items}
use Rattle.c_type_rules.specs.Verdicts.{truth_type}
use Rattle.c_constants.specs.Constants as constants
use Rattle.c_tree.specs.Complaints.{case_twice, stray, wrong_type}
use Rattle.c_tree.specs.State.{State, steps, step}
use Rattle.c_tree.specs.Rulings.{by, rule}
use Rattle.c_tree.specs.Sorts.{TypedNode, pos_in}
use Rattle.c_tree.specs.Operators.{claim, constant_rule}
use Rattle.c_tree.specs.Parts.{judged_constant}
use Rattle.c_tree.specs.Typing.{type_node}
use Rattle.c_tree.specs.Declaring.{opened_scope, closed_scope, type_decls}
use Rattle.c_tree.specs.Stating.{Surroundings, in_loop, in_switch, Labels, no_labels, tested, switched, TypedMaybe, a_maybe, type_maybe, type_test, result_rule, type_result, type_marks, TypedLabels, comes_twice, as_kind, case_state, default_state, case_labels, default_labels, one_label, type_labels, TypedStmt, TypedBody, TypedCompound, TypedItems, type_stmt, type_body, type_compound, type_items}
use Rattle.c_placing.specs.Unplaced.{unplaced_mark, unplaced_node, unplaced_maybe, unplaced_decls, unplaced_label, unplaced_stmt, unplaced_body, unplaced_compound, unplaced_items}
use Rattle.c_unplaced.specs.Unplaced.{unplaced_state}
use Rattle.c_unplaced.proofs.Rules.{complained, ruled, demanded, number_taken}
use Rattle.c_unplaced.proofs.Nodes.{unplaced_typed, pos_start, node_typed}
use Rattle.c_unplaced.proofs.Functions.{decls_typed}

-- ---- what is typed, without its places

abbrev pub unplaced_maybe_typed : TypedMaybe → TypedMaybe
unplaced_maybe_typed t = record { node = unplaced_maybe t.node; state = unplaced_state t.state }

abbrev pub unplaced_labels : TypedLabels → TypedLabels
unplaced_labels t = record { labels = map unplaced_label t.labels; so_far = t.so_far; state = unplaced_state t.state }

abbrev pub unplaced_statement : TypedStmt → TypedStmt
unplaced_statement t = record { stmt = unplaced_stmt t.stmt; state = unplaced_state t.state }

abbrev pub unplaced_form : TypedBody → TypedBody
unplaced_form t = record { form = unplaced_body t.form; state = unplaced_state t.state }

abbrev pub unplaced_braces : TypedCompound → TypedCompound
unplaced_braces t = record { compound = unplaced_compound t.compound; state = unplaced_state t.state }

abbrev pub unplaced_item_list : TypedItems → TypedItems
unplaced_item_list t = record { items = unplaced_items t.items; state = unplaced_state t.state }

-- ---- expressions in statements

test_judged : (first : ℕ) (t : TypedNode) → tested first (unplaced_typed t) ≡ unplaced_state (tested first t)
test_judged first t =
    let r = by wrong_type (truth_type t.sort.kind) in
    ap (λ q. rule r first q (unplaced_state t.state)) (pos_start t.node) ∙ ruled r first (pos_in t.node) t.state

maybe_typed : (e : MaybeNode) (s : State) → type_maybe (unplaced_maybe e) (unplaced_state s) ≡ unplaced_maybe_typed (type_maybe e s)
maybe_typed no_node s = refl
maybe_typed (one_node a) s = ap (λ t. a_maybe t t.state) (node_typed a s)

test_typed : (e : MaybeNode) (s : State) → type_test (unplaced_maybe e) (unplaced_state s) ≡ unplaced_maybe_typed (type_test e s)
test_typed no_node s = refl
test_typed (one_node a) s =
    let t = type_node a s in
    ap (λ v. a_maybe v (tested s.at v)) (node_typed a s) ∙ ap (a_maybe (unplaced_typed t)) (test_judged s.at t)

result_typed : (token : ℕ) (p : Pos) (k : Option TypeOf) (e : MaybeNode) (s : State) → type_result token start k (unplaced_maybe e) (unplaced_state s) ≡ unplaced_maybe_typed (type_result token p k e s)
result_typed token p k no_node s = refl
result_typed token p k (one_node a) s =
    let t = type_node a s in
    ap (λ v. a_maybe v (rule (result_rule k v.sort) token start v.state)) (node_typed a s) ∙ ap (a_maybe (unplaced_typed t)) (ruled (result_rule k t.sort) token p t.state)

-- ---- probes and labels

pub marks_typed : (ms : List ProbeMark) (s : State) → type_marks (map unplaced_mark ms) (unplaced_state s) ≡ unplaced_state (type_marks ms s)
marks_typed [] s = refl
marks_typed (m ∷ ms) s =
    ap (λ u. type_marks (map unplaced_mark ms) (steps 5 u)) (number_taken block m.number s.at m.pos s) ∙ marks_typed ms (steps 5 (claim block m.number s.at m.pos s))

case_judged : (token : ℕ) (p : Pos) (o : Option Labels) (v : Option ℤ) (s : State) → case_state token start o v (unplaced_state s) ≡ unplaced_state (case_state token p o v s)
case_judged token p None v s = complained stray token p s
case_judged token p (Some l) v s = demanded (not (comes_twice l.kind (as_kind l.kind v) l.values)) case_twice token p s

default_judged : (token : ℕ) (p : Pos) (o : Option Labels) (s : State) → default_state token start o (unplaced_state s) ≡ unplaced_state (default_state token p o s)
default_judged token p None s = complained stray token p s
default_judged token p (Some l) s = demanded (not l.default) case_twice token p s

-- a case, by its constant and what was judged of that
abbrev case_with : ℕ → ℕ → Option Labels → List LabelShape → Pos → TypedNode → TypedLabels
case_with token first o rest q t =
    let v = constants.value t.sort.constant in
    one_label (case start t.node) (type_labels (case_labels o v) (map unplaced_label rest) (step (case_state token start o v (judged_constant first q t.sort t.state))))

labels_typed : (o : Option Labels) (ls : List LabelShape) (s : State) → type_labels o (map unplaced_label ls) (unplaced_state s) ≡ unplaced_labels (type_labels o ls s)
labels_typed o [] s = refl
labels_typed o (case p a ∷ rest) s =
    let t = type_node a (step s) in
    let v = constants.value t.sort.constant in
    let u = judged_constant (step s).at (pos_in a) t.sort t.state in
    let w = case_state s.at p o v u in
    let x = case start (unplaced_node t.node) in
    ap (λ q. case_with s.at (step s).at o rest q (type_node (unplaced_node a) (unplaced_state (step s)))) (pos_start a)
    ∙ (ap (case_with s.at (step s).at o rest start) (node_typed a (step s))
    ∙ (ap (λ y. one_label x (type_labels (case_labels o v) (map unplaced_label rest) (step (case_state s.at start o v y)))) (ruled (constant_rule t.sort) (step s).at (pos_in a) t.state)
    ∙ (ap (λ y. one_label x (type_labels (case_labels o v) (map unplaced_label rest) (step y))) (case_judged s.at p o v u)
    ∙ ap (one_label x) (labels_typed (case_labels o v) rest (step w)))))
labels_typed o (default p ∷ rest) s =
    ap (λ u. one_label (default start) (type_labels (default_labels o) (map unplaced_label rest) (steps 2 u))) (default_judged s.at p o s)
    ∙ ap (one_label (default start)) (labels_typed (default_labels o) rest (steps 2 (default_state s.at p o s)))

-- ---- statements

-- the parts of a loop's head, one behind the other
abbrev for_third : Surroundings → StmtShape → MaybeNode → MaybeNode → TypedMaybe → TypedBody
for_third c a x y z =
    let b = type_stmt (in_loop c) (unplaced_stmt a) (step z.state) in
    record { form = for x y z.node b.stmt; state = b.state }

abbrev for_second : Surroundings → MaybeNode → StmtShape → MaybeNode → TypedMaybe → TypedBody
for_second c g a x y = for_third c a x y.node (type_maybe (unplaced_maybe g) (step y.state))

abbrev for_first : Surroundings → MaybeNode → MaybeNode → StmtShape → TypedMaybe → TypedBody
for_first c f g a x = for_second c g a x.node (type_test (unplaced_maybe f) (step x.state))

-- a switch, by its expression, which begins at that place
abbrev switch_with : Surroundings → ItemShapes → ℕ → TypedNode → Pos → TypedBody
switch_with c items first x q =
    let v = type_items (in_switch c) (Some (no_labels (switched x))) (unplaced_items items) (steps 2 (rule (switched x) first q x.state)) in
    record { form = switch x.node v.items; state = step v.state }

mutual
  stmt_typed : (c : Surroundings) (a : StmtShape) (s : State) → type_stmt c (unplaced_stmt a) (unplaced_state s) ≡ unplaced_statement (type_stmt c a s)
  stmt_typed c (stmt p marks q f) s =
      ap (λ u. let t = type_body c start (unplaced_body f) u in record { stmt = stmt start (map unplaced_mark marks) start t.form; state = t.state }) (marks_typed marks s)
      ∙ ap (λ t. record { stmt = stmt start (map unplaced_mark marks) start t.form; state = t.state }) (body_typed c q f (type_marks marks s))

  body_typed : (c : Surroundings) (p : Pos) (f : FormShape) (s : State) → type_body c start (unplaced_body f) (unplaced_state s) ≡ unplaced_form (type_body c p f s)
  body_typed c p (compound b) s = ap (λ t. record { form = compound t.compound; state = closed_scope t.state }) (compound_typed c b (opened_scope s))
  body_typed c p (simply e) s = ap (λ t. record { form = simply t.node; state = step t.state }) (maybe_typed e s)
  body_typed c p (when e a) s =
      let t = type_node e (steps 2 s) in
      let u = step (tested (steps 2 s).at t) in
      ap (λ x. let v = type_stmt c (unplaced_stmt a) (step (tested (steps 2 s).at x)) in record { form = when x.node v.stmt; state = v.state }) (node_typed e (steps 2 s))
      ∙ (ap (λ w. let v = type_stmt c (unplaced_stmt a) (step w) in record { form = when (unplaced_node t.node) v.stmt; state = v.state }) (test_judged (steps 2 s).at t)
      ∙ ap (λ v. record { form = when (unplaced_node t.node) v.stmt; state = v.state }) (stmt_typed c a u))
  body_typed c p (either e a b) s =
      let t = type_node e (steps 2 s) in
      let u = step (tested (steps 2 s).at t) in
      let v = type_stmt c a u in
      ap (λ x. let y = type_stmt c (unplaced_stmt a) (step (tested (steps 2 s).at x)) in let z = type_stmt c (unplaced_stmt b) (step y.state) in record { form = either x.node y.stmt z.stmt; state = z.state }) (node_typed e (steps 2 s))
      ∙ (ap (λ w. let y = type_stmt c (unplaced_stmt a) (step w) in let z = type_stmt c (unplaced_stmt b) (step y.state) in record { form = either (unplaced_node t.node) y.stmt z.stmt; state = z.state }) (test_judged (steps 2 s).at t)
      ∙ (ap (λ y. let z = type_stmt c (unplaced_stmt b) (step y.state) in record { form = either (unplaced_node t.node) y.stmt z.stmt; state = z.state }) (stmt_typed c a u)
      ∙ ap (λ z. record { form = either (unplaced_node t.node) (unplaced_stmt v.stmt) z.stmt; state = z.state }) (stmt_typed c b (step v.state))))
  body_typed c p (while e a) s =
      let t = type_node e (steps 2 s) in
      let u = step (tested (steps 2 s).at t) in
      ap (λ x. let v = type_stmt (in_loop c) (unplaced_stmt a) (step (tested (steps 2 s).at x)) in record { form = while x.node v.stmt; state = v.state }) (node_typed e (steps 2 s))
      ∙ (ap (λ w. let v = type_stmt (in_loop c) (unplaced_stmt a) (step w) in record { form = while (unplaced_node t.node) v.stmt; state = v.state }) (test_judged (steps 2 s).at t)
      ∙ ap (λ v. record { form = while (unplaced_node t.node) v.stmt; state = v.state }) (stmt_typed (in_loop c) a u))
  body_typed c p (do_while a e) s =
      let v = type_stmt (in_loop c) a (step s) in
      let t = type_node e (steps 2 v.state) in
      ap (λ x. let y = type_node (unplaced_node e) (steps 2 x.state) in record { form = do_while x.stmt y.node; state = steps 2 (tested (steps 2 x.state).at y) }) (stmt_typed (in_loop c) a (step s))
      ∙ (ap (λ y. record { form = do_while (unplaced_stmt v.stmt) y.node; state = steps 2 (tested (steps 2 v.state).at y) }) (node_typed e (steps 2 v.state))
      ∙ ap (λ u. record { form = do_while (unplaced_stmt v.stmt) (unplaced_node t.node); state = steps 2 u }) (test_judged (steps 2 v.state).at t))
  body_typed c p (for e f g a) s =
      let t = type_maybe e (steps 2 s) in
      let v = type_test f (step t.state) in
      let w = type_maybe g (step v.state) in
      ap (λ x. for_first c f g a x) (maybe_typed e (steps 2 s))
      ∙ (ap (for_second c g a (unplaced_maybe t.node)) (test_typed f (step t.state))
      ∙ (ap (for_third c a (unplaced_maybe t.node) (unplaced_maybe v.node)) (maybe_typed g (step v.state))
      ∙ ap (λ b. record { form = for (unplaced_maybe t.node) (unplaced_maybe v.node) (unplaced_maybe w.node) b.stmt; state = b.state }) (stmt_typed (in_loop c) a (step w.state))))
  body_typed c p (switch e items) s =
      let t = type_node e (steps 2 s) in
      let r = switched t in
      let u = rule r (steps 2 s).at (pos_in t.node) t.state in
      ap (λ x. switch_with c items (steps 2 s).at x (pos_in x.node)) (node_typed e (steps 2 s))
      ∙ (ap (switch_with c items (steps 2 s).at (unplaced_typed t)) (pos_start t.node)
      ∙ (ap (λ y. let v = type_items (in_switch c) (Some (no_labels r)) (unplaced_items items) (steps 2 y) in record { form = switch (unplaced_node t.node) v.items; state = step v.state }) (ruled r (steps 2 s).at (pos_in t.node) t.state)
      ∙ ap (λ v. record { form = switch (unplaced_node t.node) v.items; state = step v.state }) (items_typed (in_switch c) (Some (no_labels r)) items (steps 2 u))))
  body_typed c p break s = ap (λ u. record { form = break; state = steps 2 u }) (demanded c.breakable stray s.at p s)
  body_typed c p continue s = ap (λ u. record { form = continue; state = steps 2 u }) (demanded c.loop stray s.at p s)
  body_typed c p (return e) s = ap (λ t. record { form = return t.node; state = step t.state }) (result_typed s.at p c.result e (step s))

  pub compound_typed : (c : Surroundings) (b : CompoundShape) (s : State) → type_compound c (unplaced_compound b) (unplaced_state s) ≡ unplaced_braces (type_compound c b s)
  compound_typed c (braces p ds items) s =
      let d = type_decls ds (step s) in
      ap (λ x. let t = type_items c None (unplaced_items items) x.state in record { compound = braces start x.decls t.items; state = step t.state }) (decls_typed ds (step s))
      ∙ ap (λ t. record { compound = braces start (unplaced_decls d.decls) t.items; state = step t.state }) (items_typed c None items d.state)

  items_typed : (c : Surroundings) (o : Option Labels) (items : ItemShapes) (s : State) → type_items c o (unplaced_items items) (unplaced_state s) ≡ unplaced_item_list (type_items c o items s)
  items_typed c o no_items s = refl
  items_typed c o (more_items labels a rest) s =
      let l = type_labels o labels s in
      let t = type_stmt c a l.state in
      ap (λ x. let y = type_stmt c (unplaced_stmt a) x.state in let z = type_items c x.so_far (unplaced_items rest) y.state in record { items = more_items x.labels y.stmt z.items; state = z.state }) (labels_typed o labels s)
      ∙ (ap (λ y. let z = type_items c l.so_far (unplaced_items rest) y.state in record { items = more_items (map unplaced_label l.labels) y.stmt z.items; state = z.state }) (stmt_typed c a l.state)
      ∙ ap (λ z. record { items = more_items (map unplaced_label l.labels) (unplaced_stmt t.stmt) z.items; state = z.state }) (items_typed c l.so_far rest t.state))
