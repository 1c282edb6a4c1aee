-- Statements are typed alike in the first pass, where nothing is complained of.
use Rattle.std.proofs.Common.{◌≡◌, ℕ, ℤ, List, [], ◌∷◌, not, Option, Some, None, refl, ap, ◌∙◌}
use Rattle.c_base.specs.declared.place.Pos.{Pos}
use Rattle.c_syntax.specs.declared.tree.ProbeMark.{ProbeMark}
use Rattle.c_syntax.specs.Shape.{TypeOf, block, MaybeNode, no_node, one_node, LabelShape, case, default, StmtShape, stmt, FormShape, compound, simply, when, either, while, do_while, for, switch, break, continue, return, CompoundShape, braces, ItemShapes, no_items, more_items}
use Rattle.c_type_rules.specs.Verdicts.{truth_type}
use Rattle.c_constants.specs.Constants as constants
use Rattle.c_tree.specs.Complaints.{case_twice, stray, wrong_type}
use Rattle.c_tree.specs.State.{State, steps, step}
use Rattle.c_tree.specs.Rulings.{by, rule}
use Rattle.c_tree.specs.Sorts.{TypedNode, pos_in}
use Rattle.c_tree.specs.Operators.{claim, constant_rule}
use Rattle.c_tree.specs.Parts.{judged_constant}
use Rattle.c_tree.specs.Typing.{type_node}
use Rattle.c_tree.specs.Declaring.{opened_scope, closed_scope, type_decls}
use Rattle.c_tree.specs.Stating.{Surroundings, in_loop, in_switch, Labels, no_labels, tested, switched, TypedMaybe, a_maybe, type_maybe, type_test, result_rule, type_result, type_marks, TypedLabels, comes_twice, as_kind, case_state, default_state, case_labels, default_labels, one_label, type_labels, TypedStmt, TypedBody, TypedCompound, TypedItems, type_stmt, type_body, type_compound, type_items}
use Rattle.c_tree.proofs.Grows.{◌▸◌, rule_grows}
use Rattle.c_tree.proofs.GrowsUnits.{maybe_grows, test_grows, maybe_test_grows, case_grows, labels_grow, stmt_grows, items_grow}
use Rattle.probe_passes.specs.Passes.{first_pass}
use Rattle.probe_passes.proofs.Rules.{IsClean, ruled, demanded, number_taken}
use Rattle.probe_passes.proofs.Nodes.{first_typed, node_typed}
use Rattle.probe_passes.proofs.Functions.{decls_typed}

-- ---- what is typed, in the first pass

abbrev pub first_maybe : TypedMaybe → TypedMaybe
first_maybe t = record t { state = first_pass t.state }

abbrev pub first_labels : TypedLabels → TypedLabels
first_labels t = record t { state = first_pass t.state }

abbrev pub first_statement : TypedStmt → TypedStmt
first_statement t = record t { state = first_pass t.state }

abbrev pub first_form : TypedBody → TypedBody
first_form t = record t { state = first_pass t.state }

abbrev pub first_braces : TypedCompound → TypedCompound
first_braces t = record t { state = first_pass t.state }

abbrev pub first_items : TypedItems → TypedItems
first_items t = record t { state = first_pass t.state }

-- ---- expressions in statements

test_judged : (first : ℕ) (t : TypedNode) → tested first (first_typed t) ≡ first_pass (tested first t)
test_judged first t = ruled (by wrong_type (truth_type t.sort.kind)) first (pos_in t.node) t.state

-- nothing was complained of before the test was judged
test_clean : (first : ℕ) (t : TypedNode) → IsClean (tested first t) → IsClean t.state
test_clean first t h = rule_grows (by wrong_type (truth_type t.sort.kind)) first (pos_in t.node) t.state ▸ h

maybe_typed : (e : MaybeNode) (s : State) → IsClean (type_maybe e s).state → type_maybe e (first_pass s) ≡ first_maybe (type_maybe e s)
maybe_typed no_node s h = refl
maybe_typed (one_node a) s h = ap (λ t. a_maybe t t.state) (node_typed a s h)

test_typed : (e : MaybeNode) (s : State) → IsClean (type_test e s).state → type_test e (first_pass s) ≡ first_maybe (type_test e s)
test_typed no_node s h = refl
test_typed (one_node a) s h =
    let t = type_node a s in
    ap (λ v. a_maybe v (tested s.at v)) (node_typed a s (test_clean s.at t h)) ∙ ap (a_maybe t) (test_judged s.at t)

result_typed : (token : ℕ) (p : Pos) (k : Option TypeOf) (e : MaybeNode) (s : State) → IsClean (type_result token p k e s).state → type_result token p k e (first_pass s) ≡ first_maybe (type_result token p k e s)
result_typed token p k no_node s h = refl
result_typed token p k (one_node a) s h =
    let t = type_node a s in
    ap (λ v. a_maybe v (rule (result_rule k v.sort) token p v.state)) (node_typed a s (rule_grows (result_rule k t.sort) token p t.state ▸ h)) ∙ ap (a_maybe t) (ruled (result_rule k t.sort) token p t.state)

-- ---- probes and labels

pub marks_typed : (ms : List ProbeMark) (s : State) → type_marks ms (first_pass s) ≡ first_pass (type_marks ms s)
marks_typed [] s = refl
marks_typed (m ∷ ms) s = ap (λ u. type_marks ms (steps 5 u)) (number_taken block m.number s.at m.pos s) ∙ marks_typed ms (steps 5 (claim block m.number s.at m.pos s))

case_judged : (token : ℕ) (p : Pos) (o : Option Labels) (v : Option ℤ) (s : State) → case_state token p o v (first_pass s) ≡ first_pass (case_state token p o v s)
case_judged token p None v s = refl
case_judged token p (Some l) v s = demanded (not (comes_twice l.kind (as_kind l.kind v) l.values)) case_twice token p s

default_judged : (token : ℕ) (p : Pos) (o : Option Labels) (s : State) → default_state token p o (first_pass s) ≡ first_pass (default_state token p o s)
default_judged token p None s = refl
default_judged token p (Some l) s = demanded (not l.default) case_twice token p s

-- a case, by its constant
abbrev case_with : ℕ → ℕ → Option Labels → List LabelShape → Pos → Pos → TypedNode → TypedLabels
case_with token first o rest p q t =
    let v = constants.value t.sort.constant in
    one_label (case p t.node) (type_labels (case_labels o v) rest (step (case_state token p o v (judged_constant first q t.sort t.state))))

labels_typed : (o : Option Labels) (ls : List LabelShape) (s : State) → IsClean (type_labels o ls s).state → type_labels o ls (first_pass s) ≡ first_labels (type_labels o ls s)
labels_typed o [] s h = refl
labels_typed o (case p a ∷ rest) s h =
    let t = type_node a (step s) in
    let v = constants.value t.sort.constant in
    let r = constant_rule t.sort in
    let u = rule r (step s).at (pos_in a) t.state in
    let w = case_state s.at p o v u in
    let x = case p t.node in
    let late = rule_grows r (step s).at (pos_in a) t.state ▸ (case_grows s.at p o v u ▸ (labels_grow (case_labels o v) rest (step w) ▸ h)) in
    ap (case_with s.at (step s).at o rest p (pos_in a)) (node_typed a (step s) late)
    ∙ (ap (λ y. one_label x (type_labels (case_labels o v) rest (step (case_state s.at p o v y)))) (ruled r (step s).at (pos_in a) t.state)
    ∙ (ap (λ y. one_label x (type_labels (case_labels o v) rest (step y))) (case_judged s.at p o v u)
    ∙ ap (one_label x) (labels_typed (case_labels o v) rest (step w) h)))
labels_typed o (default p ∷ rest) s h =
    ap (λ u. one_label (default p) (type_labels (default_labels o) rest (steps 2 u))) (default_judged s.at p o s)
    ∙ ap (one_label (default p)) (labels_typed (default_labels o) rest (steps 2 (default_state s.at p o s)) h)

-- ---- statements

-- the parts of a loop's head, one behind the other
abbrev for_third : Surroundings → StmtShape → MaybeNode → MaybeNode → TypedMaybe → TypedBody
for_third c a x y z =
    let b = type_stmt (in_loop c) a (step z.state) in
    record { form = for x y z.node b.stmt; state = b.state }

abbrev for_second : Surroundings → MaybeNode → StmtShape → MaybeNode → TypedMaybe → TypedBody
for_second c g a x y = for_third c a x y.node (type_maybe g (step y.state))

abbrev for_first : Surroundings → MaybeNode → MaybeNode → StmtShape → TypedMaybe → TypedBody
for_first c f g a x = for_second c g a x.node (type_test f (step x.state))

-- a switch, by its expression
abbrev switch_with : Surroundings → ItemShapes → ℕ → TypedNode → TypedBody
switch_with c items first x =
    let v = type_items (in_switch c) (Some (no_labels (switched x))) items (steps 2 (rule (switched x) first (pos_in x.node) x.state)) in
    record { form = switch x.node v.items; state = step v.state }

mutual
  stmt_typed : (c : Surroundings) (a : StmtShape) (s : State) → IsClean (type_stmt c a s).state → type_stmt c a (first_pass s) ≡ first_statement (type_stmt c a s)
  stmt_typed c (stmt p marks q f) s h =
      ap (λ u. let t = type_body c q f u in record { stmt = stmt p marks q t.form; state = t.state }) (marks_typed marks s)
      ∙ ap (λ t. record { stmt = stmt p marks q t.form; state = t.state }) (body_typed c q f (type_marks marks s) h)

  body_typed : (c : Surroundings) (p : Pos) (f : FormShape) (s : State) → IsClean (type_body c p f s).state → type_body c p f (first_pass s) ≡ first_form (type_body c p f s)
  body_typed c p (compound b) s h = ap (λ t. record { form = compound t.compound; state = closed_scope t.state }) (compound_typed c b (opened_scope s) h)
  body_typed c p (simply e) s h = ap (λ t. record { form = simply t.node; state = step t.state }) (maybe_typed e s h)
  body_typed c p (when e a) s h =
      let t = type_node e (steps 2 s) in
      let u = step (tested (steps 2 s).at t) in
      ap (λ x. let v = type_stmt c a (step (tested (steps 2 s).at x)) in record { form = when x.node v.stmt; state = v.state }) (node_typed e (steps 2 s) (test_clean (steps 2 s).at t (stmt_grows c a u ▸ h)))
      ∙ (ap (λ w. let v = type_stmt c a (step w) in record { form = when t.node v.stmt; state = v.state }) (test_judged (steps 2 s).at t)
      ∙ ap (λ v. record { form = when t.node v.stmt; state = v.state }) (stmt_typed c a u h))
  body_typed c p (either e a b) s h =
      let t = type_node e (steps 2 s) in
      let u = step (tested (steps 2 s).at t) in
      let v = type_stmt c a u in
      let late = stmt_grows c b (step v.state) ▸ h in
      ap (λ x. let y = type_stmt c a (step (tested (steps 2 s).at x)) in let z = type_stmt c b (step y.state) in record { form = either x.node y.stmt z.stmt; state = z.state }) (node_typed e (steps 2 s) (test_clean (steps 2 s).at t (stmt_grows c a u ▸ late)))
      ∙ (ap (λ w. let y = type_stmt c a (step w) in let z = type_stmt c b (step y.state) in record { form = either t.node y.stmt z.stmt; state = z.state }) (test_judged (steps 2 s).at t)
      ∙ (ap (λ y. let z = type_stmt c b (step y.state) in record { form = either t.node y.stmt z.stmt; state = z.state }) (stmt_typed c a u late)
      ∙ ap (λ z. record { form = either t.node v.stmt z.stmt; state = z.state }) (stmt_typed c b (step v.state) h)))
  body_typed c p (while e a) s h =
      let t = type_node e (steps 2 s) in
      let u = step (tested (steps 2 s).at t) in
      ap (λ x. let v = type_stmt (in_loop c) a (step (tested (steps 2 s).at x)) in record { form = while x.node v.stmt; state = v.state }) (node_typed e (steps 2 s) (test_clean (steps 2 s).at t (stmt_grows (in_loop c) a u ▸ h)))
      ∙ (ap (λ w. let v = type_stmt (in_loop c) a (step w) in record { form = while t.node v.stmt; state = v.state }) (test_judged (steps 2 s).at t)
      ∙ ap (λ v. record { form = while t.node v.stmt; state = v.state }) (stmt_typed (in_loop c) a u h))
  body_typed c p (do_while a e) s h =
      let v = type_stmt (in_loop c) a (step s) in
      let t = type_node e (steps 2 v.state) in
      ap (λ x. let y = type_node e (steps 2 x.state) in record { form = do_while x.stmt y.node; state = steps 2 (tested (steps 2 x.state).at y) }) (stmt_typed (in_loop c) a (step s) (test_grows (steps 2 v.state).at e (steps 2 v.state) ▸ h))
      ∙ (ap (λ y. record { form = do_while v.stmt y.node; state = steps 2 (tested (steps 2 v.state).at y) }) (node_typed e (steps 2 v.state) (test_clean (steps 2 v.state).at t h))
      ∙ ap (λ u. record { form = do_while v.stmt t.node; state = steps 2 u }) (test_judged (steps 2 v.state).at t))
  body_typed c p (for e f g a) s h =
      let t = type_maybe e (steps 2 s) in
      let v = type_test f (step t.state) in
      let w = type_maybe g (step v.state) in
      let late = stmt_grows (in_loop c) a (step w.state) ▸ h in
      let mid = maybe_grows g (step v.state) ▸ late in
      ap (for_first c f g a) (maybe_typed e (steps 2 s) (maybe_test_grows f (step t.state) ▸ mid))
      ∙ (ap (for_second c g a t.node) (test_typed f (step t.state) mid)
      ∙ (ap (for_third c a t.node v.node) (maybe_typed g (step v.state) late)
      ∙ ap (λ b. record { form = for t.node v.node w.node b.stmt; state = b.state }) (stmt_typed (in_loop c) a (step w.state) h)))
  body_typed c p (switch e items) s h =
      let t = type_node e (steps 2 s) in
      let r = switched t in
      let u = rule r (steps 2 s).at (pos_in t.node) t.state in
      let late = rule_grows r (steps 2 s).at (pos_in t.node) t.state ▸ (items_grow (in_switch c) (Some (no_labels r)) items (steps 2 u) ▸ h) in
      ap (switch_with c items (steps 2 s).at) (node_typed e (steps 2 s) late)
      ∙ (ap (λ y. let v = type_items (in_switch c) (Some (no_labels r)) items (steps 2 y) in record { form = switch t.node v.items; state = step v.state }) (ruled r (steps 2 s).at (pos_in t.node) t.state)
      ∙ ap (λ v. record { form = switch t.node v.items; state = step v.state }) (items_typed (in_switch c) (Some (no_labels r)) items (steps 2 u) h))
  body_typed c p break s h = ap (λ u. record { form = break; state = steps 2 u }) (demanded c.breakable stray s.at p s)
  body_typed c p continue s h = ap (λ u. record { form = continue; state = steps 2 u }) (demanded c.loop stray s.at p s)
  body_typed c p (return e) s h = ap (λ t. record { form = return t.node; state = step t.state }) (result_typed s.at p c.result e (step s) h)

  pub compound_typed : (c : Surroundings) (b : CompoundShape) (s : State) → IsClean (type_compound c b s).state → type_compound c b (first_pass s) ≡ first_braces (type_compound c b s)
  compound_typed c (braces p ds items) s h =
      let d = type_decls ds (step s) in
      ap (λ x. let t = type_items c None items x.state in record { compound = braces p x.decls t.items; state = step t.state }) (decls_typed ds (step s) (items_grow c None items d.state ▸ h))
      ∙ ap (λ t. record { compound = braces p d.decls t.items; state = step t.state }) (items_typed c None items d.state h)

  items_typed : (c : Surroundings) (o : Option Labels) (items : ItemShapes) (s : State) → IsClean (type_items c o items s).state → type_items c o items (first_pass s) ≡ first_items (type_items c o items s)
  items_typed c o no_items s h = refl
  items_typed c o (more_items labels a rest) s h =
      let l = type_labels o labels s in
      let t = type_stmt c a l.state in
      let late = items_grow c l.so_far rest t.state ▸ h in
      ap (λ x. let y = type_stmt c a x.state in let z = type_items c x.so_far rest y.state in record { items = more_items x.labels y.stmt z.items; state = z.state }) (labels_typed o labels s (stmt_grows c a l.state ▸ late))
      ∙ (ap (λ y. let z = type_items c l.so_far rest y.state in record { items = more_items l.labels y.stmt z.items; state = z.state }) (stmt_typed c a l.state late)
      ∙ ap (λ z. record { items = more_items l.labels t.stmt z.items; state = z.state }) (items_typed c l.so_far rest t.state h))
