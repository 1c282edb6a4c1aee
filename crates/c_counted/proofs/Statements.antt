-- How typing counts: statements.
use Rattle.std.proofs.Common.{ℕ, ℤ, ◌+◌, ◌≤◌, List, [], ◌∷◌, Option, Some, None, refl, arith}
use Rattle.std.specs.Prelude.{not}
use Rattle.c_base.specs.declared.place.Pos.{Pos}
use Rattle.c_syntax.specs.declared.tree.ProbeMark.{ProbeMark}
use Rattle.c_syntax.specs.Grammar.{node_form, maybe_node_form, marks_form, labels_form, stmt_form, body_form, compound_form, items_form}
use Rattle.c_syntax.specs.Shape.{TypeOf, block, NodeShape, node, MaybeNode, no_node, one_node, LabelShape, case, default, StmtShape, stmt, FormShape, compound, simply, when, either, while, do_while, for, switch, break, continue, return, CompoundShape, braces, ItemShapes, no_items, more_items}
use Rattle.c_syntax.specs.Shaped.{Shaped, ShapedMaybe, ShapedLabels, ShapedStmt, ShapedForm, ShapedCompound, ShapedItems}
use Rattle.c_type_rules.specs.Verdicts.{truth_type}
use Rattle.c_constants.specs.Constants as constants
use Rattle.c_tree.specs.State.{State, step, steps}
use Rattle.c_tree.specs.Rulings.{Ruled, by, rule}
use Rattle.c_tree.specs.Sorts.{pos_in}
use Rattle.c_tree.specs.Operators.{claim, constant_rule}
use Rattle.c_tree.specs.Parts.{judged_constant}
use Rattle.c_tree.specs.Typing.{type_node}
use Rattle.c_tree.specs.Declaring.{opened_scope, type_decls}
use Rattle.c_tree.specs.Stating.{Surroundings, in_loop, in_switch, Labels, no_labels, tested, switched, result_rule, type_maybe, type_test, type_result, type_marks, comes_twice, as_kind, case_state, default_state, case_labels, default_labels, type_labels, type_stmt, type_body, type_compound, type_items}
use Rattle.c_counted.proofs.Counting.{behind, kept, Stands, no_fewer, Held, same, here, stepped, stepped2, stepped5, complained, demanded, ruled}
use Rattle.c_counted.proofs.Judging.{claim_held}
use Rattle.c_counted.proofs.Expressions.{node_at, node_held}
use Rattle.c_counted.proofs.Declarations.{decls_held}

-- ---- expressions in statements

maybe_held : {P : ℕ → Pos → Type 0} (e : MaybeNode) (s : State) {n : ℕ} → ShapedMaybe 0 e → Stands P n (maybe_node_form e) → Held P n s → Held P (behind n (maybe_node_form e)) (type_maybe e s).state
maybe_held no_node s e w h = h
maybe_held (one_node a) s e w h = node_held a s e.1 w h

-- an expression is judged at its first token
judged_held : {P : ℕ → Pos → Type 0} (a : NodeShape) (r : Ruled) (token : ℕ) (s : State) {n : ℕ} → P token (pos_in a) → Held P n (type_node a s).state → Held P n (rule r token (pos_in (type_node a s).node) (type_node a s).state)
judged_held (node p o t f) r token s x h = ruled r token p (type_node (node p o t f) s).state x h

test_held : {P : ℕ → Pos → Type 0} (a : NodeShape) (s : State) {n : ℕ} → Shaped a → Stands P n (node_form a) → Held P n s → Held P (behind n (node_form a)) (tested s.at (type_node a s))
test_held a s e w h = judged_held a (by 33 (truth_type (type_node a s).sort.kind)) s.at s (node_at a s w h) (node_held a s e w h)

maybe_test_held : {P : ℕ → Pos → Type 0} (e : MaybeNode) (s : State) {n : ℕ} → ShapedMaybe 0 e → Stands P n (maybe_node_form e) → Held P n s → Held P (behind n (maybe_node_form e)) (type_test e s).state
maybe_test_held no_node s e w h = h
maybe_test_held (one_node a) s e w h = test_held a s e.1 w h

result_held : {P : ℕ → Pos → Type 0} (token : ℕ) (p : Pos) (k : Option TypeOf) (e : MaybeNode) (s : State) {n : ℕ} → ShapedMaybe 0 e → P token p → Stands P n (maybe_node_form e) → Held P n s → Held P (behind n (maybe_node_form e)) (type_result token p k e s).state
result_held token p k no_node s e x w h = h
result_held token p k (one_node a) s e x w h = let t = type_node a s in ruled (result_rule k t.sort) token p t.state x (node_held a s e.1 w h)

-- ---- probes and labels

pub marks_held : {P : ℕ → Pos → Type 0} (ms : List ProbeMark) (s : State) {n : ℕ} → Stands P n (marks_form ms) → Held P n s → Held P (behind n (marks_form ms)) (type_marks ms s)
marks_held [] s w h = h
marks_held (m ∷ ms) s w h = let v = claim block m.number s.at m.pos s in marks_held ms (steps 5 v) w.1.1.1 (stepped5 (claim_held block m.number s.at m.pos s (here h w.0) h))

case_held : {P : ℕ → Pos → Type 0} (token : ℕ) (p : Pos) (o : Option Labels) (v : Option ℤ) (s : State) {n : ℕ} → P token p → Held P n s → Held P n (case_state token p o v s)
case_held token p None v s x h = complained 37 token p s x h
case_held token p (Some l) v s x h = demanded (not (comes_twice l.kind (as_kind l.kind v) l.values)) 36 token p s x h

default_held : {P : ℕ → Pos → Type 0} (token : ℕ) (p : Pos) (o : Option Labels) (s : State) {n : ℕ} → P token p → Held P n s → Held P n (default_state token p o s)
default_held token p None s x h = complained 37 token p s x h
default_held token p (Some l) s x h = demanded (not l.default) 36 token p s x h

labels_held : {P : ℕ → Pos → Type 0} (o : Option Labels) (ls : List LabelShape) (s : State) {n : ℕ} → ShapedLabels ls → Stands P n (labels_form ls) → Held P n s → Held P (behind n (labels_form ls)) (type_labels o ls s).state
labels_held o [] s e w h = h
labels_held o (case p a ∷ rest) s e w h =
    let t = type_node a (step s) in
    let v = constants.value t.sort.constant in
    let u = judged_constant (step s).at (pos_in a) t.sort t.state in
    let i = ruled (constant_rule t.sort) (step s).at (pos_in a) t.state (node_at a (step s) w.1.0 (stepped h)) (node_held a (step s) e.1 w.1.0 (stepped h)) in
    labels_held (case_labels o v) rest (step (case_state s.at p o v u)) e.2 w.1.1.1 (stepped (case_held s.at p o v u (here h w.0) i))
labels_held o (default p ∷ rest) s e w h = labels_held (default_labels o) rest (steps 2 (default_state s.at p o s)) e w.1.1 (stepped2 (default_held s.at p o s (here h w.0) h))

-- ---- statements

mutual
  pub stmt_held : {P : ℕ → Pos → Type 0} (c : Surroundings) (a : StmtShape) (s : State) {n : ℕ} → ShapedStmt a → Stands P n (stmt_form a) → Held P n s → Held P (behind n (stmt_form a)) (type_stmt c a s).state
  stmt_held c (stmt p ms q f) s e w h = body_held c q f (type_marks ms s) e w.1.1.0 w.1.1.1 (marks_held ms s w.1.0 h)

  body_held : {P : ℕ → Pos → Type 0} (c : Surroundings) (p : Pos) (f : FormShape) (s : State) {n : ℕ} → ShapedForm f → (n + 1 ≤ behind n (body_form f) → P (kept n) p) → Stands P n (body_form f) → Held P n s → Held P (behind n (body_form f)) (type_body c p f s).state
  body_held c p (compound b) s e x w h = same (compound_held c b (opened_scope s) e w (same h refl refl)) refl refl
  body_held c p (simply a) s e x w h = stepped (maybe_held a s e w.0 h)
  body_held c p (when a b) s e x w h =
      let i = test_held a (steps 2 s) e.0 w.1.0.1.0 (stepped2 h) in
      stmt_held c b (step (tested (steps 2 s).at (type_node a (steps 2 s)))) e.1 w.1.1 (stepped i)
  body_held c p (either a b d) s e x w h =
      let i = test_held a (steps 2 s) e.0 w.1.0.1.0 (stepped2 h) in
      let v = type_stmt c b (step (tested (steps 2 s).at (type_node a (steps 2 s)))) in
      let j = stmt_held c b (step (tested (steps 2 s).at (type_node a (steps 2 s)))) e.1 w.1.1.0 (stepped i) in
      stmt_held c d (step v.state) e.3 w.1.1.1.1 (stepped j)
  body_held c p (while a b) s e x w h =
      let i = test_held a (steps 2 s) e.0 w.1.0.1.0 (stepped2 h) in
      stmt_held (in_loop c) b (step (tested (steps 2 s).at (type_node a (steps 2 s)))) e.1 w.1.1 (stepped i)
  body_held c p (do_while b a) s e x w h =
      let v = type_stmt (in_loop c) b (step s) in
      let i = stmt_held (in_loop c) b (step s) e.0 w.1.0 (stepped h) in
      stepped2 (test_held a (steps 2 v.state) e.1 w.1.1.1.0.1.0 (stepped2 i))
  body_held c p (for a b d f) s e x w h =
      let t = type_maybe a (steps 2 s) in
      let v = type_test b (step t.state) in
      let z = type_maybe d (step v.state) in
      let i = maybe_held a (steps 2 s) e.0 w.1.0.1.0.0.0 (stepped2 h) in
      let j = maybe_test_held b (step t.state) e.1 w.1.0.1.0.1.0.0 (stepped i) in
      let k = maybe_held d (step v.state) e.2 w.1.0.1.0.1.1 (stepped j) in
      stmt_held (in_loop c) f (step z.state) e.3 w.1.1 (stepped k)
  body_held c p (switch a items) s e x w h =
      let t = type_node a (steps 2 s) in
      let r = switched t in
      let v = rule r (steps 2 s).at (pos_in t.node) t.state in
      let i = judged_held a r (steps 2 s).at (steps 2 s) (node_at a (steps 2 s) w.1.0.1.0 (stepped2 h)) (node_held a (steps 2 s) e.0 w.1.0.1.0 (stepped2 h)) in
      stepped (items_held (in_switch c) (Some (no_labels r)) items (steps 2 v) e.1 w.1.1.1.0 (stepped2 i))
  body_held c p break s e x w h = stepped2 (demanded c.breakable 37 s.at p s (here h (x (omega arith))) h)
  body_held c p continue s e x w h = stepped2 (demanded c.loop 37 s.at p s (here h (x (omega arith))) h)
  body_held c p (return a) s {n} e x w h =
      let y = x (omega (arith, no_fewer (n + 1) (maybe_node_form a))) in
      stepped (result_held s.at p c.result a (step s) e (here h y) w.0.1 (stepped h))

  pub compound_held : {P : ℕ → Pos → Type 0} (c : Surroundings) (b : CompoundShape) (s : State) {n : ℕ} → ShapedCompound b → Stands P n (compound_form b) → Held P n s → Held P (behind n (compound_form b)) (type_compound c b s).state
  compound_held c (braces p ds items) s e w h =
      let d = type_decls ds (step s) in
      stepped (items_held c None items d.state e.1 w.1.1.0 (decls_held ds (step s) e.0 w.1.0 (stepped h)))

  items_held : {P : ℕ → Pos → Type 0} (c : Surroundings) (o : Option Labels) (items : ItemShapes) (s : State) {n : ℕ} → ShapedItems items → Stands P n (items_form items) → Held P n s → Held P (behind n (items_form items)) (type_items c o items s).state
  items_held c o no_items s e w h = h
  items_held c o (more_items labels a rest) s e w h =
      let l = type_labels o labels s in
      let t = type_stmt c a l.state in
      items_held c l.so_far rest t.state e.2 w.1.1 (stmt_held c a l.state e.1 w.1.0 (labels_held o labels s e.0 w.0 h))
