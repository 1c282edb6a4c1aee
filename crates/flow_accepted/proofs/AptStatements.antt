-- In plain statements in which nothing is complained of, the operands of `&` and `.` are no used places.
use Rattle.std.proofs.Common.{◌≡◌, ℕ, ℤ, List, [], ◌∷◌, length, false, Option, Some, None, arith}
use Rattle.std.specs.Prelude.{not}
use Rattle.c_base.specs.declared.place.Pos.{Pos}
use Rattle.c_syntax.specs.Shape.{TypeOf, NodeShape, MaybeNode, no_node, one_node, LabelShape, case, default, StmtShape, stmt, FormShape, compound, simply, when, either, while, do_while, for, switch, break, continue, return, CompoundShape, braces, ItemShapes, no_items, more_items}
use Rattle.c_syntax.specs.Shaped.{Shaped, ShapedMaybe, ShapedLabels, ShapedStmt, ShapedForm, ShapedCompound, ShapedItems}
use Rattle.c_type_rules.specs.Verdicts.{truth_type}
use Rattle.c_constants.specs.Constants as constants
use Rattle.c_tree.specs.State.{State, step, steps}
use Rattle.c_tree.specs.Rulings.{by, rule}
use Rattle.c_tree.specs.Sorts.{pos_in}
use Rattle.c_tree.specs.Operators.{constant_rule}
use Rattle.c_tree.specs.Typing.{type_node}
use Rattle.c_tree.specs.Declaring.{type_decls, opened_scope}
use Rattle.c_tree.specs.Stating.{Surroundings, in_loop, in_switch, Labels, no_labels, tested, switched, result_rule, type_maybe, type_test, type_result, type_marks, case_state, default_state, case_labels, default_labels, type_labels, type_stmt, type_body, type_compound, type_items}
use Rattle.c_sites_probes.specs.Marked.{first, mark_among, node_mark, maybe_mark, decls_mark, labels_mark, stmt_mark, body_mark, compound_mark, items_mark}
use Rattle.probe_rules.proofs.ReadyUnits.{none_first, none_second}
use Rattle.c_tree.proofs.Grows.{rule_grows}
use Rattle.c_tree.proofs.GrowsUnits.{maybe_grows, test_grows, maybe_test_grows, case_grows, labels_grow, stmt_grows, items_grow}
use Rattle.probe_laws.proofs.Settled.{IsClean}
use Rattle.probe_laws.proofs.Rules.{back}
use Rattle.probe_laws.proofs.Known.{Knows, Goes, entered_holds, left_holds, stays, ◌▹◌, rule_goes, demand_goes}
use Rattle.probe_laws.proofs.KnownNodes.{node_knows}
use Rattle.probe_laws.proofs.FitStatements.{marks_go}
use Rattle.flow_accepted.proofs.Apt.{IsApt, IsAptMaybe, IsAptStmt, IsAptBody, IsAptCompound, AreAptItems}
use Rattle.flow_accepted.proofs.AptNodes.{node_apt}
use Rattle.flow_accepted.proofs.AptDecls.{decls_apt}

-- ---- expressions in statements

read_apt : (a : NodeShape) (s : State) → Shaped a → node_mark (type_node a s).node ≡ None → Knows false s → IsClean (type_node a s).state → Goes false s (type_node a s).state × IsApt (type_node a s).node
read_apt a s is m h c = let one = node_knows a s is h c in (one.1, node_apt a s is m h c)

maybe_apt : (e : MaybeNode) (s : State) → ShapedMaybe 0 e → maybe_mark (type_maybe e s).node ≡ None → Knows false s → IsClean (type_maybe e s).state → Goes false s (type_maybe e s).state × IsAptMaybe (type_maybe e s).node
maybe_apt no_node s is m h c = (stays s h, tt)
maybe_apt (one_node a) s is m h c = read_apt a s is.1 m h c

test_apt : (token : ℕ) (a : NodeShape) (s : State) → Shaped a → node_mark (type_node a s).node ≡ None → Knows false s → IsClean (tested token (type_node a s)) → Goes false s (tested token (type_node a s)) × IsApt (type_node a s).node
test_apt token a s is m h c =
    let t = type_node a s in
    let r = by 33 (truth_type t.sort.kind) in
    let one = read_apt a s is m h (back (rule_grows r token (pos_in t.node) t.state) c) in
    (one.0 ▹ rule_goes r token (pos_in t.node) t.state one.0.0, one.1)

maybe_test_apt : (e : MaybeNode) (s : State) → ShapedMaybe 0 e → maybe_mark (type_test e s).node ≡ None → Knows false s → IsClean (type_test e s).state → Goes false s (type_test e s).state × IsAptMaybe (type_test e s).node
maybe_test_apt no_node s is m h c = (stays s h, tt)
maybe_test_apt (one_node a) s is m h c = test_apt s.at a s is.1 m h c

result_apt : (token : ℕ) (p : Pos) (k : Option TypeOf) (e : MaybeNode) (s : State) → ShapedMaybe 0 e → maybe_mark (type_result token p k e s).node ≡ None → Knows false s → IsClean (type_result token p k e s).state
    → Goes false s (type_result token p k e s).state × IsAptMaybe (type_result token p k e s).node
result_apt token p k no_node s is m h c = (stays s h, tt)
result_apt token p k (one_node a) s is m h c =
    let t = type_node a s in
    let r = result_rule k t.sort in
    let one = read_apt a s is.1 m h (back (rule_grows r token p t.state) c) in
    (one.0 ▹ rule_goes r token p t.state one.0.0, one.1)

-- ---- labels and marks

case_goes : (token : ℕ) (p : Pos) (o : Option Labels) (v : Option ℤ) (s : State) → Knows false s → Goes false s (case_state token p o v s)
case_goes token p None v s h = stays s h
case_goes token p (Some l) v s h = demand_goes _ 36 token p s h

default_goes : (token : ℕ) (p : Pos) (o : Option Labels) (s : State) → Knows false s → Goes false s (default_state token p o s)
default_goes token p None s h = stays s h
default_goes token p (Some l) s h = demand_goes (not l.default) 36 token p s h

labels_go : (o : Option Labels) (ls : List LabelShape) (s : State) → ShapedLabels ls → labels_mark (type_labels o ls s).labels ≡ None → Knows false s → IsClean (type_labels o ls s).state
    → Goes false s (type_labels o ls s).state
labels_go o [] s is m h c = stays s h
labels_go o (case p a ∷ rest) s is m h c =
    let t = type_node a (step s) in
    let v = constants.value t.sort.constant in
    let r = constant_rule t.sort in
    let u = rule r (step s).at (pos_in a) t.state in
    let w = case_state s.at p o v u in
    let y = type_labels (case_labels o v) rest (step w) in
    let late = back (labels_grow (case_labels o v) rest (step w)) c in
    let one = read_apt a (step s) is.1 (none_first (node_mark t.node) (labels_mark y.labels) m) h (back (rule_grows r (step s).at (pos_in a) t.state) (back (case_grows s.at p o v u) late)) in
    let two = rule_goes r (step s).at (pos_in a) t.state one.0.0 in
    let three = case_goes s.at p o v u two.0 in
    let four = labels_go (case_labels o v) rest (step w) is.2 (none_second (node_mark t.node) (labels_mark y.labels) m) three.0 c in
    one.0 ▹ two ▹ three ▹ four
labels_go o (default p ∷ rest) s is m h c =
    let one = default_goes s.at p o s h in
    let two = labels_go (default_labels o) rest (steps 2 (default_state s.at p o s)) is m one.0 c in
    one ▹ two

-- ---- statements

mutual
  pub stmt_apt : (e : Surroundings) (a : StmtShape) (s : State) → ShapedStmt a → stmt_mark (type_stmt e a s).stmt ≡ None → Knows false s → IsClean (type_stmt e a s).state → Goes false s (type_stmt e a s).state × IsAptStmt (type_stmt e a s).stmt
  stmt_apt e (stmt p ms q f) s is m h c =
      let v = type_marks ms s in
      let one = marks_go ms s h in
      let two = body_apt e q f v is (none_second (mark_among ms) (body_mark (type_body e q f v).form) m) one.0 c in
      (one ▹ two.0, two.1)

  body_apt : (e : Surroundings) (p : Pos) (f : FormShape) (s : State) → ShapedForm f → body_mark (type_body e p f s).form ≡ None → Knows false s → IsClean (type_body e p f s).state → Goes false s (type_body e p f s).state × IsAptBody (type_body e p f s).form
  body_apt e p (compound b) s is m h c =
      let v = opened_scope s in
      let t = (type_compound e b v).state in
      let one = compound_apt e b v is m (entered_holds false (length s.tables.functions) s.names h) c in
      let more = one.0.1 in
      ((left_holds false (length t.tables.functions) t.names one.0.0, omega (arith, more)), one.1)
  body_apt e p (simply x) s is m h c = maybe_apt x s is m h c
  body_apt e p (when x a) s is m h c =
      let t = type_node x (steps 2 s) in
      let v = tested (steps 2 s).at t in
      let y = type_stmt e a (step v) in
      let one = test_apt (steps 2 s).at x (steps 2 s) is.0 (none_first (node_mark t.node) (stmt_mark y.stmt) m) h (back (stmt_grows e a (step v)) c) in
      let two = stmt_apt e a (step v) is.1 (none_second (node_mark t.node) (stmt_mark y.stmt) m) one.0.0 c in
      (one.0 ▹ two.0, (one.1, two.1))
  body_apt e p (either x a b) s is m h c =
      let t = type_node x (steps 2 s) in
      let v = tested (steps 2 s).at t in
      let y = type_stmt e a (step v) in
      let z = type_stmt e b (step y.state) in
      let late = back (stmt_grows e b (step y.state)) c in
      let rest = none_second (node_mark t.node) (first (stmt_mark y.stmt) (stmt_mark z.stmt)) m in
      let one = test_apt (steps 2 s).at x (steps 2 s) is.0 (none_first (node_mark t.node) (first (stmt_mark y.stmt) (stmt_mark z.stmt)) m) h (back (stmt_grows e a (step v)) late) in
      let two = stmt_apt e a (step v) is.1 (none_first (stmt_mark y.stmt) (stmt_mark z.stmt) rest) one.0.0 late in
      let three = stmt_apt e b (step y.state) is.3 (none_second (stmt_mark y.stmt) (stmt_mark z.stmt) rest) two.0.0 c in
      (one.0 ▹ two.0 ▹ three.0, (one.1, two.1, three.1))
  body_apt e p (while x a) s is m h c =
      let t = type_node x (steps 2 s) in
      let v = tested (steps 2 s).at t in
      let y = type_stmt (in_loop e) a (step v) in
      let one = test_apt (steps 2 s).at x (steps 2 s) is.0 (none_first (node_mark t.node) (stmt_mark y.stmt) m) h (back (stmt_grows (in_loop e) a (step v)) c) in
      let two = stmt_apt (in_loop e) a (step v) is.1 (none_second (node_mark t.node) (stmt_mark y.stmt) m) one.0.0 c in
      (one.0 ▹ two.0, (one.1, two.1))
  body_apt e p (do_while a x) s is m h c =
      let y = type_stmt (in_loop e) a (step s) in
      let u = steps 2 y.state in
      let t = type_node x u in
      let one = stmt_apt (in_loop e) a (step s) is.0 (none_first (stmt_mark y.stmt) (node_mark t.node) m) h (back (test_grows u.at x u) c) in
      let two = test_apt u.at x u is.1 (none_second (stmt_mark y.stmt) (node_mark t.node) m) one.0.0 c in
      (one.0 ▹ two.0, (one.1, two.1))
  body_apt e p (for x y z a) s is m h c =
      let t = type_maybe x (steps 2 s) in
      let v = type_test y (step t.state) in
      let w = type_maybe z (step v.state) in
      let b = type_stmt (in_loop e) a (step w.state) in
      let stepped = back (stmt_grows (in_loop e) a (step w.state)) c in
      let tried = back (maybe_grows z (step v.state)) stepped in
      let begun = back (maybe_test_grows y (step t.state)) tried in
      let last = first (maybe_mark w.node) (stmt_mark b.stmt) in
      let behind = none_second (maybe_mark t.node) (first (maybe_mark v.node) last) m in
      let end = none_second (maybe_mark v.node) last behind in
      let one = maybe_apt x (steps 2 s) is.0 (none_first (maybe_mark t.node) (first (maybe_mark v.node) last) m) h begun in
      let two = maybe_test_apt y (step t.state) is.1 (none_first (maybe_mark v.node) last behind) one.0.0 tried in
      let three = maybe_apt z (step v.state) is.2 (none_first (maybe_mark w.node) (stmt_mark b.stmt) end) two.0.0 stepped in
      let four = stmt_apt (in_loop e) a (step w.state) is.3 (none_second (maybe_mark w.node) (stmt_mark b.stmt) end) three.0.0 c in
      (one.0 ▹ two.0 ▹ three.0 ▹ four.0, (one.1, two.1, three.1, four.1))
  body_apt e p (switch x items) s is m h c =
      let t = type_node x (steps 2 s) in
      let r = switched t in
      let v = rule r (steps 2 s).at (pos_in t.node) t.state in
      let o = Some (no_labels r) in
      let y = type_items (in_switch e) o items (steps 2 v) in
      let late = back (items_grow (in_switch e) o items (steps 2 v)) c in
      let one = read_apt x (steps 2 s) is.0 (none_first (node_mark t.node) (items_mark y.items) m) h (back (rule_grows r (steps 2 s).at (pos_in t.node) t.state) late) in
      let two = rule_goes r (steps 2 s).at (pos_in t.node) t.state one.0.0 in
      let three = items_apt (in_switch e) o items (steps 2 v) is.1 (none_second (node_mark t.node) (items_mark y.items) m) two.0 c in
      (one.0 ▹ two ▹ three.0, (one.1, three.1))
  body_apt e p break s is m h c = (demand_goes e.breakable 37 s.at p s h, tt)
  body_apt e p continue s is m h c = (demand_goes e.loop 37 s.at p s h, tt)
  body_apt e p (return x) s is m h c = result_apt s.at p e.result x (step s) is m h c

  pub compound_apt : (e : Surroundings) (b : CompoundShape) (s : State) → ShapedCompound b → compound_mark (type_compound e b s).compound ≡ None → Knows false s → IsClean (type_compound e b s).state
      → Goes false s (type_compound e b s).state × IsAptCompound (type_compound e b s).compound
  compound_apt e (braces p ds items) s is m h c =
      let d = type_decls ds (step s) in
      let y = type_items e None items d.state in
      let one = decls_apt ds (step s) is.0 (none_first (decls_mark d.decls) (items_mark y.items) m) h (back (items_grow e None items d.state) c) in
      let two = items_apt e None items d.state is.1 (none_second (decls_mark d.decls) (items_mark y.items) m) one.0.0 c in
      (one.0 ▹ two.0, (one.1, two.1))

  items_apt : (e : Surroundings) (o : Option Labels) (items : ItemShapes) (s : State) → ShapedItems items → items_mark (type_items e o items s).items ≡ None → Knows false s → IsClean (type_items e o items s).state
      → Goes false s (type_items e o items s).state × AreAptItems (type_items e o items s).items
  items_apt e o no_items s is m h c = (stays s h, tt)
  items_apt e o (more_items labels a rest) s is m h c =
      let l = type_labels o labels s in
      let t = type_stmt e a l.state in
      let y = type_items e l.so_far rest t.state in
      let late = back (items_grow e l.so_far rest t.state) c in
      let behind = none_second (labels_mark l.labels) (first (stmt_mark t.stmt) (items_mark y.items)) m in
      let one = labels_go o labels s is.0 (none_first (labels_mark l.labels) (first (stmt_mark t.stmt) (items_mark y.items)) m) h (back (stmt_grows e a l.state) late) in
      let two = stmt_apt e a l.state is.1 (none_first (stmt_mark t.stmt) (items_mark y.items) behind) one.0 late in
      let three = items_apt e l.so_far rest t.state is.2 (none_second (stmt_mark t.stmt) (items_mark y.items) behind) two.0.0 c in
      (one ▹ two.0 ▹ three.0, (two.1, three.1))
