-- The walk counts the rows that the statements of a function add, and each of their declarators has its row.
use Rattle.std.proofs.Common.{◌≡◌, ℕ, ℤ, List, [], ◌∷◌, length, Bool, false, Option, Some, None, ◌∙◌, arith}
use Rattle.std.specs.Prelude.{not, ◌||◌}
use Rattle.c_base.specs.declared.place.Pos.{Pos}
use Rattle.c_syntax.specs.Shape.{TypeOf, NodeShape, MaybeNode, no_node, one_node, LabelShape, case, default, StmtShape, stmt, FormShape, compound, simply, when, either, while, do_while, for, switch, break, continue, return, CompoundShape, braces, ItemShapes, no_items, more_items}
use Rattle.c_syntax.specs.Shaped.{Shaped, ShapedMaybe, ShapedLabels, ShapedStmt, ShapedForm, ShapedCompound, ShapedItems}
use Rattle.c_type_rules.specs.Verdicts.{truth_type}
use Rattle.c_constants.specs.Constants as constants
use Rattle.c_tables.specs.Tables.{TablesShape}
use Rattle.c_tree.specs.State.{State, step, steps}
use Rattle.c_tree.specs.Rulings.{by, rule}
use Rattle.c_tree.specs.Sorts.{pos_in}
use Rattle.c_tree.specs.Operators.{constant_rule}
use Rattle.c_tree.specs.Typing.{type_node}
use Rattle.c_tree.specs.Declaring.{type_decls, opened_scope}
use Rattle.c_tree.specs.Stating.{Surroundings, in_loop, in_switch, Labels, no_labels, tested, switched, result_rule, type_maybe, type_test, type_result, type_marks, case_state, default_state, case_labels, default_labels, type_labels, type_stmt, type_body, type_compound, type_items}
use Rattle.c_tree.proofs.Grows.{rule_grows}
use Rattle.c_tree.proofs.GrowsUnits.{maybe_grows, test_grows, maybe_test_grows, case_grows, labels_grow, stmt_grows, items_grow}
use Rattle.c_walk.specs.declared.around.Around.{Around}
use Rattle.c_walk.specs.Walked.{Walked, with_block, with_block_if}
use Rattle.c_walk.specs.Walking.{walk_test, walk_maybe, walk_loop_test, walk_maybe_test, walk_step}
use Rattle.c_walk.specs.Stating.{walk_decls, splits, is_labelled, pos_of_stmt, walk_choice, walk_stmt, walk_body, walk_part, walk_compound, walk_items}
use Rattle.c_meaning.specs.State.{Bound}
use Rattle.c_meaning.proofs.Declared.{block_count, test_node_count, maybe_count, maybe_test_count, step_count, choice_count}
use Rattle.probe_laws.proofs.Settled.{IsClean}
use Rattle.probe_laws.proofs.Rules.{back}
use Rattle.probe_laws.proofs.Known.{Knows, Goes, entered_holds, left_holds, stays, ◌▹◌, rule_goes, demand_goes}
use Rattle.probe_laws.proofs.KnownNodes.{node_knows}
use Rattle.probe_laws.proofs.FitStatements.{marks_go}
use Rattle.flow_values.specs.Initialised.{InStmt, InBody, InPart, InCompound, InItems}
use Rattle.flow_initial.proofs.Cores.{core, ◌▸◌}
use Rattle.flow_initial.proofs.KeepsNodes as nodes
use Rattle.flow_initial.proofs.KeepsParts as parts
use Rattle.flow_initial.proofs.KeepsUnits as units
use Rattle.flow_values.specs.Bodies.{Good, Reaches, InitsGive, BodiesAreInitialised}
use Rattle.flow_values.proofs.Reaching.{passed, before, by_types}
use Rattle.flow_values.proofs.DeclsIn.{Step, decls_in}

-- ---- expressions in statements

test_goes : (token : ℕ) (a : NodeShape) (s : State) → Shaped a → Knows false s → IsClean (tested token (type_node a s)) → Goes false s (tested token (type_node a s))
test_goes token a s is h c =
    let t = type_node a s in
    let r = by 33 (truth_type t.sort.kind) in
    let one = (node_knows a s is h (back (rule_grows r token (pos_in t.node) t.state) c)).1 in
    one ▹ rule_goes r token (pos_in t.node) t.state one.0

maybe_goes : (x : MaybeNode) (s : State) → ShapedMaybe 0 x → Knows false s → IsClean (type_maybe x s).state → Goes false s (type_maybe x s).state
maybe_goes no_node s is h c = stays s h
maybe_goes (one_node a) s is h c = (node_knows a s is.1 h c).1

maybe_test_goes : (x : MaybeNode) (s : State) → ShapedMaybe 0 x → Knows false s → IsClean (type_test x s).state → Goes false s (type_test x s).state
maybe_test_goes no_node s is h c = stays s h
maybe_test_goes (one_node a) s is h c = test_goes s.at a s is.1 h c

result_goes : (token : ℕ) (p : Pos) (k : Option TypeOf) (x : MaybeNode) (s : State) → ShapedMaybe 0 x → Knows false s → IsClean (type_result token p k x s).state → Goes false s (type_result token p k x s).state
result_goes token p k no_node s is h c = stays s h
result_goes token p k (one_node a) s is h c =
    let t = type_node a s in
    let r = result_rule k t.sort in
    let one = (node_knows a s is.1 h (back (rule_grows r token p t.state) c)).1 in
    one ▹ rule_goes r token p t.state one.0

case_goes : (token : ℕ) (p : Pos) (o : Option Labels) (v : Option ℤ) (s : State) → Knows false s → Goes false s (case_state token p o v s)
case_goes token p None v s h = stays s h
case_goes token p (Some l) v s h = demand_goes _ 36 token p s h

default_goes : (token : ℕ) (p : Pos) (o : Option Labels) (s : State) → Knows false s → Goes false s (default_state token p o s)
default_goes token p None s h = stays s h
default_goes token p (Some l) s h = demand_goes (not l.default) 36 token p s h

labels_go : (o : Option Labels) (ls : List LabelShape) (s : State) → ShapedLabels ls → Knows false s → IsClean (type_labels o ls s).state → Goes false s (type_labels o ls s).state
labels_go o [] s is h c = stays s h
labels_go o (case p a ∷ rest) s is h c =
    let t = type_node a (step s) in
    let v = constants.value t.sort.constant in
    let r = constant_rule t.sort in
    let u = rule r (step s).at (pos_in a) t.state in
    let w = case_state s.at p o v u in
    let late = back (labels_grow (case_labels o v) rest (step w)) c in
    let one = (node_knows a (step s) is.1 h (back (rule_grows r (step s).at (pos_in a) t.state) (back (case_grows s.at p o v u) late))).1 in
    let two = rule_goes r (step s).at (pos_in a) t.state one.0 in
    let three = case_goes s.at p o v u two.0 in
    one ▹ two ▹ three ▹ labels_go (case_labels o v) rest (step w) is.2 three.0 c
labels_go o (default p ∷ rest) s is h c =
    let one = default_goes s.at p o s h in
    one ▹ labels_go (default_labels o) rest (steps 2 (default_state s.at p o s)) is one.0 c

-- ---- statements

module _ (t : TablesShape) (b : List Bound) (given : InitsGive t b) where
  after_stmt : (e : Surroundings) (a : StmtShape) (s : State) → ShapedStmt a → Good (core s) → Reaches t (core (type_stmt e a s).state) → Good (core (type_stmt e a s).state) × Reaches t (core s)
  after_stmt e a s is g reach =
      let one = passed s (type_stmt e a s).state (λ J kept. units.stmt_keeps J kept e a s is) g in
      (one.1, before t (core s) (core (type_stmt e a s).state) one.0 reach)

  mutual
    stmt_in : (e : Surroundings) (c : Around) (a : StmtShape) (s : State) (w : Walked) → ShapedStmt a → Knows false s → Good (core s) → Reaches t (core (type_stmt e a s).state) → IsClean (type_stmt e a s).state
        → w.variables ≡ length s.tables.variables → Step s (type_stmt e a s).state (walk_stmt t c (type_stmt e a s).stmt w) (InStmt t b c (type_stmt e a s).stmt w)
    stmt_in e c (stmt p ms q f) s w is h g reach clean n =
        let v = type_marks ms s in
        let one = marks_go ms s h in
        let good = by_types s v (λ J kept. parts.marks_keep J kept ms s) g in
        let two = body_in e c q f v w is one.0 good.0 reach clean (n ∙ good.1) in
        (one ▹ two.0, two.1, two.2)

    part_in : (e : Surroundings) (c : Around) (a : StmtShape) (s : State) (w : Walked) → ShapedStmt a → Knows false s → Good (core s) → Reaches t (core (type_stmt e a s).state) → IsClean (type_stmt e a s).state
        → w.variables ≡ length s.tables.variables → Step s (type_stmt e a s).state (walk_part t c (type_stmt e a s).stmt w) (InPart t b c (type_stmt e a s).stmt w)
    part_in e c (stmt p ms q f) s w is h g reach clean n =
        let v = type_marks ms s in
        let one = marks_go ms s h in
        let good = by_types s v (λ J kept. parts.marks_keep J kept ms s) g in
        let two = body_in e c q f v (with_block p w) is one.0 good.0 reach clean (n ∙ good.1) in
        (one ▹ two.0, two.1, two.2)

    body_in : (e : Surroundings) (c : Around) (p : Pos) (f : FormShape) (s : State) (w : Walked) → ShapedForm f → Knows false s → Good (core s) → Reaches t (core (type_body e p f s).state) → IsClean (type_body e p f s).state
        → w.variables ≡ length s.tables.variables → Step s (type_body e p f s).state (walk_body t c (type_body e p f s).form w) (InBody t b c (type_body e p f s).form w)
    body_in e c p (compound a) s w is h g reach clean n =
        let v = opened_scope s in
        let y = (type_compound e a v).state in
        let good = by_types s v (λ J kept. kept.entering s) g in
        let one = compound_in e c a v w is (entered_holds false (length s.tables.functions) s.names h) good.0 (record { fields = reach.fields; more = reach.more; added = reach.added }) clean n in
        let more = one.0.1 in
        ((left_holds false (length y.tables.functions) y.names one.0.0, omega (arith, more)), one.1, one.2)
    body_in e c p (simply x) s w is h g reach clean n =
        let y = type_maybe x s in
        let good = by_types s y.state (λ J kept. parts.maybe_keeps J kept x s) g in
        (maybe_goes x s is h clean, maybe_count c y.node w ∙ n ∙ good.1, tt)
    body_in e c p (when x a) s w is h g reach clean n =
        let y = type_node x (steps 2 s) in
        let v = step (tested (steps 2 s).at y) in
        let j = walk_test c y.node w in
        let good = by_types s v (λ J kept. parts.test_keeps J kept (steps 2 s).at x (steps 2 s)) g in
        let one = test_goes (steps 2 s).at x (steps 2 s) is.0 h (back (stmt_grows e a v) clean) in
        let two = part_in e c a v j is.1 one.0 good.0 reach clean (test_node_count c y.node w ∙ n ∙ good.1) in
        (one ▹ two.0, two.1, two.2)
    body_in e c p (either x a d) s w is h g reach clean n =
        let y = type_node x (steps 2 s) in
        let v = step (tested (steps 2 s).at y) in
        let z = type_stmt e a v in
        let j = walk_test c y.node w in
        let good = by_types s v (λ J kept. parts.test_keeps J kept (steps 2 s).at x (steps 2 s)) g in
        let ends = passed v z.state (λ J kept. units.stmt_keeps J kept e a v is.1) good.0 in
        let last = after_stmt e d (step z.state) is.3 ends.1 reach in
        let late = back (stmt_grows e d (step z.state)) clean in
        let one = test_goes (steps 2 s).at x (steps 2 s) is.0 h (back (stmt_grows e a v) late) in
        let two = part_in e c a v j is.1 one.0 good.0 last.1 late (test_node_count c y.node w ∙ n ∙ good.1) in
        let three = part_in e c d (step z.state) (walk_part t c z.stmt j) is.3 two.0.0 ends.1 reach clean two.1 in
        (one ▹ two.0 ▹ three.0, three.1, (two.2, three.2))
    body_in e c p (while x a) s w is h g reach clean n =
        let y = type_node x (steps 2 s) in
        let v = step (tested (steps 2 s).at y) in
        let good = by_types s v (λ J kept. parts.test_keeps J kept (steps 2 s).at x (steps 2 s)) g in
        let one = test_goes (steps 2 s).at x (steps 2 s) is.0 h (back (stmt_grows (in_loop e) a v) clean) in
        let two = part_in (in_loop e) c a v (walk_loop_test c y.node w) is.1 one.0 good.0 reach clean (maybe_test_count c (one_node y.node) w ∙ n ∙ good.1) in
        (one ▹ two.0, two.1, two.2)
    body_in e c p (do_while a x) s w is h g reach clean n =
        let z = type_stmt (in_loop e) a (step s) in
        let u = steps 2 z.state in
        let y = type_node x u in
        let middle = (passed (step s) z.state (λ J kept. units.stmt_keeps J kept (in_loop e) a (step s) is.0) g).1 in
        let end = steps 2 (tested u.at y) in
        let good = by_types u end (λ J kept. parts.test_keeps J kept u.at x u) middle in
        let near = before t (core u) (core end) (passed u end (λ J kept. parts.test_keeps J kept.types u.at x u) middle).0 reach in
        let one = part_in (in_loop e) c a (step s) w is.0 h g near (back (test_grows u.at x u) clean) n in
        let two = test_goes u.at x u is.1 one.0.0 clean in
        (one.0 ▹ two, maybe_test_count c (one_node y.node) (walk_part t c z.stmt w) ∙ one.1 ∙ good.1, one.2)
    body_in e c p (for x y z a) s w is h g reach clean n =
        let i = type_maybe x (steps 2 s) in
        let v = type_test y (step i.state) in
        let u = type_maybe z (step v.state) in
        let begun = walk_maybe c i.node w in
        let tried = walk_maybe_test c v.node begun in
        let late = back (stmt_grows (in_loop e) a (step u.state)) clean in
        let behind = back (maybe_grows z (step v.state)) late in
        let one = maybe_goes x (steps 2 s) is.0 h (back (maybe_test_grows y (step i.state)) behind) in
        let two = maybe_test_goes y (step i.state) is.1 one.0 behind in
        let three = maybe_goes z (step v.state) is.2 two.0 late in
        let good = by_types s u.state (λ J kept. parts.maybe_keeps J kept x (steps 2 s) ▸ parts.maybe_test_keeps J kept y (step i.state) ▸ parts.maybe_keeps J kept z (step v.state)) g in
        let count = step_count c u.node tried ∙ maybe_test_count c v.node begun ∙ maybe_count c i.node w ∙ n ∙ good.1 in
        let four = part_in (in_loop e) c a (step u.state) (walk_step c u.node tried) is.3 three.0 good.0 reach clean count in
        (one ▹ two ▹ three ▹ four.0, four.1, four.2)
    body_in e c p (switch x items) s w is h g reach clean n =
        let y = type_node x (steps 2 s) in
        let r = switched y in
        let v = steps 2 (rule r (steps 2 s).at (pos_in y.node) y.state) in
        let o = Some (no_labels r) in
        let z = type_items (in_switch e) o items v in
        let late = back (items_grow (in_switch e) o items v) clean in
        let good = by_types s v (λ J kept. nodes.node_keeps J kept x (steps 2 s) ▸ nodes.rule_keeps J kept r (steps 2 s).at (pos_in y.node) y.state) g in
        let one = (node_knows x (steps 2 s) is.0 h (back (rule_grows r (steps 2 s).at (pos_in y.node) y.state) late)).1 in
        let two = rule_goes r (steps 2 s).at (pos_in y.node) y.state one.0 in
        let three = items_in (in_switch e) c false o items v (walk_choice c y.node z.items w) is.1 two.0 good.0 reach clean (choice_count c y.node z.items w ∙ n ∙ good.1) in
        (one ▹ two ▹ three.0, three.1, three.2)
    body_in e c p break s w is h g reach clean n =
        (demand_goes e.breakable 37 s.at p s h, n ∙ (by_types s (type_body e p break s).state (λ J kept. nodes.demand_keeps J kept e.breakable 37 s.at p s) g).1, tt)
    body_in e c p continue s w is h g reach clean n =
        (demand_goes e.loop 37 s.at p s h, n ∙ (by_types s (type_body e p continue s).state (λ J kept. nodes.demand_keeps J kept e.loop 37 s.at p s) g).1, tt)
    body_in e c p (return x) s w is h g reach clean n =
        let y = type_result s.at p e.result x (step s) in
        let good = by_types s y.state (λ J kept. parts.result_keeps J kept s.at p e.result x (step s)) g in
        (result_goes s.at p e.result x (step s) is h clean, maybe_count c y.node w ∙ n ∙ good.1, tt)

    pub compound_in : (e : Surroundings) (c : Around) (a : CompoundShape) (s : State) (w : Walked) → ShapedCompound a → Knows false s → Good (core s) → Reaches t (core (type_compound e a s).state) → IsClean (type_compound e a s).state
        → w.variables ≡ length s.tables.variables → Step s (type_compound e a s).state (walk_compound t c (type_compound e a s).compound w) (InCompound t b c (type_compound e a s).compound w)
    compound_in e c (braces p ds items) s w is h g reach clean n =
        let d = type_decls ds (step s) in
        let y = type_items e None items d.state in
        let good = (passed (step s) d.state (λ J kept. units.decls_keep J kept ds (step s) is.0) g).1 in
        let near = before t (core d.state) (core y.state) (passed d.state y.state (λ J kept. units.items_keep J kept e None items d.state is.1) good).0 (record { fields = reach.fields; more = reach.more; added = reach.added }) in
        let one = decls_in t b given c ds (step s) w is.0 h g near (back (items_grow e None items d.state) clean) n in
        let two = items_in e c false None items d.state (walk_decls t c d.decls w) is.1 one.0.0 good reach clean one.1 in
        (one.0 ▹ two.0, two.1, (one.2, two.2))

    items_in : (e : Surroundings) (c : Around) (after : Bool) (o : Option Labels) (items : ItemShapes) (s : State) (w : Walked) → ShapedItems items → Knows false s → Good (core s) → Reaches t (core (type_items e o items s).state)
        → IsClean (type_items e o items s).state → w.variables ≡ length s.tables.variables
        → Step s (type_items e o items s).state (walk_items t c after (type_items e o items s).items w) (InItems t b c after (type_items e o items s).items w)
    items_in e c after o no_items s w is h g reach clean n = (stays s h, n, tt)
    items_in e c after o (more_items labels a rest) s w is h g reach clean n =
        let l = type_labels o labels s in
        let y = type_stmt e a l.state in
        let j = with_block_if (after || is_labelled l.labels) (pos_of_stmt y.stmt) w in
        let late = back (items_grow e l.so_far rest y.state) clean in
        let good = by_types s l.state (λ J kept. parts.labels_keep J kept o labels s) g in
        let ends = (passed l.state y.state (λ J kept. units.stmt_keeps J kept e a l.state is.1) good.0).1 in
        let near = before t (core y.state) (core (type_items e l.so_far rest y.state).state) (passed y.state (type_items e l.so_far rest y.state).state (λ J kept. units.items_keep J kept e l.so_far rest y.state is.2) ends).0 reach in
        let one = labels_go o labels s is.0 h (back (stmt_grows e a l.state) late) in
        let two = stmt_in e c a l.state j is.1 one.0 good.0 near late (block_count (after || is_labelled l.labels) (pos_of_stmt y.stmt) w ∙ n ∙ good.1) in
        let three = items_in e c (splits y.stmt) l.so_far rest y.state (walk_stmt t c y.stmt j) is.2 two.0.0 ends reach clean two.1 in
        (one ▹ two.0 ▹ three.0, three.1, (two.2, three.2))

pub bodies_are_initialised : BodiesAreInitialised
bodies_are_initialised t b given e a s c w is h g reach clean n = let one = compound_in t b given e c a s w is h g reach clean n in (one.1, one.2)
