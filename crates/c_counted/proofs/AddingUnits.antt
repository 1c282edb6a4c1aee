-- How many rows typing adds to the tables: statements and units.
use Rattle.std.proofs.Common.{ℕ, ℤ, ◌-◌, ◌≤◌, List, [], ◌∷◌, length, Option, Some, None, Bool, true, false, arith}
use Rattle.std.specs.Prelude.{not, is_some}
use Rattle.c_base.specs.declared.place.Pos.{Pos}
use Rattle.c_syntax.specs.declared.text.Text.{Text}
use Rattle.c_syntax.specs.declared.tree.ProbeMark.{ProbeMark}
use Rattle.c_syntax.specs.declared.tree.ProgramLine.{ProgramLine}
use Rattle.c_syntax.specs.Grammar.{node_form, maybe_node_form, labels_form, stmt_form, body_form, compound_form, items_form, external_form, externals_form, unit_form, tokens_of}
use Rattle.c_syntax.specs.Shape.{TypeOf, block, NodeShape, MaybeNode, no_node, one_node, LabelShape, case, default, StmtShape, stmt, FormShape, compound, simply, when, either, while, do_while, for, switch, break, continue, return, CompoundShape, braces, ItemShapes, no_items, more_items, declarator, arrays, function, ExternalShape, defined, declared, UnitShape}
use Rattle.c_scopes.specs.Scoping.{find_here, entered}
use Rattle.c_type_rules.specs.Verdicts.{truth_type, result_type}
use Rattle.c_constants.specs.Constants as constants
use Rattle.c_constants.specs.Probes.{digest_of}
use Rattle.c_tables.specs.Tables.{with_definition}
use Rattle.c_tree.specs.declared.meaning.Entity.{Entity}
use Rattle.c_tree.specs.State.{State, step, steps}
use Rattle.c_tree.specs.Rulings.{by, rule, kind_at}
use Rattle.c_tree.specs.Sorts.{pos_in}
use Rattle.c_tree.specs.Operators.{claim, constant_rule}
use Rattle.c_tree.specs.Parts.{judged_constant, unspelled, spelled_rule, pointed}
use Rattle.c_tree.specs.Typing.{type_node, type_specs}
use Rattle.c_tree.specs.Declaring.{next_variable, TypedFunction, type_function, opened_scope, type_decls, with_constants}
use Rattle.c_tree.specs.Stating.{Surroundings, in_loop, in_switch, Labels, no_labels, tested, switched, result_rule, type_maybe, type_test, type_result, type_marks, comes_twice, as_kind, case_state, default_state, case_labels, default_labels, type_labels, type_stmt, type_body, type_compound, type_items}
use Rattle.c_tree.specs.Units.{specs_place, with_variables, variable_of, numbers_from, begun_function, type_external, type_externals, start, type_line, any_main, bodies, type_unit, typed_unit}
use Rattle.c_counted.specs.Sizes.{row_count}
use Rattle.c_counted.proofs.Adding.{count, count_kinds, Adds, none, demand_adds, rule_adds, claim_adds, definition_rows}
use Rattle.c_counted.proofs.AddingNodes.{node_adds, specs_add}
use Rattle.c_counted.proofs.AddingDecls.{with_variable_adds, function_adds, decl_adds, decls_add}

-- ---- statements

maybe_adds : (e : MaybeNode) (s : State) → Adds (count (maybe_node_form e)) s (type_maybe e s).state
maybe_adds no_node s = none s
maybe_adds (one_node a) s = node_adds a s

test_adds : (first : ℕ) (a : NodeShape) (s : State) → Adds (count (node_form a)) s (tested first (type_node a s))
test_adds first a s = let t = type_node a s in omega (arith, node_adds a s, rule_adds (by 33 (truth_type t.sort.kind)) first (pos_in t.node) t.state)

maybe_test_adds : (e : MaybeNode) (s : State) → Adds (count (maybe_node_form e)) s (type_test e s).state
maybe_test_adds no_node s = none s
maybe_test_adds (one_node a) s = test_adds s.at a s

result_adds : (token : ℕ) (p : Pos) (k : Option TypeOf) (e : MaybeNode) (s : State) → Adds (count (maybe_node_form e)) s (type_result token p k e s).state
result_adds token p k no_node s = none s
result_adds token p k (one_node a) s = let t = type_node a s in omega (arith, node_adds a s, rule_adds (result_rule k t.sort) token p t.state)

marks_add : (ms : List ProbeMark) (s : State) → Adds 0 s (type_marks ms s)
marks_add [] s = none s
marks_add (m ∷ ms) s = let v = claim block m.number s.at m.pos s in omega (arith, claim_adds block m.number s.at m.pos s, marks_add ms (steps 5 v))

case_adds : (token : ℕ) (p : Pos) (o : Option Labels) (v : Option ℤ) (s : State) → Adds 0 s (case_state token p o v s)
case_adds token p None v s = none s
case_adds token p (Some l) v s = demand_adds (not (comes_twice l.kind (as_kind l.kind v) l.values)) 36 token p s

default_adds : (token : ℕ) (p : Pos) (o : Option Labels) (s : State) → Adds 0 s (default_state token p o s)
default_adds token p None s = none s
default_adds token p (Some l) s = demand_adds (not l.default) 36 token p s

labels_add : (o : Option Labels) (ls : List LabelShape) (s : State) → Adds (count (labels_form ls)) s (type_labels o ls s).state
labels_add o [] s = none s
labels_add o (case p a ∷ rest) s =
    let t = type_node a (step s) in
    let v = constants.value t.sort.constant in
    let u = judged_constant (step s).at (pos_in a) t.sort t.state in
    omega (arith, node_adds a (step s), rule_adds (constant_rule t.sort) (step s).at (pos_in a) t.state, case_adds s.at p o v u, labels_add (case_labels o v) rest (step (case_state s.at p o v u)))
labels_add o (default p ∷ rest) s = omega (arith, default_adds s.at p o s, labels_add (default_labels o) rest (steps 2 (default_state s.at p o s)))

mutual
  stmt_adds : (c : Surroundings) (a : StmtShape) (s : State) → Adds (count (stmt_form a)) s (type_stmt c a s).state
  stmt_adds c (stmt p ms q f) s = omega (arith, marks_add ms s, body_adds c q f (type_marks ms s))

  body_adds : (c : Surroundings) (p : Pos) (f : FormShape) (s : State) → Adds (count (body_form f)) s (type_body c p f s).state
  body_adds c p (compound b) s = compound_adds c b (opened_scope s)
  body_adds c p (simply e) s = omega (arith, maybe_adds e s)
  body_adds c p (when e a) s =
      let t = tested (steps 2 s).at (type_node e (steps 2 s)) in
      omega (arith, test_adds (steps 2 s).at e (steps 2 s), stmt_adds c a (step t))
  body_adds c p (either e a b) s =
      let t = tested (steps 2 s).at (type_node e (steps 2 s)) in
      let v = type_stmt c a (step t) in
      omega (arith, test_adds (steps 2 s).at e (steps 2 s), stmt_adds c a (step t), stmt_adds c b (step v.state))
  body_adds c p (while e a) s =
      let t = tested (steps 2 s).at (type_node e (steps 2 s)) in
      omega (arith, test_adds (steps 2 s).at e (steps 2 s), stmt_adds (in_loop c) a (step t))
  body_adds c p (do_while a e) s =
      let v = type_stmt (in_loop c) a (step s) in
      omega (arith, stmt_adds (in_loop c) a (step s), test_adds (steps 2 v.state).at e (steps 2 v.state))
  body_adds c p (for e f g a) s =
      let t = type_maybe e (steps 2 s) in
      let v = type_test f (step t.state) in
      let w = type_maybe g (step v.state) in
      omega (arith, maybe_adds e (steps 2 s), maybe_test_adds f (step t.state), maybe_adds g (step v.state), stmt_adds (in_loop c) a (step w.state))
  body_adds c p (switch e items) s =
      let t = type_node e (steps 2 s) in
      let r = switched t in
      let v = rule r (steps 2 s).at (pos_in t.node) t.state in
      omega (arith, node_adds e (steps 2 s), rule_adds r (steps 2 s).at (pos_in t.node) t.state, items_add (in_switch c) (Some (no_labels r)) items (steps 2 v))
  body_adds c p break s = omega (arith, demand_adds c.breakable 37 s.at p s)
  body_adds c p continue s = omega (arith, demand_adds c.loop 37 s.at p s)
  body_adds c p (return e) s = omega (arith, result_adds s.at p c.result e (step s))

  compound_adds : (c : Surroundings) (b : CompoundShape) (s : State) → Adds (count (compound_form b)) s (type_compound c b s).state
  compound_adds c (braces p ds items) s = omega (arith, decls_add ds (step s), items_add c None items (type_decls ds (step s)).state)

  items_add : (c : Surroundings) (o : Option Labels) (items : ItemShapes) (s : State) → Adds (count (items_form items)) s (type_items c o items s).state
  items_add c o no_items s = none s
  items_add c o (more_items labels a rest) s =
      let l = type_labels o labels s in
      let t = type_stmt c a l.state in
      omega (arith, labels_add o labels s, stmt_adds c a l.state, items_add c l.so_far rest t.state)

-- ---- units

variable_of_adds : (x : Text) (k : Option TypeOf) (e : Option Entity) (s : State) → Adds 1 s (variable_of x k e s)
variable_of_adds x k None s = with_variable_adds x k s
variable_of_adds x k (Some e) s = omega arith

variables_add : (xs : List (Text × Option TypeOf)) (s : State) → Adds (length xs) s (with_variables xs s)
variables_add [] s = none s
variables_add ((x, k) ∷ rest) s = omega (arith, variable_of_adds x k (find_here x s.names) s, variables_add rest (variable_of x k (find_here x s.names) s))

begun_adds : (f : TypedFunction) (s : State) → Adds (length f.given) s (begun_function f s)
begun_adds f s =
    let ns = numbers_from (next_variable s) f.given in
    let v = record s { names = with_constants s.listed (entered s.names); tables = with_definition f.number ns s.tables; function = f.number; file = false } in
    omega (arith, definition_rows s.tables f.number ns, variables_add f.given v)

external_adds : (e : ExternalShape) (s : State) → Adds (count (external_form e)) s (type_external e s).state
external_adds (declared d) s = decl_adds d s
external_adds (defined specs (declarator stars x (arrays ls) i) ms c) s = omega arith
external_adds (defined specs (declarator stars x (function ps) i) ms c) s =
    let t = type_specs false specs unspelled s in
    let r = spelled_rule t.spelled in
    let q = specs_place specs in
    let v = rule r s.at q t.state in
    let f = type_function true (kind_at r) stars x ps i v in
    let b = begun_function f f.state in
    let k = kind_at (by 33 (result_type (pointed stars (kind_at r)))) in
    let u : Surroundings = record { loop = false; breakable = false; result = k } in
    omega (arith, specs_add false specs unspelled s, rule_adds r s.at q t.state, function_adds true (kind_at r) stars x ps i v, begun_adds f f.state, marks_add ms b, compound_adds u c (type_marks ms b))

externals_add : (es : List ExternalShape) (s : State) → Adds (count (externals_form es)) s (type_externals es s).state
externals_add [] s = none s
externals_add (e ∷ rest) s = omega (arith, external_adds e s, externals_add rest (type_external e s).state)

line_adds : (l : Option ProgramLine) (s : State) → Adds 0 s (type_line l s)
line_adds None s = none s
line_adds (Some l) s = demand_adds (is_some (digest_of l.digest)) 37 s.at l.pos s

no_rows_yet : (known : Option (List Bool)) → row_count (start known).tables ≤ 0
unfolding row_count
no_rows_yet known = omega arith

unit_adds : (known : Option (List Bool)) (u : UnitShape) → row_count (type_unit known u).state.tables ≤ count (unit_form u)
unit_adds known u =
    let s = type_line u.line (start known) in
    let t = type_externals u.externals s in
    omega (arith, no_rows_yet known, line_adds u.line (start known), externals_add u.externals s, demand_adds (any_main t.state.tables.functions) 38 (t.state.at - 1) u.last t.state)

pub tables_are_no_larger : (u : UnitShape) → row_count (typed_unit u).state.tables ≤ length (tokens_of u)
tables_are_no_larger u = omega (arith, unit_adds (Some (bodies u)) u, count_kinds (unit_form u))
