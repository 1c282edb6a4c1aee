-- Where fields have names of their own, they do so behind a unit.
use Rattle.std.proofs.Common.{ℕ, List, [], ◌∷◌, Option, Some, None, Bool, true, false, ◌-◌}
use Rattle.std.specs.Prelude.{nat_eq, ◌||◌, is_some}
use Rattle.c_base.specs.declared.place.Pos.{Pos}
use Rattle.c_syntax.specs.declared.text.Text.{Text}
use Rattle.c_syntax.specs.declared.tree.Named.{Named}
use Rattle.c_syntax.specs.declared.tree.Star.{Star}
use Rattle.c_syntax.specs.Shape.{TypeOf, LengthShapes, decl, DeclShape, DeclShapes, no_decls, more_decls, DeclaratorShape, declarator, DeclaratorShapes, no_declarators, more_declarators, arrays, function, MaybeInit, StmtShape, stmt, FormShape, compound, simply, when, either, while, do_while, for, switch, break, continue, return, CompoundShape, braces, ItemShapes, no_items, more_items, ExternalShape, defined, declared, UnitShape}
use Rattle.c_scopes.specs.Scoping.{find_here}
use Rattle.c_type_rules.specs.Verdicts.{result_type}
use Rattle.c_tree.specs.declared.meaning.Entity.{Entity}
use Rattle.c_tree.specs.State.{State, step, steps}
use Rattle.c_tables.specs.Rows.{first_place, text_of, name_pos}
use Rattle.c_tree.specs.Rulings.{by, rule, kind_at}
use Rattle.c_tree.specs.Sorts.{pos_in}
use Rattle.c_tree.specs.Parts.{unspelled, spelled_rule, star_tokens, pointed}
use Rattle.c_tree.specs.Typing.{type_node, type_specs, type_lengths}
use Rattle.c_tree.specs.Initialisers.{lengths_with}
use Rattle.c_tree.specs.Declaring.{name_tokens, claim_name, token_of_name, with_variable, variable_at, declare_variable, variable_rule, has_init, type_variable, opened_scope, type_function, type_declarator, type_declarators, none_declared, semicolon, type_decl, type_decls}
use Rattle.c_tree.specs.Stating.{Surroundings, in_loop, in_switch, Labels, no_labels, tested, switched, type_maybe, type_test, type_marks, type_labels, type_stmt, type_body, type_compound, type_items}
use Rattle.c_tree.specs.Units.{specs_place, with_variables, variable_of, begun_function, type_external, type_externals, start, type_line, any_main, type_unit}
use Rattle.c_syntax.specs.declared.tree.ProgramLine.{ProgramLine}
use Rattle.c_constants.specs.Probes.{digest_of}
use Rattle.c_syntax.specs.Grammar.{lengths_form, maybe_init_form, declarator_form, led_declarators_form, decl_form, decls_form, stmt_form, body_form, compound_form, items_form, external_form, externals_form, unit_form}
use Rattle.flow_owned.proofs.Words.{HasPlainWords, led_declarators}
use Rattle.flow_owned.proofs.ApartNodes.{AllApart, Keeps, as_it_was, ◌▸◌, complain_keeps, demand_keeps, rule_keeps, node_keeps, lengths_keep, specs_keep}
use Rattle.flow_owned.proofs.ApartParts.{maybe_init_keeps, name_keeps, function_keeps, maybe_keeps, test_keeps, maybe_test_keeps, result_keeps, marks_keep, labels_keep}

-- ---- declared names

with_variable_keeps : (x : Text) (k : Option TypeOf) (s : State) → Keeps s (with_variable x k s)
with_variable_keeps x None s = as_it_was s
with_variable_keeps x (Some t) s = as_it_was s

pub variable_at_keeps : (token : ℕ) (p : Pos) (x : Text) (k : Option TypeOf) (e : Option Entity) (s : State) → Keeps s (variable_at token p x k e s)
variable_at_keeps token p x k None s = with_variable_keeps x k s
variable_at_keeps token p x k (Some e) s = complain_keeps 31 token p s

pub variable_keeps : (k : Option TypeOf) (stars : List Star) (x : Option Named) (ls : LengthShapes) (i : MaybeInit) (s : State) → HasPlainWords (lengths_form ls) → HasPlainWords (maybe_init_form i) → Keeps s (type_variable k stars x ls i s).state
variable_keeps k stars x ls i s y z =
    let b = steps (star_tokens stars) s in
    let fit = nat_eq s.function 0 || has_init i in
    let v = steps (name_tokens x) (claim_name fit x b) in
    let l = type_lengths [] ls v in
    let token = token_of_name b.at x b in
    let p = name_pos first_place x in
    let r = variable_rule l.state.rooms (lengths_with i l.counts) (pointed stars k) in
    let u = rule r token p l.state in
    let d = declare_variable token p (text_of x) (kind_at r) u in
    name_keeps fit x b ▸ lengths_keep [] ls v y ▸ rule_keeps r token p l.state ▸ variable_at_keeps token p (text_of x) (kind_at r) (find_here (text_of x) u.names) u ▸ maybe_init_keeps (nat_eq s.function 0) (kind_at r) i d z

pub declarator_keeps : (k : Option TypeOf) (d : DeclaratorShape) (s : State) → HasPlainWords (declarator_form d) → Keeps s (type_declarator k d s).state
declarator_keeps k (declarator stars x (arrays ls) i) s w = variable_keeps k stars x ls i s w.1.1.0 w.1.1.1
declarator_keeps k (declarator stars x (function ps) i) s w = function_keeps false k stars x ps i s w.1.1.0.1.0

pub declarators_keep : (k : Option TypeOf) (ds : DeclaratorShapes) (s : State) → HasPlainWords (led_declarators_form ds) → Keeps s (type_declarators k ds s).state
declarators_keep k no_declarators s w = as_it_was s
declarators_keep k (more_declarators d rest) s w = let t = type_declarator k d s in declarator_keeps k d s w.1.0 ▸ declarators_keep k rest (step t.state) w.1.1

pub decl_keeps : (d : DeclShape) (s : State) → HasPlainWords (decl_form d) → Keeps s (type_decl d s).state
decl_keeps (decl p specs names) s w =
    let t = type_specs (none_declared names) specs unspelled s in
    let r = spelled_rule t.spelled in
    let v = rule r s.at p t.state in
    specs_keep (none_declared names) specs unspelled s w.0 ▸ rule_keeps r s.at p t.state ▸ declarators_keep (kind_at r) names (steps (semicolon names) v) (led_declarators names w.1.0)

pub decls_keep : (ds : DeclShapes) (s : State) → HasPlainWords (decls_form ds) → Keeps s (type_decls ds s).state
decls_keep no_decls s w = as_it_was s
decls_keep (more_decls d rest) s w = decl_keeps d s w.0 ▸ decls_keep rest (type_decl d s).state w.1

-- ---- statements

mutual
  pub stmt_keeps : (c : Surroundings) (a : StmtShape) (s : State) → HasPlainWords (stmt_form a) → Keeps s (type_stmt c a s).state
  stmt_keeps c (stmt p ms q f) s w = marks_keep ms s ▸ body_keeps c q f (type_marks ms s) w.1

  pub body_keeps : (c : Surroundings) (p : Pos) (f : FormShape) (s : State) → HasPlainWords (body_form f) → Keeps s (type_body c p f s).state
  body_keeps c p (compound b) s w = compound_keeps c b (opened_scope s) w
  body_keeps c p (simply e) s w = maybe_keeps e s w.0
  body_keeps c p (when e a) s w = test_keeps (steps 2 s).at e (steps 2 s) w.1.0.1.0 ▸ stmt_keeps c a (step (tested (steps 2 s).at (type_node e (steps 2 s)))) w.1.1
  body_keeps c p (either e a b) s w =
      let v = type_stmt c a (step (tested (steps 2 s).at (type_node e (steps 2 s)))) in
      test_keeps (steps 2 s).at e (steps 2 s) w.1.0.1.0 ▸ stmt_keeps c a (step (tested (steps 2 s).at (type_node e (steps 2 s)))) w.1.1.0 ▸ stmt_keeps c b (step v.state) w.1.1.1.1
  body_keeps c p (while e a) s w = test_keeps (steps 2 s).at e (steps 2 s) w.1.0.1.0 ▸ stmt_keeps (in_loop c) a (step (tested (steps 2 s).at (type_node e (steps 2 s)))) w.1.1
  body_keeps c p (do_while a e) s w =
      let v = type_stmt (in_loop c) a (step s) in
      stmt_keeps (in_loop c) a (step s) w.1.0 ▸ test_keeps (steps 2 v.state).at e (steps 2 v.state) w.1.1.1.0.1.0
  body_keeps c p (for e f g a) s w =
      let t = type_maybe e (steps 2 s) in
      let v = type_test f (step t.state) in
      let x = type_maybe g (step v.state) in
      maybe_keeps e (steps 2 s) w.1.0.1.0.0.0 ▸ maybe_test_keeps f (step t.state) w.1.0.1.0.1.0.0 ▸ maybe_keeps g (step v.state) w.1.0.1.0.1.1 ▸ stmt_keeps (in_loop c) a (step x.state) w.1.1
  body_keeps c p (switch e items) s w =
      let t = type_node e (steps 2 s) in
      let r = switched t in
      let v = rule r (steps 2 s).at (pos_in t.node) t.state in
      node_keeps e (steps 2 s) w.1.0.1.0 ▸ rule_keeps r (steps 2 s).at (pos_in t.node) t.state ▸ items_keep (in_switch c) (Some (no_labels r)) items (steps 2 v) w.1.1.1.0
  body_keeps c p break s w = demand_keeps c.breakable 37 s.at p s
  body_keeps c p continue s w = demand_keeps c.loop 37 s.at p s
  body_keeps c p (return e) s w = result_keeps s.at p c.result e (step s) w.0.1

  pub compound_keeps : (c : Surroundings) (b : CompoundShape) (s : State) → HasPlainWords (compound_form b) → Keeps s (type_compound c b s).state
  compound_keeps c (braces p ds items) s w = decls_keep ds (step s) w.1.0 ▸ items_keep c None items (type_decls ds (step s)).state w.1.1.0

  pub items_keep : (c : Surroundings) (o : Option Labels) (items : ItemShapes) (s : State) → HasPlainWords (items_form items) → Keeps s (type_items c o items s).state
  items_keep c o no_items s w = as_it_was s
  items_keep c o (more_items labels a rest) s w =
      let l = type_labels o labels s in
      let t = type_stmt c a l.state in
      labels_keep o labels s w.0 ▸ stmt_keeps c a l.state w.1.0 ▸ items_keep c l.so_far rest t.state w.1.1

-- ---- units

variable_of_keeps : (x : Text) (k : Option TypeOf) (e : Option Entity) (s : State) → Keeps s (variable_of x k e s)
variable_of_keeps x k None s = with_variable_keeps x k s
variable_of_keeps x k (Some e) s = as_it_was s

variables_keep : (xs : List (Text × Option TypeOf)) (s : State) → Keeps s (with_variables xs s)
variables_keep [] s = as_it_was s
variables_keep ((x, k) ∷ rest) s = variable_of_keeps x k (find_here x s.names) s ▸ variables_keep rest (variable_of x k (find_here x s.names) s)

external_keeps : (e : ExternalShape) (s : State) → HasPlainWords (external_form e) → Keeps s (type_external e s).state
external_keeps (declared d) s w = decl_keeps d s w
external_keeps (defined specs (declarator stars x (function ps) i) ms c) s w =
    let t = type_specs false specs unspelled s in
    let r = spelled_rule t.spelled in
    let q = specs_place specs in
    let v = rule r s.at q t.state in
    let f = type_function true (kind_at r) stars x ps i v in
    let b = begun_function f f.state in
    let e : Surroundings = record { loop = false; breakable = false; result = kind_at (by 33 (result_type (pointed stars (kind_at r)))) } in
    specs_keep false specs unspelled s w.0 ▸ rule_keeps r s.at q t.state ▸ function_keeps true (kind_at r) stars x ps i v w.1.0.1.1.0.1.0 ▸ variables_keep f.given _ ▸ marks_keep ms b ▸ compound_keeps e c (type_marks ms b) w.1.1.1
external_keeps (defined specs (declarator stars x (arrays ls) i) ms c) s w = complain_keeps 33 s.at first_place s

externals_keep : (es : List ExternalShape) (s : State) → HasPlainWords (externals_form es) → Keeps s (type_externals es s).state
externals_keep [] s w = as_it_was s
externals_keep (e ∷ rest) s w = external_keeps e s w.0 ▸ externals_keep rest (type_external e s).state w.1

line_keeps : (l : Option ProgramLine) (s : State) → Keeps s (type_line l s)
line_keeps None s = as_it_was s
line_keeps (Some l) s = demand_keeps (is_some (digest_of l.digest)) 37 s.at l.pos s

-- the structures of a unit in the end
pub unit_apart : (known : Option (List Bool)) (u : UnitShape) → HasPlainWords (unit_form u) → AllApart (type_unit known u).state.tables.structures
unit_apart known u w =
    let v = type_line u.line (start known) in
    let t = type_externals u.externals v in
    demand_keeps (any_main t.state.tables.functions) 38 (t.state.at - 1) u.last t.state (externals_keep u.externals v w.1 (line_keeps u.line (start known) tt))
