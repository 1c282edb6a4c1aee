-- Typing takes no complaint back: initialisers, declarations, statements and units.
use Rattle.std.proofs.Common.{ℕ, ℤ, List, [], ◌∷◌, Option, Some, None, Bool, true, false}
use Rattle.std.specs.Prelude.{nat_eq, ◌||◌}
use Rattle.c_base.specs.declared.place.Pos.{Pos}
use Rattle.c_syntax.specs.declared.text.Text.{Text}
use Rattle.c_syntax.specs.declared.tree.Named.{Named}
use Rattle.c_syntax.specs.declared.tree.Star.{Star}
use Rattle.c_syntax.specs.declared.tree.ProbeMark.{ProbeMark}
use Rattle.c_syntax.specs.Shape.{TypeOf, block, def, NodeShape, MaybeNode, no_node, one_node, LengthShapes, SpecShapes, decl, DeclShape, DeclShapes, no_decls, more_decls, DeclaratorShape, declarator, DeclaratorShapes, no_declarators, more_declarators, arrays, function, ParamsShape, empty, void, params, MaybeInit, no_init, one_init, InitShape, one, listed, InitShapes, no_inits, more_inits, LabelShape, case, default, StmtShape, stmt, FormShape, compound, simply, when, either, while, do_while, for, switch, break, continue, return, CompoundShape, braces, ItemShapes, no_items, more_items, ExternalShape, defined, declared}
use Rattle.c_constants.specs.Constants as constants
use Rattle.c_scopes.specs.Scoping.{find_here}
use Rattle.c_type_rules.specs.Verdicts.{result_type}
use Rattle.c_tree.specs.declared.meaning.Entity.{Entity}
use Rattle.c_tree.specs.State.{State, step, steps, complain, mention, function_number}
use Rattle.c_tables.specs.Rows.{first_place, text_of, name_pos}
use Rattle.c_tree.specs.Rulings.{by, rule, kind_at, of_kind}
use Rattle.c_tree.specs.Sorts.{pos_in}
use Rattle.c_tree.specs.Operators.{claim, constant_rule, hushed, heard}
use Rattle.c_tree.specs.Parts.{unspelled, spelled_rule, star_tokens, pointed}
use Rattle.c_tree.specs.Typing.{type_node, type_specs, type_lengths}
use Rattle.c_tree.specs.Initialisers.{lengths_with, form_in, chars_of, filled, constant_init, fits, one_init_of, list_rule, slots, Slots, slot, slot_rule, further, init_pos, type_init, type_inits}
use Rattle.c_tree.specs.Declaring.{name_tokens, claim_mark, claim_name, token_of_name, with_variable, variable_at, declare_variable, variable_rule, has_init, type_maybe_init, type_variable, parameter_at, with_parameter, declare_parameter, parameter_rule, name_demand, type_param, type_param_list, type_params, opened_scope, closed_params, all_kinds, signature_of, Signature, function_at, unclear_at, bodied, function_entity, declare_function, type_function, type_declarator, type_declarators, none_declared, semicolon, type_decl, type_decls}
use Rattle.c_tree.specs.Stating.{Surroundings, in_loop, in_switch, Labels, no_labels, tested, switched, result_rule, type_maybe, type_test, type_result, type_marks, case_state, default_state, case_labels, default_labels, type_labels, type_stmt, type_body, type_compound, type_items}
use Rattle.c_tree.specs.Units.{specs_place, with_variables, variable_of, begun_function, type_external, type_externals}
use Rattle.c_tree.proofs.Grows.{Grows, ◌▸◌, as_it_was, complain_grows, demand_grows, rule_grows, claim_grows, node_grows, lengths_grow, specs_grow, mention_grows}

-- ---- initialisers

value_grows : (c : Bool) (k : Option TypeOf) (o : Option (ℕ × ℕ)) (a : NodeShape) (s : State) → Grows s (one_init_of o c k a s).state
value_grows c k (Some (bytes, elements)) a s = node_grows a (hushed s) ▸ rule_grows _ s.at (pos_in a) (heard s.quiet (type_node a (hushed s)).state)
value_grows c k None a s =
    let t = type_node a s in
    node_grows a s ▸ rule_grows (fits k t.sort) s.at (pos_in a) t.state ▸ rule_grows (constant_init c t.sort) s.at (pos_in a) (rule (fits k t.sort) s.at (pos_in a) t.state)

mutual
  init_grows : (c : Bool) (k : Option TypeOf) (i : InitShape) (s : State) → Grows s (type_init c k i s).state
  init_grows c k (one a) s = value_grows c k (filled (chars_of k) (form_in a)) a s
  init_grows c k (listed p items last) s =
      let v = rule (of_kind k list_rule) s.at p s in
      rule_grows (of_kind k list_rule) s.at p s ▸ inits_grow (slots k s) items (step v)

  pub inits_grow : (l : Slots) (is : InitShapes) (s : State) → Grows s (type_inits l is s).state
  inits_grow l no_inits s = as_it_was s
  inits_grow l (more_inits i rest) s =
      let v = rule (slot_rule l) s.at (init_pos i) s in
      let t = type_init true (slot l) i v in
      rule_grows (slot_rule l) s.at (init_pos i) s ▸ init_grows true (slot l) i v ▸ inits_grow (further l) rest (step t.state)

pub maybe_init_grows : (c : Bool) (k : Option TypeOf) (i : MaybeInit) (s : State) → Grows s (type_maybe_init c k i s).state
maybe_init_grows c k no_init s = as_it_was s
maybe_init_grows c k (one_init i) s = init_grows c k i (step s)

-- ---- declared names

mark_grows : (fit : Bool) (m : Option ProbeMark) (s : State) → Grows s (claim_mark fit m s)
mark_grows fit None s = as_it_was s
mark_grows fit (Some m) s = claim_grows def m.number s.at m.pos s ▸ demand_grows fit 37 s.at m.pos (claim def m.number s.at m.pos s)

pub name_grows : (fit : Bool) (x : Option Named) (s : State) → Grows s (claim_name fit x s)
name_grows fit None s = as_it_was s
name_grows fit (Some x) s = mark_grows fit x.probe s

with_variable_grows : (x : Text) (k : Option TypeOf) (s : State) → Grows s (with_variable x k s)
with_variable_grows x None s = as_it_was s
with_variable_grows x (Some t) s = as_it_was s

pub variable_at_grows : (token : ℕ) (p : Pos) (x : Text) (k : Option TypeOf) (e : Option Entity) (s : State) → Grows s (variable_at token p x k e s)
variable_at_grows token p x k None s = with_variable_grows x k s
variable_at_grows token p x k (Some e) s = complain_grows 31 token p s

variable_grows : (k : Option TypeOf) (stars : List Star) (x : Option Named) (ls : LengthShapes) (i : MaybeInit) (s : State) → Grows s (type_variable k stars x ls i s).state
variable_grows k stars x ls i s =
    let b = steps (star_tokens stars) s in
    let fit = nat_eq s.function 0 || has_init i in
    let v = steps (name_tokens x) (claim_name fit x b) in
    let l = type_lengths [] ls v in
    let token = token_of_name b.at x b in
    let p = name_pos first_place x in
    let r = variable_rule l.state.rooms (lengths_with i l.counts) (pointed stars k) in
    let u = rule r token p l.state in
    let d = declare_variable token p (text_of x) (kind_at r) u in
    name_grows fit x b ▸ lengths_grow [] ls v ▸ rule_grows r token p l.state ▸ variable_at_grows token p (text_of x) (kind_at r) (find_here (text_of x) u.names) u ▸ maybe_init_grows (nat_eq s.function 0) (kind_at r) i d

with_parameter_grows : (x : Text) (k : Option TypeOf) (s : State) → Grows s (with_parameter x k s)
with_parameter_grows x None s = as_it_was s
with_parameter_grows x (Some t) s = as_it_was s

parameter_at_grows : (token : ℕ) (p : Pos) (x : Text) (k : Option TypeOf) (e : Option Entity) (s : State) → Grows s (parameter_at token p x k e s)
parameter_at_grows token p x k None s = with_parameter_grows x k s
parameter_at_grows token p x k (Some e) s = complain_grows 31 token p s

pub parameter_grows : (token : ℕ) (x : Option Named) (k : Option TypeOf) (s : State) → Grows s (declare_parameter token x k s)
parameter_grows token None k s = as_it_was s
parameter_grows token (Some x) k s = parameter_at_grows token x.pos x.text k (find_here x.text s.names) s

pub name_demand_grows : (defining : Bool) (x : Option Named) (token : ℕ) (p : Pos) (s : State) → Grows s (name_demand defining x token p s)
name_demand_grows true None token p s = complain_grows 37 token p s
name_demand_grows true (Some x) token p s = as_it_was s
name_demand_grows false x token p s = as_it_was s

param_grows : (defining : Bool) (p : Pos) (specs : SpecShapes) (stars : List Star) (x : Option Named) (ls : LengthShapes) (i : MaybeInit) (s : State) → Grows s (type_param defining p specs stars x ls i s).state
param_grows defining p specs stars x ls i s =
    let t = type_specs false specs unspelled s in
    let r = spelled_rule t.spelled in
    let b = steps (star_tokens stars) (rule r s.at p t.state) in
    let v = steps (name_tokens x) (claim_name defining x b) in
    let l = type_lengths [] ls v in
    let token = token_of_name s.at x b in
    let k = parameter_rule l.state.rooms l.counts (pointed stars (kind_at r)) in
    let u = name_demand defining x s.at p l.state in
    specs_grow false specs unspelled s ▸ rule_grows r s.at p t.state ▸ name_grows defining x b ▸ lengths_grow [] ls v ▸ name_demand_grows defining x s.at p l.state ▸ rule_grows k token (name_pos p x) u
    ▸ parameter_grows token x (kind_at k) (rule k token (name_pos p x) u)

pub list_grows : (defining : Bool) (ds : DeclShapes) (s : State) → Grows s (type_param_list defining ds s).state
list_grows defining no_decls s = as_it_was s
list_grows defining (more_decls (decl p specs no_declarators) rest) s = let v = complain 33 s.at first_place s in complain_grows 33 s.at first_place s ▸ list_grows defining rest (step v)
list_grows defining (more_decls (decl p specs (more_declarators (declarator stars x (arrays ls) i) no_declarators)) rest) s =
    let a = type_param defining p specs stars x ls i s in
    param_grows defining p specs stars x ls i s ▸ list_grows defining rest (step a.state)
list_grows defining (more_decls (decl p specs (more_declarators (declarator stars x (function ps) i) no_declarators)) rest) s = let v = complain 33 s.at first_place s in complain_grows 33 s.at first_place s ▸ list_grows defining rest (step v)
list_grows defining (more_decls (decl p specs (more_declarators (declarator stars x (arrays ls) i) (more_declarators d more))) rest) s = let v = complain 33 s.at first_place s in complain_grows 33 s.at first_place s ▸ list_grows defining rest (step v)
list_grows defining (more_decls (decl p specs (more_declarators (declarator stars x (function ps) i) (more_declarators d more))) rest) s = let v = complain 33 s.at first_place s in complain_grows 33 s.at first_place s ▸ list_grows defining rest (step v)

params_grow : (defining : Bool) (ps : ParamsShape) (s : State) → Grows s (type_params defining ps s).state
params_grow defining empty s = as_it_was s
params_grow defining void s = as_it_was s
params_grow defining (params ds) s = list_grows defining ds (step (record s { params = [] }))

function_at_grows : (defining : Bool) (token : ℕ) (p : Pos) (x : Text) (e : Entity) (o : Option Entity) (s : State) → Grows s (function_at defining token p x e o s)
function_at_grows defining token p x e None s = as_it_was s
function_at_grows defining token p x e (Some o) s = demand_grows _ 31 token p s

unclear_grows : (defining : Bool) (token : ℕ) (p : Pos) (x : Text) (o : Option Entity) (s : State) → Grows s (unclear_at defining token p x o s)
unclear_grows defining token p x None s = as_it_was s
unclear_grows defining token p x (Some o) s = demand_grows _ 31 token p s

bodied_grows : (defining : Bool) (x : Text) (s : State) → Grows s (bodied defining x s)
bodied_grows true x s = as_it_was s
bodied_grows false x s = as_it_was s

pub declared_grows : (defining : Bool) (token : ℕ) (p : Pos) (x : Text) (f : Option Signature) (s : State) → Grows s (declare_function defining token p x f s).state
declared_grows defining token p x None s = unclear_grows defining token p x (find_here x s.names) s ▸ bodied_grows defining x (unclear_at defining token p x (find_here x s.names) s)
declared_grows defining token p x (Some f) s =
    let m = mention x f.result f.params s in
    mention_grows x f.result f.params (function_number x f.result f.params s.tables.functions) s ▸ function_at_grows defining token p x (function_entity x f m.number) (find_here x m.state.names) m.state

pub closed_params_grows : (defining : Bool) (s : State) → Grows s (closed_params defining s)
closed_params_grows true s = as_it_was s
closed_params_grows false s = as_it_was s

pub function_grows : (defining : Bool) (k : Option TypeOf) (stars : List Star) (x : Option Named) (ps : ParamsShape) (i : MaybeInit) (s : State) → Grows s (type_function defining k stars x ps i s).state
function_grows defining k stars x ps i s =
    let b = steps (star_tokens stars) s in
    let token = token_of_name b.at x b in
    let p = name_pos first_place x in
    let r = by 33 (result_type (pointed stars k)) in
    let v = record (opened_scope (steps (name_tokens x) (claim_name false x b))) { file = false } in
    let q = type_params defining ps v in
    let f = signature_of (kind_at r) (all_kinds q.given) in
    let c = closed_params defining q.state in
    name_grows false x b ▸ params_grow defining ps v ▸ closed_params_grows defining q.state ▸ rule_grows r token p c ▸ declared_grows defining token p (text_of x) f (record (rule r token p c) { file = s.file })

declarator_grows : (k : Option TypeOf) (d : DeclaratorShape) (s : State) → Grows s (type_declarator k d s).state
declarator_grows k (declarator stars x (arrays ls) i) s = variable_grows k stars x ls i s
declarator_grows k (declarator stars x (function ps) i) s = function_grows false k stars x ps i s

pub declarators_grow : (k : Option TypeOf) (ds : DeclaratorShapes) (s : State) → Grows s (type_declarators k ds s).state
declarators_grow k no_declarators s = as_it_was s
declarators_grow k (more_declarators d rest) s = let t = type_declarator k d s in declarator_grows k d s ▸ declarators_grow k rest (step t.state)

pub decl_grows : (d : DeclShape) (s : State) → Grows s (type_decl d s).state
decl_grows (decl p specs names) s =
    let t = type_specs (none_declared names) specs unspelled s in
    let r = spelled_rule t.spelled in
    let v = rule r s.at p t.state in
    specs_grow (none_declared names) specs unspelled s ▸ rule_grows r s.at p t.state ▸ declarators_grow (kind_at r) names (steps (semicolon names) v)

pub decls_grow : (ds : DeclShapes) (s : State) → Grows s (type_decls ds s).state
decls_grow no_decls s = as_it_was s
decls_grow (more_decls d rest) s = decl_grows d s ▸ decls_grow rest (type_decl d s).state

-- ---- statements

pub maybe_grows : (e : MaybeNode) (s : State) → Grows s (type_maybe e s).state
maybe_grows no_node s = as_it_was s
maybe_grows (one_node a) s = node_grows a s

pub test_grows : (first : ℕ) (a : NodeShape) (s : State) → Grows s (tested first (type_node a s))
test_grows first a s = let t = type_node a s in node_grows a s ▸ rule_grows _ first (pos_in t.node) t.state

pub maybe_test_grows : (e : MaybeNode) (s : State) → Grows s (type_test e s).state
maybe_test_grows no_node s = as_it_was s
maybe_test_grows (one_node a) s = test_grows s.at a s

result_grows : (token : ℕ) (p : Pos) (k : Option TypeOf) (e : MaybeNode) (s : State) → Grows s (type_result token p k e s).state
result_grows token p k no_node s = as_it_was s
result_grows token p k (one_node a) s = let t = type_node a s in node_grows a s ▸ rule_grows (result_rule k t.sort) token p t.state

pub marks_grow : (ms : List ProbeMark) (s : State) → Grows s (type_marks ms s)
marks_grow [] s = as_it_was s
marks_grow (m ∷ ms) s = let v = claim block m.number s.at m.pos s in claim_grows block m.number s.at m.pos s ▸ marks_grow ms (steps 5 v)

pub case_grows : (token : ℕ) (p : Pos) (o : Option Labels) (v : Option ℤ) (s : State) → Grows s (case_state token p o v s)
case_grows token p None v s = complain_grows 37 token p s
case_grows token p (Some l) v s = demand_grows _ 36 token p s

default_grows : (token : ℕ) (p : Pos) (o : Option Labels) (s : State) → Grows s (default_state token p o s)
default_grows token p None s = complain_grows 37 token p s
default_grows token p (Some l) s = demand_grows _ 36 token p s

pub labels_grow : (o : Option Labels) (ls : List LabelShape) (s : State) → Grows s (type_labels o ls s).state
labels_grow o [] s = as_it_was s
labels_grow o (case p a ∷ rest) s =
    let t = type_node a (step s) in
    let v = constants.value t.sort.constant in
    let u = rule (constant_rule t.sort) (step s).at (pos_in a) t.state in
    node_grows a (step s) ▸ rule_grows (constant_rule t.sort) (step s).at (pos_in a) t.state ▸ case_grows s.at p o v u ▸ labels_grow (case_labels o v) rest (step (case_state s.at p o v u))
labels_grow o (default p ∷ rest) s = default_grows s.at p o s ▸ labels_grow (default_labels o) rest (steps 2 (default_state s.at p o s))

mutual
  pub stmt_grows : (c : Surroundings) (a : StmtShape) (s : State) → Grows s (type_stmt c a s).state
  stmt_grows c (stmt p ms q f) s = marks_grow ms s ▸ body_grows c q f (type_marks ms s)

  body_grows : (c : Surroundings) (p : Pos) (f : FormShape) (s : State) → Grows s (type_body c p f s).state
  body_grows c p (compound b) s = compound_grows c b (opened_scope s)
  body_grows c p (simply e) s = maybe_grows e s
  body_grows c p (when e a) s = test_grows (steps 2 s).at e (steps 2 s) ▸ stmt_grows c a (step (tested (steps 2 s).at (type_node e (steps 2 s))))
  body_grows c p (either e a b) s =
      let v = type_stmt c a (step (tested (steps 2 s).at (type_node e (steps 2 s)))) in
      test_grows (steps 2 s).at e (steps 2 s) ▸ stmt_grows c a (step (tested (steps 2 s).at (type_node e (steps 2 s)))) ▸ stmt_grows c b (step v.state)
  body_grows c p (while e a) s = test_grows (steps 2 s).at e (steps 2 s) ▸ stmt_grows (in_loop c) a (step (tested (steps 2 s).at (type_node e (steps 2 s))))
  body_grows c p (do_while a e) s =
      let v = type_stmt (in_loop c) a (step s) in
      stmt_grows (in_loop c) a (step s) ▸ test_grows (steps 2 v.state).at e (steps 2 v.state)
  body_grows c p (for e f g a) s =
      let t = type_maybe e (steps 2 s) in
      let v = type_test f (step t.state) in
      let w = type_maybe g (step v.state) in
      maybe_grows e (steps 2 s) ▸ maybe_test_grows f (step t.state) ▸ maybe_grows g (step v.state) ▸ stmt_grows (in_loop c) a (step w.state)
  body_grows c p (switch e items) s =
      let t = type_node e (steps 2 s) in
      let r = switched t in
      let v = rule r (steps 2 s).at (pos_in t.node) t.state in
      node_grows e (steps 2 s) ▸ rule_grows r (steps 2 s).at (pos_in t.node) t.state ▸ items_grow (in_switch c) (Some (no_labels r)) items (steps 2 v)
  body_grows c p break s = demand_grows c.breakable 37 s.at p s
  body_grows c p continue s = demand_grows c.loop 37 s.at p s
  body_grows c p (return e) s = result_grows s.at p c.result e (step s)

  pub compound_grows : (c : Surroundings) (b : CompoundShape) (s : State) → Grows s (type_compound c b s).state
  compound_grows c (braces p ds items) s = decls_grow ds (step s) ▸ items_grow c None items (type_decls ds (step s)).state

  pub items_grow : (c : Surroundings) (o : Option Labels) (items : ItemShapes) (s : State) → Grows s (type_items c o items s).state
  items_grow c o no_items s = as_it_was s
  items_grow c o (more_items labels a rest) s =
      let l = type_labels o labels s in
      let t = type_stmt c a l.state in
      labels_grow o labels s ▸ stmt_grows c a l.state ▸ items_grow c l.so_far rest t.state

-- ---- units

variable_of_grows : (x : Text) (k : Option TypeOf) (e : Option Entity) (s : State) → Grows s (variable_of x k e s)
variable_of_grows x k None s = with_variable_grows x k s
variable_of_grows x k (Some e) s = as_it_was s

pub variables_grow : (xs : List (Text × Option TypeOf)) (s : State) → Grows s (with_variables xs s)
variables_grow [] s = as_it_was s
variables_grow ((x, k) ∷ rest) s = variable_of_grows x k (find_here x s.names) s ▸ variables_grow rest (variable_of x k (find_here x s.names) s)

pub external_grows : (e : ExternalShape) (s : State) → Grows s (type_external e s).state
external_grows (declared d) s = decl_grows d s
external_grows (defined specs (declarator stars x (function ps) i) ms c) s =
    let t = type_specs false specs unspelled s in
    let r = spelled_rule t.spelled in
    let q = specs_place specs in
    let v = rule r s.at q t.state in
    let f = type_function true (kind_at r) stars x ps i v in
    let b = begun_function f f.state in
    specs_grow false specs unspelled s ▸ rule_grows r s.at q t.state ▸ function_grows true (kind_at r) stars x ps i v ▸ variables_grow f.given _ ▸ marks_grow ms b ▸ compound_grows _ c (type_marks ms b)
external_grows (defined specs (declarator stars x (arrays ls) i) ms c) s = complain_grows 33 s.at first_place s

pub externals_grow : (es : List ExternalShape) (s : State) → Grows s (type_externals es s).state
externals_grow [] s = as_it_was s
externals_grow (e ∷ rest) s = external_grows e s ▸ externals_grow rest (type_external e s).state
