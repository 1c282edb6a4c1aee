-- In which function a part of a program stands is the same behind it: initialisers, declarations and statements; and a unit stands in none.
use Rattle.std.proofs.Common.{◌≡◌, ℕ, ℤ, List, [], ◌∷◌, Option, Some, None, Bool, true, false, refl, sym, ◌∙◌}
use Rattle.std.specs.Prelude.{nat_eq, ◌||◌}
use Rattle.c_base.specs.declared.place.Pos.{Pos}
use Rattle.c_syntax.specs.declared.text.Text.{Text}
use Rattle.c_syntax.specs.declared.tree.Named.{Named}
use Rattle.c_syntax.specs.declared.tree.Star.{Star}
use Rattle.c_syntax.specs.declared.tree.ProbeMark.{ProbeMark}
use Rattle.c_syntax.specs.Shape.{TypeOf, block, def, NodeShape, MaybeNode, no_node, one_node, LengthShapes, SpecShapes, decl, DeclShape, DeclShapes, no_decls, more_decls, DeclaratorShape, declarator, DeclaratorShapes, no_declarators, more_declarators, arrays, function, ParamsShape, empty, void, params, MaybeInit, no_init, one_init, InitShape, one, listed, InitShapes, no_inits, more_inits, LabelShape, case, default, StmtShape, stmt, FormShape, compound, simply, when, either, while, do_while, for, switch, break, continue, return, CompoundShape, braces, ItemShapes, no_items, more_items, ExternalShape, defined, declared}
use Rattle.c_constants.specs.Constants as constants
use Rattle.c_scopes.specs.Scoping.{find_here}
use Rattle.c_type_rules.specs.Verdicts.{result_type}
use Rattle.c_tree.specs.declared.meaning.Entity.{Entity}
use Rattle.c_tree.specs.State.{State, step, steps, complain, mention, function_number}
use Rattle.c_tables.specs.Rows.{first_place, text_of, name_pos}
use Rattle.c_tree.specs.Rulings.{Ruled, by, rule, kind_at, of_kind}
use Rattle.c_tree.specs.Sorts.{pos_in}
use Rattle.c_tree.specs.Operators.{claim, constant_rule, hushed, heard}
use Rattle.c_tree.specs.Parts.{unspelled, spelled_rule, star_tokens, pointed}
use Rattle.c_tree.specs.Typing.{type_node, type_specs, type_lengths}
use Rattle.c_tree.specs.Initialisers.{lengths_with, form_in, chars_of, filled, constant_init, fits, one_init_of, list_rule, slots, Slots, slot, slot_rule, further, init_pos, type_init, type_inits}
use Rattle.c_tree.specs.Declaring.{name_tokens, claim_mark, claim_name, token_of_name, with_variable, variable_at, declare_variable, variable_rule, has_init, type_maybe_init, type_variable, parameter_at, with_parameter, declare_parameter, parameter_rule, name_demand, type_param, type_param_list, type_params, opened_scope, closed_params, all_kinds, signature_of, Signature, function_at, unclear_at, bodied, function_entity, declare_function, type_function, type_declarator, type_declarators, none_declared, semicolon, type_decl, type_decls}
use Rattle.c_tree.specs.Stating.{Surroundings, in_loop, in_switch, Labels, no_labels, tested, switched, result_rule, type_maybe, type_test, type_result, type_marks, case_state, default_state, case_labels, default_labels, type_labels, type_stmt, type_body, type_compound, type_items}
use Rattle.c_tree.specs.Units.{type_external, type_externals}
use Rattle.probe_moved.proofs.Kept.{Keeps, ◌▸◌, complain_kept, demand_kept, rule_kept, claim_kept, node_kept, lengths_kept, specs_kept, mention_kept}

-- ---- initialisers

value_kept : (c : Bool) (k : Option TypeOf) (o : Option (ℕ × ℕ)) (a : NodeShape) (s : State) → Keeps s (one_init_of o c k a s).state
value_kept c k (Some (bytes, elements)) a s = node_kept a (hushed s) ▸ rule_kept _ s.at (pos_in a) (heard s.quiet (type_node a (hushed s)).state)
value_kept c k None a s =
    let t = type_node a s in
    node_kept a s ▸ rule_kept (fits k t.sort) s.at (pos_in a) t.state ▸ rule_kept (constant_init c t.sort) s.at (pos_in a) (rule (fits k t.sort) s.at (pos_in a) t.state)

mutual
  init_kept : (c : Bool) (k : Option TypeOf) (i : InitShape) (s : State) → Keeps s (type_init c k i s).state
  init_kept c k (one a) s = value_kept c k (filled (chars_of k) (form_in a)) a s
  init_kept c k (listed p items last) s =
      let v = rule (of_kind k list_rule) s.at p s in
      rule_kept (of_kind k list_rule) s.at p s ▸ inits_kept (slots k s) items (step v)

  pub inits_kept : (l : Slots) (is : InitShapes) (s : State) → Keeps s (type_inits l is s).state
  inits_kept l no_inits s = refl
  inits_kept l (more_inits i rest) s =
      let v = rule (slot_rule l) s.at (init_pos i) s in
      let t = type_init true (slot l) i v in
      rule_kept (slot_rule l) s.at (init_pos i) s ▸ init_kept true (slot l) i v ▸ inits_kept (further l) rest (step t.state)

pub maybe_init_kept : (c : Bool) (k : Option TypeOf) (i : MaybeInit) (s : State) → Keeps s (type_maybe_init c k i s).state
maybe_init_kept c k no_init s = refl
maybe_init_kept c k (one_init i) s = init_kept c k i (step s)

-- ---- declared names

mark_kept : (fit : Bool) (m : Option ProbeMark) (s : State) → Keeps s (claim_mark fit m s)
mark_kept fit None s = refl
mark_kept fit (Some m) s = claim_kept def m.number s.at m.pos s ▸ demand_kept fit 37 s.at m.pos (claim def m.number s.at m.pos s)

pub name_kept : (fit : Bool) (x : Option Named) (s : State) → Keeps s (claim_name fit x s)
name_kept fit None s = refl
name_kept fit (Some x) s = mark_kept fit x.probe s

with_variable_kept : (x : Text) (k : Option TypeOf) (s : State) → Keeps s (with_variable x k s)
with_variable_kept x None s = refl
with_variable_kept x (Some t) s = refl

pub variable_at_kept : (token : ℕ) (p : Pos) (x : Text) (k : Option TypeOf) (e : Option Entity) (s : State) → Keeps s (variable_at token p x k e s)
variable_at_kept token p x k None s = with_variable_kept x k s
variable_at_kept token p x k (Some e) s = complain_kept 31 token p s

variable_kept : (k : Option TypeOf) (stars : List Star) (x : Option Named) (ls : LengthShapes) (i : MaybeInit) (s : State) → Keeps s (type_variable k stars x ls i s).state
variable_kept k stars x ls i s =
    let b = steps (star_tokens stars) s in
    let fit = nat_eq s.function 0 || has_init i in
    let v = steps (name_tokens x) (claim_name fit x b) in
    let l = type_lengths [] ls v in
    let token = token_of_name b.at x b in
    let p = name_pos first_place x in
    let r = variable_rule l.state.rooms (lengths_with i l.counts) (pointed stars k) in
    let u = rule r token p l.state in
    let d = declare_variable token p (text_of x) (kind_at r) u in
    name_kept fit x b ▸ lengths_kept [] ls v ▸ rule_kept r token p l.state ▸ variable_at_kept token p (text_of x) (kind_at r) (find_here (text_of x) u.names) u ▸ maybe_init_kept (nat_eq s.function 0) (kind_at r) i d

with_parameter_kept : (x : Text) (k : Option TypeOf) (s : State) → Keeps s (with_parameter x k s)
with_parameter_kept x None s = refl
with_parameter_kept x (Some t) s = refl

parameter_at_kept : (token : ℕ) (p : Pos) (x : Text) (k : Option TypeOf) (e : Option Entity) (s : State) → Keeps s (parameter_at token p x k e s)
parameter_at_kept token p x k None s = with_parameter_kept x k s
parameter_at_kept token p x k (Some e) s = complain_kept 31 token p s

pub parameter_kept : (token : ℕ) (x : Option Named) (k : Option TypeOf) (s : State) → Keeps s (declare_parameter token x k s)
parameter_kept token None k s = refl
parameter_kept token (Some x) k s = parameter_at_kept token x.pos x.text k (find_here x.text s.names) s

pub name_demand_kept : (defining : Bool) (x : Option Named) (token : ℕ) (p : Pos) (s : State) → Keeps s (name_demand defining x token p s)
name_demand_kept true None token p s = complain_kept 37 token p s
name_demand_kept true (Some x) token p s = refl
name_demand_kept false x token p s = refl

param_kept : (defining : Bool) (p : Pos) (specs : SpecShapes) (stars : List Star) (x : Option Named) (ls : LengthShapes) (i : MaybeInit) (s : State) → Keeps s (type_param defining p specs stars x ls i s).state
param_kept defining p specs stars x ls i s =
    let t = type_specs false specs unspelled s in
    let r = spelled_rule t.spelled in
    let b = steps (star_tokens stars) (rule r s.at p t.state) in
    let v = steps (name_tokens x) (claim_name defining x b) in
    let l = type_lengths [] ls v in
    let token = token_of_name s.at x b in
    let k = parameter_rule l.state.rooms l.counts (pointed stars (kind_at r)) in
    let u = name_demand defining x s.at p l.state in
    specs_kept false specs unspelled s ▸ rule_kept r s.at p t.state ▸ name_kept defining x b ▸ lengths_kept [] ls v ▸ name_demand_kept defining x s.at p l.state ▸ rule_kept k token (name_pos p x) u
    ▸ parameter_kept token x (kind_at k) (rule k token (name_pos p x) u)

pub list_kept : (defining : Bool) (ds : DeclShapes) (s : State) → Keeps s (type_param_list defining ds s).state
list_kept defining no_decls s = refl
list_kept defining (more_decls (decl p specs no_declarators) rest) s = let v = complain 33 s.at first_place s in complain_kept 33 s.at first_place s ▸ list_kept defining rest (step v)
list_kept defining (more_decls (decl p specs (more_declarators (declarator stars x (arrays ls) i) no_declarators)) rest) s =
    let a = type_param defining p specs stars x ls i s in
    param_kept defining p specs stars x ls i s ▸ list_kept defining rest (step a.state)
list_kept defining (more_decls (decl p specs (more_declarators (declarator stars x (function ps) i) no_declarators)) rest) s = let v = complain 33 s.at first_place s in complain_kept 33 s.at first_place s ▸ list_kept defining rest (step v)
list_kept defining (more_decls (decl p specs (more_declarators (declarator stars x (arrays ls) i) (more_declarators d more))) rest) s = let v = complain 33 s.at first_place s in complain_kept 33 s.at first_place s ▸ list_kept defining rest (step v)
list_kept defining (more_decls (decl p specs (more_declarators (declarator stars x (function ps) i) (more_declarators d more))) rest) s = let v = complain 33 s.at first_place s in complain_kept 33 s.at first_place s ▸ list_kept defining rest (step v)

params_kept : (defining : Bool) (ps : ParamsShape) (s : State) → Keeps s (type_params defining ps s).state
params_kept defining empty s = refl
params_kept defining void s = refl
params_kept defining (params ds) s = list_kept defining ds (step (record s { params = [] }))

function_at_kept : (defining : Bool) (token : ℕ) (p : Pos) (x : Text) (e : Entity) (o : Option Entity) (s : State) → Keeps s (function_at defining token p x e o s)
function_at_kept defining token p x e None s = refl
function_at_kept defining token p x e (Some o) s = demand_kept _ 31 token p s

unclear_kept : (defining : Bool) (token : ℕ) (p : Pos) (x : Text) (o : Option Entity) (s : State) → Keeps s (unclear_at defining token p x o s)
unclear_kept defining token p x None s = refl
unclear_kept defining token p x (Some o) s = demand_kept _ 31 token p s

bodied_kept : (defining : Bool) (x : Text) (s : State) → Keeps s (bodied defining x s)
bodied_kept true x s = refl
bodied_kept false x s = refl

pub declared_kept : (defining : Bool) (token : ℕ) (p : Pos) (x : Text) (f : Option Signature) (s : State) → Keeps s (declare_function defining token p x f s).state
declared_kept defining token p x None s = unclear_kept defining token p x (find_here x s.names) s ▸ bodied_kept defining x (unclear_at defining token p x (find_here x s.names) s)
declared_kept defining token p x (Some f) s =
    let m = mention x f.result f.params s in
    mention_kept x f.result f.params (function_number x f.result f.params s.tables.functions) s ▸ function_at_kept defining token p x (function_entity x f m.number) (find_here x m.state.names) m.state

pub closed_params_kept : (defining : Bool) (s : State) → Keeps s (closed_params defining s)
closed_params_kept true s = refl
closed_params_kept false s = refl

-- behind the parentheses of a function
judged_kept : (defining : Bool) (token : ℕ) (p : Pos) (x : Text) (r : Ruled) (f : Option Signature) (file : Bool) (s : State) → Keeps s (declare_function defining token p x f (record (rule r token p (closed_params defining s)) { file = file })).state
judged_kept defining token p x r f file s =
    let c = closed_params defining s in
    closed_params_kept defining s ▸ rule_kept r token p c ▸ declared_kept defining token p x f (record (rule r token p c) { file = file })

pub function_kept : (defining : Bool) (k : Option TypeOf) (stars : List Star) (x : Option Named) (ps : ParamsShape) (i : MaybeInit) (s : State) → Keeps s (type_function defining k stars x ps i s).state
function_kept defining k stars x ps i s =
    let b = steps (star_tokens stars) s in
    let token = token_of_name b.at x b in
    let p = name_pos first_place x in
    let r = by 33 (result_type (pointed stars k)) in
    let v = record (opened_scope (steps (name_tokens x) (claim_name false x b))) { file = false } in
    let q = type_params defining ps v in
    let f = signature_of (kind_at r) (all_kinds q.given) in
    name_kept false x b ▸ params_kept defining ps v ▸ judged_kept defining token p (text_of x) r f s.file q.state

declarator_kept : (k : Option TypeOf) (d : DeclaratorShape) (s : State) → Keeps s (type_declarator k d s).state
declarator_kept k (declarator stars x (arrays ls) i) s = variable_kept k stars x ls i s
declarator_kept k (declarator stars x (function ps) i) s = function_kept false k stars x ps i s

pub declarators_kept : (k : Option TypeOf) (ds : DeclaratorShapes) (s : State) → Keeps s (type_declarators k ds s).state
declarators_kept k no_declarators s = refl
declarators_kept k (more_declarators d rest) s = let t = type_declarator k d s in declarator_kept k d s ▸ declarators_kept k rest (step t.state)

pub decl_kept : (d : DeclShape) (s : State) → Keeps s (type_decl d s).state
decl_kept (decl p specs names) s =
    let t = type_specs (none_declared names) specs unspelled s in
    let r = spelled_rule t.spelled in
    let v = rule r s.at p t.state in
    specs_kept (none_declared names) specs unspelled s ▸ rule_kept r s.at p t.state ▸ declarators_kept (kind_at r) names (steps (semicolon names) v)

pub decls_kept : (ds : DeclShapes) (s : State) → Keeps s (type_decls ds s).state
decls_kept no_decls s = refl
decls_kept (more_decls d rest) s = decl_kept d s ▸ decls_kept rest (type_decl d s).state

-- ---- statements

pub maybe_kept : (e : MaybeNode) (s : State) → Keeps s (type_maybe e s).state
maybe_kept no_node s = refl
maybe_kept (one_node a) s = node_kept a s

pub test_kept : (first : ℕ) (a : NodeShape) (s : State) → Keeps s (tested first (type_node a s))
test_kept first a s = let t = type_node a s in node_kept a s ▸ rule_kept _ first (pos_in t.node) t.state

pub maybe_test_kept : (e : MaybeNode) (s : State) → Keeps s (type_test e s).state
maybe_test_kept no_node s = refl
maybe_test_kept (one_node a) s = test_kept s.at a s

result_kept : (token : ℕ) (p : Pos) (k : Option TypeOf) (e : MaybeNode) (s : State) → Keeps s (type_result token p k e s).state
result_kept token p k no_node s = refl
result_kept token p k (one_node a) s = let t = type_node a s in node_kept a s ▸ rule_kept (result_rule k t.sort) token p t.state

pub marks_kept : (ms : List ProbeMark) (s : State) → Keeps s (type_marks ms s)
marks_kept [] s = refl
marks_kept (m ∷ ms) s = let v = claim block m.number s.at m.pos s in claim_kept block m.number s.at m.pos s ▸ marks_kept ms (steps 5 v)

pub case_kept : (token : ℕ) (p : Pos) (o : Option Labels) (v : Option ℤ) (s : State) → Keeps s (case_state token p o v s)
case_kept token p None v s = complain_kept 37 token p s
case_kept token p (Some l) v s = demand_kept _ 36 token p s

default_kept : (token : ℕ) (p : Pos) (o : Option Labels) (s : State) → Keeps s (default_state token p o s)
default_kept token p None s = complain_kept 37 token p s
default_kept token p (Some l) s = demand_kept _ 36 token p s

pub labels_kept : (o : Option Labels) (ls : List LabelShape) (s : State) → Keeps s (type_labels o ls s).state
labels_kept o [] s = refl
labels_kept o (case p a ∷ rest) s =
    let t = type_node a (step s) in
    let v = constants.value t.sort.constant in
    let u = rule (constant_rule t.sort) (step s).at (pos_in a) t.state in
    node_kept a (step s) ▸ rule_kept (constant_rule t.sort) (step s).at (pos_in a) t.state ▸ case_kept s.at p o v u ▸ labels_kept (case_labels o v) rest (step (case_state s.at p o v u))
labels_kept o (default p ∷ rest) s = default_kept s.at p o s ▸ labels_kept (default_labels o) rest (steps 2 (default_state s.at p o s))

mutual
  pub stmt_kept : (c : Surroundings) (a : StmtShape) (s : State) → Keeps s (type_stmt c a s).state
  stmt_kept c (stmt p ms q f) s = marks_kept ms s ▸ body_kept c q f (type_marks ms s)

  body_kept : (c : Surroundings) (p : Pos) (f : FormShape) (s : State) → Keeps s (type_body c p f s).state
  body_kept c p (compound b) s = compound_kept c b (opened_scope s)
  body_kept c p (simply e) s = maybe_kept e s
  body_kept c p (when e a) s = test_kept (steps 2 s).at e (steps 2 s) ▸ stmt_kept c a (step (tested (steps 2 s).at (type_node e (steps 2 s))))
  body_kept c p (either e a b) s =
      let v = type_stmt c a (step (tested (steps 2 s).at (type_node e (steps 2 s)))) in
      test_kept (steps 2 s).at e (steps 2 s) ▸ stmt_kept c a (step (tested (steps 2 s).at (type_node e (steps 2 s)))) ▸ stmt_kept c b (step v.state)
  body_kept c p (while e a) s = test_kept (steps 2 s).at e (steps 2 s) ▸ stmt_kept (in_loop c) a (step (tested (steps 2 s).at (type_node e (steps 2 s))))
  body_kept c p (do_while a e) s =
      let v = type_stmt (in_loop c) a (step s) in
      stmt_kept (in_loop c) a (step s) ▸ test_kept (steps 2 v.state).at e (steps 2 v.state)
  body_kept c p (for e f g a) s =
      let t = type_maybe e (steps 2 s) in
      let v = type_test f (step t.state) in
      let w = type_maybe g (step v.state) in
      maybe_kept e (steps 2 s) ▸ maybe_test_kept f (step t.state) ▸ maybe_kept g (step v.state) ▸ stmt_kept (in_loop c) a (step w.state)
  body_kept c p (switch e items) s =
      let t = type_node e (steps 2 s) in
      let r = switched t in
      let v = rule r (steps 2 s).at (pos_in t.node) t.state in
      node_kept e (steps 2 s) ▸ rule_kept r (steps 2 s).at (pos_in t.node) t.state ▸ items_kept (in_switch c) (Some (no_labels r)) items (steps 2 v)
  body_kept c p break s = demand_kept c.breakable 37 s.at p s
  body_kept c p continue s = demand_kept c.loop 37 s.at p s
  body_kept c p (return e) s = result_kept s.at p c.result e (step s)

  pub compound_kept : (c : Surroundings) (b : CompoundShape) (s : State) → Keeps s (type_compound c b s).state
  compound_kept c (braces p ds items) s = decls_kept ds (step s) ▸ items_kept c None items (type_decls ds (step s)).state

  pub items_kept : (c : Surroundings) (o : Option Labels) (items : ItemShapes) (s : State) → Keeps s (type_items c o items s).state
  items_kept c o no_items s = refl
  items_kept c o (more_items labels a rest) s =
      let l = type_labels o labels s in
      let t = type_stmt c a l.state in
      labels_kept o labels s ▸ stmt_kept c a l.state ▸ items_kept c l.so_far rest t.state

-- ---- units

-- behind a part of a unit no function is open, where none was before it
pub external_kept : (e : ExternalShape) (s : State) → s.function ≡ 0 → (type_external e s).state.function ≡ 0
external_kept (declared d) s none = sym (decl_kept d s) ∙ none
external_kept (defined specs (declarator stars x (function ps) i) ms c) s none = refl
external_kept (defined specs (declarator stars x (arrays ls) i) ms c) s none = none

pub externals_kept : (es : List ExternalShape) (s : State) → s.function ≡ 0 → (type_externals es s).state.function ≡ 0
externals_kept [] s none = none
externals_kept (e ∷ rest) s none = externals_kept rest (type_external e s).state (external_kept e s none)
