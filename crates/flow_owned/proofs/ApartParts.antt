-- Where fields have names of their own, they do so behind initialisers, parameters, functions' declarators and labels.
use Rattle.std.proofs.Common.{ℕ, ℤ, List, [], ◌∷◌, Option, Some, None, Bool, true, false}
use Rattle.c_base.specs.declared.place.Pos.{Pos}
use Rattle.c_syntax.specs.declared.text.Text.{Text}
use Rattle.c_syntax.specs.declared.tree.Named.{Named}
use Rattle.c_syntax.specs.declared.tree.Star.{Star}
use Rattle.c_syntax.specs.declared.tree.ProbeMark.{ProbeMark}
use Rattle.c_syntax.specs.Shape.{TypeOf, block, NodeShape, MaybeNode, no_node, one_node, ParamsShape, MaybeInit, no_init, one_init, InitShape, one, listed, InitShapes, no_inits, more_inits, LabelShape, case, default, def, LengthShapes, SpecShapes, decl, DeclShapes, no_decls, more_decls, declarator, no_declarators, more_declarators, arrays, function, empty, void, params}
use Rattle.c_scopes.specs.Scoping.{find_here}
use Rattle.c_type_rules.specs.Verdicts.{result_type}
use Rattle.c_tree.specs.declared.meaning.Entity.{Entity}
use Rattle.c_tree.specs.State.{State, step, steps, mention, function_number, complain}
use Rattle.c_tables.specs.Rows.{first_place, text_of, name_pos}
use Rattle.c_tree.specs.Rulings.{by, rule, kind_at, of_kind}
use Rattle.c_tree.specs.Sorts.{pos_in}
use Rattle.c_tree.specs.Operators.{claim, constant_rule, hushed, heard}
use Rattle.c_tree.specs.Parts.{star_tokens, pointed, unspelled, spelled_rule}
use Rattle.c_tree.specs.Typing.{type_node, type_specs, type_lengths}
use Rattle.c_tree.specs.Initialisers.{form_in, chars_of, filled, constant_init, fits, one_init_of, list_rule, slots, Slots, slot, slot_rule, further, init_pos, type_init, type_inits}
use Rattle.c_tree.specs.Declaring.{name_tokens, claim_name, token_of_name, type_maybe_init, type_params, opened_scope, closed_params, all_kinds, signature_of, Signature, function_at, unclear_at, bodied, function_entity, declare_function, type_function, claim_mark, with_parameter, parameter_at, declare_parameter, parameter_rule, name_demand, type_param, type_param_list}
use Rattle.c_tree.specs.Stating.{Labels, tested, result_rule, type_maybe, type_test, type_result, type_marks, case_state, default_state, case_labels, default_labels, type_labels}
use Rattle.c_syntax.specs.Grammar.{node_form, maybe_node_form, specs_form, lengths_form, led_params_form, params_form, init_form, led_inits_form, maybe_init_form, labels_form}
use Rattle.flow_owned.proofs.Words.{HasPlainWords, led_params, led_inits}
use Rattle.flow_owned.proofs.ApartNodes.{Keeps, as_it_was, ◌▸◌, complain_keeps, demand_keeps, rule_keeps, mention_keeps, claim_keeps, node_keeps, lengths_keep, specs_keep}
use Rattle.c_constants.specs.Constants as constants

-- ---- initialisers

pub value_keeps : (c : Bool) (k : Option TypeOf) (o : Option (ℕ × ℕ)) (a : NodeShape) (s : State) → HasPlainWords (node_form a) → Keeps s (one_init_of o c k a s).state
value_keeps c k (Some (bytes, elements)) a s w = node_keeps a (hushed s) w ▸ rule_keeps _ s.at (pos_in a) (heard s.quiet (type_node a (hushed s)).state)
value_keeps c k None a s w =
    let t = type_node a s in
    node_keeps a s w ▸ rule_keeps (fits k t.sort) s.at (pos_in a) t.state ▸ rule_keeps (constant_init c t.sort) s.at (pos_in a) (rule (fits k t.sort) s.at (pos_in a) t.state)

mutual
  pub init_keeps : (c : Bool) (k : Option TypeOf) (i : InitShape) (s : State) → HasPlainWords (init_form i) → Keeps s (type_init c k i s).state
  init_keeps c k (one a) s w = value_keeps c k (filled (chars_of k) (form_in a)) a s w
  init_keeps c k (listed p items last) s w =
      let v = rule (of_kind k list_rule) s.at p s in
      rule_keeps (of_kind k list_rule) s.at p s ▸ inits_keep (slots k s) items (step v) (led_inits items w.1.0)

  pub inits_keep : (l : Slots) (is : InitShapes) (s : State) → HasPlainWords (led_inits_form is) → Keeps s (type_inits l is s).state
  inits_keep l no_inits s w = as_it_was s
  inits_keep l (more_inits i rest) s w =
      let v = rule (slot_rule l) s.at (init_pos i) s in
      let t = type_init true (slot l) i v in
      rule_keeps (slot_rule l) s.at (init_pos i) s ▸ init_keeps true (slot l) i v w.1.0 ▸ inits_keep (further l) rest (step t.state) w.1.1

pub maybe_init_keeps : (c : Bool) (k : Option TypeOf) (i : MaybeInit) (s : State) → HasPlainWords (maybe_init_form i) → Keeps s (type_maybe_init c k i s).state
maybe_init_keeps c k no_init s w = as_it_was s
maybe_init_keeps c k (one_init i) s w = init_keeps c k i (step s) w.1

-- ---- parameters

-- the state in which the name of a parameter is declared: behind its type, and what is complained of that
abbrev typed_before : Bool → Pos → SpecShapes → List Star → Option Named → LengthShapes → State → State
typed_before defining p specs stars x ls s =
    let t = type_specs false specs unspelled s in
    let r = spelled_rule t.spelled in
    let b = steps (star_tokens stars) (rule r s.at p t.state) in
    let l = type_lengths [] ls (steps (name_tokens x) (claim_name defining x b)) in
    let k = parameter_rule l.state.rooms l.counts (pointed stars (kind_at r)) in
    rule k (token_of_name s.at x b) (name_pos p x) (name_demand defining x s.at p l.state)

mark_keeps : (fit : Bool) (m : Option ProbeMark) (s : State) → Keeps s (claim_mark fit m s)
mark_keeps fit None s = as_it_was s
mark_keeps fit (Some m) s = claim_keeps def m.number s.at m.pos s ▸ demand_keeps fit 37 s.at m.pos (claim def m.number s.at m.pos s)

pub name_keeps : (fit : Bool) (x : Option Named) (s : State) → Keeps s (claim_name fit x s)
name_keeps fit None s = as_it_was s
name_keeps fit (Some x) s = mark_keeps fit x.probe s

name_demand_keeps : (defining : Bool) (x : Option Named) (token : ℕ) (p : Pos) (s : State) → Keeps s (name_demand defining x token p s)
name_demand_keeps true None token p s = as_it_was s
name_demand_keeps true (Some x) token p s = as_it_was s
name_demand_keeps false x token p s = as_it_was s

pub typed_keeps : (defining : Bool) (p : Pos) (specs : SpecShapes) (stars : List Star) (x : Option Named) (ls : LengthShapes) (s : State) → HasPlainWords (specs_form specs) → HasPlainWords (lengths_form ls) → Keeps s (typed_before defining p specs stars x ls s)
typed_keeps defining p specs stars x ls s y z =
    let t = type_specs false specs unspelled s in
    let r = spelled_rule t.spelled in
    let b = steps (star_tokens stars) (rule r s.at p t.state) in
    let v = steps (name_tokens x) (claim_name defining x b) in
    let l = type_lengths [] ls v in
    let k = parameter_rule l.state.rooms l.counts (pointed stars (kind_at r)) in
    specs_keep false specs unspelled s y ▸ rule_keeps r s.at p t.state ▸ name_keeps defining x b ▸ lengths_keep [] ls v z ▸ name_demand_keeps defining x s.at p l.state
    ▸ rule_keeps k (token_of_name s.at x b) (name_pos p x) (name_demand defining x s.at p l.state)

with_parameter_keeps : (x : Text) (k : Option TypeOf) (s : State) → Keeps s (with_parameter x k s)
with_parameter_keeps x None s = as_it_was s
with_parameter_keeps x (Some t) s = as_it_was s

parameter_at_keeps : (token : ℕ) (p : Pos) (x : Text) (k : Option TypeOf) (e : Option Entity) (s : State) → Keeps s (parameter_at token p x k e s)
parameter_at_keeps token p x k None s = with_parameter_keeps x k s
parameter_at_keeps token p x k (Some e) s = as_it_was s

parameter_keeps : (token : ℕ) (x : Option Named) (k : Option TypeOf) (s : State) → Keeps s (declare_parameter token x k s)
parameter_keeps token None k s = as_it_was s
parameter_keeps token (Some x) k s = parameter_at_keeps token x.pos x.text k (find_here x.text s.names) s

pub param_keeps : (defining : Bool) (p : Pos) (specs : SpecShapes) (stars : List Star) (x : Option Named) (ls : LengthShapes) (i : MaybeInit) (s : State) → HasPlainWords (specs_form specs) → HasPlainWords (lengths_form ls) → Keeps s (type_param defining p specs stars x ls i s).state
param_keeps defining p specs stars x ls i s y z = typed_keeps defining p specs stars x ls s y z ▸ parameter_keeps _ x (type_param defining p specs stars x ls i s).kind (typed_before defining p specs stars x ls s)

pub list_keeps : (defining : Bool) (ds : DeclShapes) (s : State) → HasPlainWords (led_params_form ds) → Keeps s (type_param_list defining ds s).state
list_keeps defining no_decls s w = as_it_was s
list_keeps defining (more_decls (decl p specs no_declarators) rest) s w = list_keeps defining rest (step (complain 33 s.at first_place s)) w.1.1
list_keeps defining (more_decls (decl p specs (more_declarators (declarator stars x (arrays ls) i) no_declarators)) rest) s w =
    let a = type_param defining p specs stars x ls i s in
    param_keeps defining p specs stars x ls i s w.1.0.0 w.1.0.1.0.1.1.0 ▸ list_keeps defining rest (step a.state) w.1.1
list_keeps defining (more_decls (decl p specs (more_declarators (declarator stars x (function ps) i) no_declarators)) rest) s w = list_keeps defining rest (step (complain 33 s.at first_place s)) w.1.1
list_keeps defining (more_decls (decl p specs (more_declarators (declarator stars x (arrays ls) i) (more_declarators d more))) rest) s w = list_keeps defining rest (step (complain 33 s.at first_place s)) w.1.1
list_keeps defining (more_decls (decl p specs (more_declarators (declarator stars x (function ps) i) (more_declarators d more))) rest) s w = list_keeps defining rest (step (complain 33 s.at first_place s)) w.1.1

pub params_keep : (defining : Bool) (ps : ParamsShape) (s : State) → HasPlainWords (params_form ps) → Keeps s (type_params defining ps s).state
params_keep defining empty s w = as_it_was s
params_keep defining void s w = as_it_was s
params_keep defining (params ds) s w = list_keeps defining ds (step (record s { params = [] })) (led_params ds w)

-- ---- functions

pub function_at_keeps : (defining : Bool) (token : ℕ) (p : Pos) (x : Text) (e : Entity) (o : Option Entity) (s : State) → Keeps s (function_at defining token p x e o s)
function_at_keeps defining token p x e None s = as_it_was s
function_at_keeps defining token p x e (Some o) s = demand_keeps _ 31 token p s

pub unclear_keeps : (defining : Bool) (token : ℕ) (p : Pos) (x : Text) (o : Option Entity) (s : State) → Keeps s (unclear_at defining token p x o s)
unclear_keeps defining token p x None s = as_it_was s
unclear_keeps defining token p x (Some o) s = demand_keeps _ 31 token p s

pub bodied_keeps : (defining : Bool) (x : Text) (s : State) → Keeps s (bodied defining x s)
bodied_keeps true x s = as_it_was s
bodied_keeps false x s = as_it_was s

pub declared_keeps : (defining : Bool) (token : ℕ) (p : Pos) (x : Text) (f : Option Signature) (s : State) → Keeps s (declare_function defining token p x f s).state
declared_keeps defining token p x None s = unclear_keeps defining token p x (find_here x s.names) s ▸ bodied_keeps defining x (unclear_at defining token p x (find_here x s.names) s)
declared_keeps defining token p x (Some f) s =
    let m = mention x f.result f.params s in
    mention_keeps x f.result f.params (function_number x f.result f.params s.tables.functions) s ▸ function_at_keeps defining token p x (function_entity x f m.number) (find_here x m.state.names) m.state

pub closed_params_keeps : (defining : Bool) (s : State) → Keeps s (closed_params defining s)
closed_params_keeps true s = as_it_was s
closed_params_keeps false s = as_it_was s

pub function_keeps : (defining : Bool) (k : Option TypeOf) (stars : List Star) (x : Option Named) (ps : ParamsShape) (i : MaybeInit) (s : State) → HasPlainWords (params_form ps) → Keeps s (type_function defining k stars x ps i s).state
function_keeps defining k stars x ps i s w =
    let b = steps (star_tokens stars) s in
    let token = token_of_name b.at x b in
    let p = name_pos first_place x in
    let r = by 33 (result_type (pointed stars k)) in
    let v = record (opened_scope (steps (name_tokens x) (claim_name false x b))) { file = false } in
    let q = type_params defining ps v in
    let f = signature_of (kind_at r) (all_kinds q.given) in
    let c = closed_params defining q.state in
    name_keeps false x b ▸ params_keep defining ps v w ▸ closed_params_keeps defining q.state ▸ rule_keeps r token p c ▸ declared_keeps defining token p (text_of x) f (record (rule r token p c) { file = s.file })

-- ---- statements

pub maybe_keeps : (e : MaybeNode) (s : State) → HasPlainWords (maybe_node_form e) → Keeps s (type_maybe e s).state
maybe_keeps no_node s w = as_it_was s
maybe_keeps (one_node a) s w = node_keeps a s w

pub test_keeps : (first : ℕ) (a : NodeShape) (s : State) → HasPlainWords (node_form a) → Keeps s (tested first (type_node a s))
test_keeps first a s w = let t = type_node a s in node_keeps a s w ▸ rule_keeps _ first (pos_in t.node) t.state

pub maybe_test_keeps : (e : MaybeNode) (s : State) → HasPlainWords (maybe_node_form e) → Keeps s (type_test e s).state
maybe_test_keeps no_node s w = as_it_was s
maybe_test_keeps (one_node a) s w = test_keeps s.at a s w

pub result_keeps : (token : ℕ) (p : Pos) (k : Option TypeOf) (e : MaybeNode) (s : State) → HasPlainWords (maybe_node_form e) → Keeps s (type_result token p k e s).state
result_keeps token p k no_node s w = as_it_was s
result_keeps token p k (one_node a) s w = let t = type_node a s in node_keeps a s w ▸ rule_keeps (result_rule k t.sort) token p t.state

pub marks_keep : (ms : List ProbeMark) (s : State) → Keeps s (type_marks ms s)
marks_keep [] s = as_it_was s
marks_keep (m ∷ ms) s = let v = claim block m.number s.at m.pos s in claim_keeps block m.number s.at m.pos s ▸ marks_keep ms (steps 5 v)

pub case_keeps : (token : ℕ) (p : Pos) (o : Option Labels) (v : Option ℤ) (s : State) → Keeps s (case_state token p o v s)
case_keeps token p None v s = complain_keeps 37 token p s
case_keeps token p (Some l) v s = demand_keeps _ 36 token p s

pub default_keeps : (token : ℕ) (p : Pos) (o : Option Labels) (s : State) → Keeps s (default_state token p o s)
default_keeps token p None s = complain_keeps 37 token p s
default_keeps token p (Some l) s = demand_keeps _ 36 token p s

pub labels_keep : (o : Option Labels) (ls : List LabelShape) (s : State) → HasPlainWords (labels_form ls) → Keeps s (type_labels o ls s).state
labels_keep o [] s w = as_it_was s
labels_keep o (case p a ∷ rest) s w =
    let t = type_node a (step s) in
    let v = constants.value t.sort.constant in
    let u = rule (constant_rule t.sort) (step s).at (pos_in a) t.state in
    node_keeps a (step s) w.1.0 ▸ rule_keeps (constant_rule t.sort) (step s).at (pos_in a) t.state ▸ case_keeps s.at p o v u ▸ labels_keep (case_labels o v) rest (step (case_state s.at p o v u)) w.1.1.1
labels_keep o (default p ∷ rest) s w = default_keeps s.at p o s ▸ labels_keep (default_labels o) rest (steps 2 (default_state s.at p o s)) w.1.1
