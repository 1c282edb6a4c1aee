-- In typed initialisers each name of a variable is the variable's own; and parameters and functions name no variable.
use Rattle.std.proofs.Common.{ℕ, ℤ, ◌+◌, ◌++◌, length, List, [], ◌∷◌, Option, Some, None, Bool, true, false}
use Rattle.std.specs.Prelude.{if◌then◌else◌}
use Rattle.c_base.specs.declared.place.Pos.{Pos}
use Rattle.c_syntax.specs.declared.text.Text.{Text}
use Rattle.c_syntax.specs.declared.tree.Named.{Named}
use Rattle.c_syntax.specs.declared.tree.Star.{Star}
use Rattle.c_syntax.specs.declared.tree.ProbeMark.{ProbeMark}
use Rattle.c_syntax.specs.Shape.{TypeOf, block, def, NodeShape, MaybeNode, no_node, one_node, LengthShapes, SpecShapes, decl, DeclShapes, no_decls, more_decls, declarator, no_declarators, more_declarators, arrays, function, ParamsShape, empty, void, params, MaybeInit, no_init, one_init, InitShape, one, listed, InitShapes, no_inits, more_inits, LabelShape, case, default}
use Rattle.c_constants.specs.Constants as constants
use Rattle.c_scopes.specs.Scoping.{find_here}
use Rattle.c_type_rules.specs.Verdicts.{result_type}
use Rattle.c_tree.specs.declared.meaning.Entity.{Entity}
use Rattle.c_tree.specs.declared.meaning.Entity.TheVariants as entity
use Rattle.c_tables.specs.declared.builtins.Builtin.TheVariants.{GetChar, PutChar, Exit}
use Rattle.c_tables.specs.Tables.{VariableShape}
use Rattle.c_tree.specs.State.{State, step, steps, complain, mention, function_number}
use Rattle.c_tables.specs.Rows.{first_place, text_of, name_pos}
use Rattle.c_tree.specs.Rulings.{by, rule, kind_at, of_kind}
use Rattle.c_tree.specs.Sorts.{pos_in}
use Rattle.c_tree.specs.Operators.{claim, constant_rule, hushed, heard}
use Rattle.c_tree.specs.Parts.{unspelled, spelled_rule, star_tokens, pointed}
use Rattle.c_tree.specs.Typing.{type_node, type_specs, type_lengths}
use Rattle.c_tree.specs.Initialisers.{form_in, chars_of, filled, constant_init, fits, one_init_of, list_rule, slots, Slots, slot, slot_rule, further, init_pos, type_init, type_inits}
use Rattle.c_tree.specs.Declaring.{name_tokens, claim_mark, claim_name, token_of_name, type_maybe_init, parameter_at, with_parameter, declare_parameter, parameter_rule, name_demand, type_param, type_param_list, type_params, opened_scope, closed_params, all_kinds, signature_of, Signature, function_at, unclear_at, bodied, is_builtin, function_entity, declare_function, type_function}
use Rattle.c_tree.specs.Stating.{Labels, tested, result_rule, type_maybe, type_test, type_result, type_marks, case_state, default_state, case_labels, default_labels, type_labels}
use Rattle.flow_owned.specs.Own.{IsOwnNode, IsOwnMaybe, IsOwnInit, IsOwnMaybeInit}
use Rattle.flow_owned.proofs.OwnStates.{Names, Goes, Keeps, as_it_was, ◌▸◌, ◌◂◌, forget, naming_keeps, entering_keeps, leaving_keeps}
use Rattle.flow_owned.proofs.OwnNodes.{complain_keeps, demand_keeps, rule_keeps, mention_keeps, claim_keeps, node_own, node_keeps, lengths_keep, specs_keep}

-- ---- initialisers

value_own : (c : Bool) (k : Option TypeOf) (o : Option (ℕ × ℕ)) (a : NodeShape) (s : State) → Goes s (one_init_of o c k a s).state (λ R. IsOwnInit R (one_init_of o c k a s).init)
value_own c k (Some (bytes, elements)) a s = node_own a (hushed s) ◂ rule_keeps _ s.at (pos_in a) (heard s.quiet (type_node a (hushed s)).state)
value_own c k None a s =
    let t = type_node a s in
    node_own a s ◂ rule_keeps (fits k t.sort) s.at (pos_in a) t.state ◂ rule_keeps (constant_init c t.sort) s.at (pos_in a) (rule (fits k t.sort) s.at (pos_in a) t.state)

mutual
  pub init_own : (c : Bool) (k : Option TypeOf) (i : InitShape) (s : State) → Goes s (type_init c k i s).state (λ R. IsOwnInit R (type_init c k i s).init)
  init_own c k (one a) s = value_own c k (filled (chars_of k) (form_in a)) a s
  init_own c k (listed p items last) s =
      let v = rule (of_kind k list_rule) s.at p s in
      rule_keeps (of_kind k list_rule) s.at p s ▸ inits_keep (slots k s) items (step v)

  inits_keep : (l : Slots) (is : InitShapes) (s : State) → Keeps s (type_inits l is s).state
  inits_keep l no_inits s = as_it_was s
  inits_keep l (more_inits i rest) s =
      let v = rule (slot_rule l) s.at (init_pos i) s in
      let t = type_init true (slot l) i v in
      rule_keeps (slot_rule l) s.at (init_pos i) s ▸ forget (init_own true (slot l) i v) ▸ inits_keep (further l) rest (step t.state)

pub maybe_init_own : (c : Bool) (k : Option TypeOf) (i : MaybeInit) (s : State) → Goes s (type_maybe_init c k i s).state (λ R. IsOwnMaybeInit R (type_maybe_init c k i s).init)
maybe_init_own c k no_init s = as_it_was s
maybe_init_own c k (one_init i) s = init_own c k i (step s)

-- ---- declared names

pub mark_keeps : (fit : Bool) (m : Option ProbeMark) (s : State) → Keeps s (claim_mark fit m s)
mark_keeps fit None s = as_it_was s
mark_keeps fit (Some m) s = claim_keeps def m.number s.at m.pos s ▸ demand_keeps fit 37 s.at m.pos (claim def m.number s.at m.pos s)

pub name_keeps : (fit : Bool) (x : Option Named) (s : State) → Keeps s (claim_name fit x s)
name_keeps fit None s = as_it_was s
name_keeps fit (Some x) s = mark_keeps fit x.probe s

pub with_parameter_keeps : (x : Text) (k : Option TypeOf) (s : State) → Keeps s (with_parameter x k s)
with_parameter_keeps x None s = naming_keeps x entity.Unknown s tt
with_parameter_keeps x (Some t) s = naming_keeps x (entity.Parameter (length s.params + 1)) (record s { params = s.params ++ t ∷ [] }) tt

pub parameter_at_keeps : (token : ℕ) (p : Pos) (x : Text) (k : Option TypeOf) (e : Option Entity) (s : State) → Keeps s (parameter_at token p x k e s)
parameter_at_keeps token p x k None s = with_parameter_keeps x k s
parameter_at_keeps token p x k (Some e) s = complain_keeps 31 token p s

pub parameter_keeps : (token : ℕ) (x : Option Named) (k : Option TypeOf) (s : State) → Keeps s (declare_parameter token x k s)
parameter_keeps token None k s = as_it_was s
parameter_keeps token (Some x) k s = parameter_at_keeps token x.pos x.text k (find_here x.text s.names) s

pub name_demand_keeps : (defining : Bool) (x : Option Named) (token : ℕ) (p : Pos) (s : State) → Keeps s (name_demand defining x token p s)
name_demand_keeps true None token p s = complain_keeps 37 token p s
name_demand_keeps true (Some x) token p s = as_it_was s
name_demand_keeps false x token p s = as_it_was s

pub param_keeps : (defining : Bool) (p : Pos) (specs : SpecShapes) (stars : List Star) (x : Option Named) (ls : LengthShapes) (i : MaybeInit) (s : State) → Keeps s (type_param defining p specs stars x ls i s).state
param_keeps defining p specs stars x ls i s =
    let t = type_specs false specs unspelled s in
    let r = spelled_rule t.spelled in
    let b = steps (star_tokens stars) (rule r s.at p t.state) in
    let v = steps (name_tokens x) (claim_name defining x b) in
    let l = type_lengths [] ls v in
    let token = token_of_name s.at x b in
    let k = parameter_rule l.state.rooms l.counts (pointed stars (kind_at r)) in
    let u = name_demand defining x s.at p l.state in
    specs_keep false specs unspelled s ▸ rule_keeps r s.at p t.state ▸ name_keeps defining x b ▸ lengths_keep [] ls v ▸ name_demand_keeps defining x s.at p l.state ▸ rule_keeps k token (name_pos p x) u
    ▸ parameter_keeps token x (kind_at k) (rule k token (name_pos p x) u)

pub list_keeps : (defining : Bool) (ds : DeclShapes) (s : State) → Keeps s (type_param_list defining ds s).state
list_keeps defining no_decls s = as_it_was s
list_keeps defining (more_decls (decl p specs no_declarators) rest) s = let v = complain 33 s.at first_place s in complain_keeps 33 s.at first_place s ▸ list_keeps defining rest (step v)
list_keeps defining (more_decls (decl p specs (more_declarators (declarator stars x (arrays ls) i) no_declarators)) rest) s =
    let a = type_param defining p specs stars x ls i s in
    param_keeps defining p specs stars x ls i s ▸ list_keeps defining rest (step a.state)
list_keeps defining (more_decls (decl p specs (more_declarators (declarator stars x (function ps) i) no_declarators)) rest) s = let v = complain 33 s.at first_place s in complain_keeps 33 s.at first_place s ▸ list_keeps defining rest (step v)
list_keeps defining (more_decls (decl p specs (more_declarators (declarator stars x (arrays ls) i) (more_declarators d more))) rest) s = let v = complain 33 s.at first_place s in complain_keeps 33 s.at first_place s ▸ list_keeps defining rest (step v)
list_keeps defining (more_decls (decl p specs (more_declarators (declarator stars x (function ps) i) (more_declarators d more))) rest) s = let v = complain 33 s.at first_place s in complain_keeps 33 s.at first_place s ▸ list_keeps defining rest (step v)

pub params_keep : (defining : Bool) (ps : ParamsShape) (s : State) → Keeps s (type_params defining ps s).state
params_keep defining empty s = as_it_was s
params_keep defining void s = as_it_was s
params_keep defining (params ds) s = list_keeps defining ds (step (record s { params = [] }))

if_names : (R : List VariableShape) (x : Text) (b : Bool) (d e : Entity) → Names R x d → Names R x e → Names R x (if b then d else e)
if_names R x true d e h k = h
if_names R x false d e h k = k

function_names : (R : List VariableShape) (x : Text) (f : Signature) (n : ℕ) → Names R x (function_entity x f n)
function_names R x f n =
    if_names R x (is_builtin GetChar x f) _ _ tt (if_names R x (is_builtin PutChar x f) _ _ tt (if_names R x (is_builtin Exit x f) _ _ tt tt))

pub function_at_keeps : (defining : Bool) (token : ℕ) (p : Pos) (x : Text) (e : Entity) (o : Option Entity) (s : State) → Names s.tables.variables x e → Keeps s (function_at defining token p x e o s)
function_at_keeps defining token p x e None s n = naming_keeps x e s n
function_at_keeps defining token p x e (Some o) s n = demand_keeps _ 31 token p s

pub unclear_keeps : (defining : Bool) (token : ℕ) (p : Pos) (x : Text) (o : Option Entity) (s : State) → Keeps s (unclear_at defining token p x o s)
unclear_keeps defining token p x None s = naming_keeps x entity.Unknown s tt
unclear_keeps defining token p x (Some o) s = demand_keeps _ 31 token p s

pub bodied_keeps : (defining : Bool) (x : Text) (s : State) → Keeps s (bodied defining x s)
bodied_keeps true x s = as_it_was s
bodied_keeps false x s = as_it_was s

pub declared_keeps : (defining : Bool) (token : ℕ) (p : Pos) (x : Text) (f : Option Signature) (s : State) → Keeps s (declare_function defining token p x f s).state
declared_keeps defining token p x None s = unclear_keeps defining token p x (find_here x s.names) s ▸ bodied_keeps defining x (unclear_at defining token p x (find_here x s.names) s)
declared_keeps defining token p x (Some f) s =
    let m = mention x f.result f.params s in
    mention_keeps x f.result f.params (function_number x f.result f.params s.tables.functions) s ▸ function_at_keeps defining token p x (function_entity x f m.number) (find_here x m.state.names) m.state (function_names m.state.tables.variables x f m.number)

pub closed_params_keeps : (defining : Bool) (s : State) → Keeps s (closed_params defining s)
closed_params_keeps true s = leaving_keeps s
closed_params_keeps false s = leaving_keeps s

pub function_keeps : (defining : Bool) (k : Option TypeOf) (stars : List Star) (x : Option Named) (ps : ParamsShape) (i : MaybeInit) (s : State) → Keeps s (type_function defining k stars x ps i s).state
function_keeps defining k stars x ps i s =
    let b = steps (star_tokens stars) s in
    let token = token_of_name b.at x b in
    let p = name_pos first_place x in
    let r = by 33 (result_type (pointed stars k)) in
    let v = record (opened_scope (steps (name_tokens x) (claim_name false x b))) { file = false } in
    let q = type_params defining ps v in
    let f = signature_of (kind_at r) (all_kinds q.given) in
    let c = closed_params defining q.state in
    name_keeps false x b ▸ entering_keeps (steps (name_tokens x) (claim_name false x b)) ▸ params_keep defining ps v ▸ closed_params_keeps defining q.state ▸ rule_keeps r token p c ▸ declared_keeps defining token p (text_of x) f (record (rule r token p c) { file = s.file })

-- ---- statements

pub maybe_own : (e : MaybeNode) (s : State) → Goes s (type_maybe e s).state (λ R. IsOwnMaybe R (type_maybe e s).node)
maybe_own no_node s = as_it_was s
maybe_own (one_node a) s = node_own a s

pub test_own : (first : ℕ) (a : NodeShape) (s : State) → Goes s (tested first (type_node a s)) (λ R. IsOwnNode R (type_node a s).node)
test_own first a s = let t = type_node a s in node_own a s ◂ rule_keeps _ first (pos_in t.node) t.state

pub maybe_test_own : (e : MaybeNode) (s : State) → Goes s (type_test e s).state (λ R. IsOwnMaybe R (type_test e s).node)
maybe_test_own no_node s = as_it_was s
maybe_test_own (one_node a) s = test_own s.at a s

pub result_own : (token : ℕ) (p : Pos) (k : Option TypeOf) (e : MaybeNode) (s : State) → Goes s (type_result token p k e s).state (λ R. IsOwnMaybe R (type_result token p k e s).node)
result_own token p k no_node s = as_it_was s
result_own token p k (one_node a) s = let t = type_node a s in node_own a s ◂ rule_keeps (result_rule k t.sort) token p t.state

pub marks_keep : (ms : List ProbeMark) (s : State) → Keeps s (type_marks ms s)
marks_keep [] s = as_it_was s
marks_keep (m ∷ ms) s = let v = claim block m.number s.at m.pos s in claim_keeps block m.number s.at m.pos s ▸ marks_keep ms (steps 5 v)

pub case_keeps : (token : ℕ) (p : Pos) (o : Option Labels) (v : Option ℤ) (s : State) → Keeps s (case_state token p o v s)
case_keeps token p None v s = complain_keeps 37 token p s
case_keeps token p (Some l) v s = demand_keeps _ 36 token p s

pub default_keeps : (token : ℕ) (p : Pos) (o : Option Labels) (s : State) → Keeps s (default_state token p o s)
default_keeps token p None s = complain_keeps 37 token p s
default_keeps token p (Some l) s = demand_keeps _ 36 token p s

pub labels_keep : (o : Option Labels) (ls : List LabelShape) (s : State) → Keeps s (type_labels o ls s).state
labels_keep o [] s = as_it_was s
labels_keep o (case p a ∷ rest) s =
    let t = type_node a (step s) in
    let v = constants.value t.sort.constant in
    let u = rule (constant_rule t.sort) (step s).at (pos_in a) t.state in
    node_keeps a (step s) ▸ rule_keeps (constant_rule t.sort) (step s).at (pos_in a) t.state ▸ case_keeps s.at p o v u ▸ labels_keep (case_labels o v) rest (step (case_state s.at p o v u))
labels_keep o (default p ∷ rest) s = default_keeps s.at p o s ▸ labels_keep (default_labels o) rest (steps 2 (default_state s.at p o s))
