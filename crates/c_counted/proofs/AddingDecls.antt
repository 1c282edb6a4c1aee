-- How many rows typing adds to the tables: initialisers, variables, parameters, functions and declarations.
use Rattle.std.proofs.Common.{ℕ, ◌+◌, ◌≤◌, List, [], length, Option, Some, None, Bool, true, false, arith}
use Rattle.std.specs.Prelude.{nat_eq, nat_le, not, ◌&&◌, ◌||◌}
use Rattle.c_base.specs.declared.place.Pos.{Pos}
use Rattle.c_base.specs.declared.place.IntKind.TheVariants.{Char}
use Rattle.c_syntax.specs.declared.text.Text.{Text}
use Rattle.c_syntax.specs.declared.tree.Named.{Named}
use Rattle.c_syntax.specs.declared.tree.ProbeMark.{ProbeMark}
use Rattle.c_syntax.specs.declared.tree.Star.{Star}
use Rattle.c_syntax.specs.Grammar.{node_form, init_form, inits_form, led_inits_form, maybe_init_form, declarator_form, led_declarators_form, decl_form, decls_form, param_form, param_list_form, led_params_form, params_form}
use Rattle.c_syntax.specs.Shape.{TypeOf, int, def, NodeShape, LengthShapes, SpecShapes, DeclShape, decl, DeclShapes, no_decls, more_decls, DeclaratorShape, declarator, DeclaratorShapes, no_declarators, more_declarators, arrays, function, ParamsShape, empty, void, params, MaybeInit, no_init, one_init, InitShape, one, listed, InitShapes, no_inits, more_inits}
use Rattle.c_scopes.specs.Scoping.{find_here}
use Rattle.c_tables.specs.Rows.{first_place, text_of, name_pos}
use Rattle.c_type_rules.specs.Verdicts.{result_type}
use Rattle.c_tree.specs.declared.meaning.Entity.{Entity}
use Rattle.c_tree.specs.State.{State, step, steps, complain, mention, function_number}
use Rattle.c_tree.specs.Rulings.{by, rule, kind_at, of_kind, allowed_if}
use Rattle.c_tree.specs.Sorts.{pos_in}
use Rattle.c_tree.specs.Operators.{claim, hushed, heard}
use Rattle.c_tree.specs.Parts.{unspelled, spelled_rule, star_tokens, pointed}
use Rattle.c_tree.specs.Typing.{type_node, type_specs, type_lengths}
use Rattle.c_tree.specs.Initialisers.{lengths_with, form_in, chars_of, filled, constant_init, fits, one_init_of, list_rule, slots, Slots, slot, slot_rule, further, init_pos, type_init, type_inits}
use Rattle.c_tree.specs.Declaring.{name_tokens, claim_mark, claim_name, token_of_name, with_variable, variable_at, declare_variable, variable_rule, has_init, type_maybe_init, type_variable, parameter_at, with_parameter, declare_parameter, parameter_rule, name_demand, type_param, type_param_list, type_params, opened_scope, closed_params, all_kinds, signature_of, Signature, same_function, names_function, is_defined, function_at, unclear_at, bodied, function_entity, declare_function, type_function, type_declarator, type_declarators, none_declared, semicolon, type_decl, type_decls}
use Rattle.c_counted.specs.Sizes.{row_count}
use Rattle.c_counted.proofs.Adding.{count, Adds, none, demand_adds, rule_adds, claim_adds, variable_row, bodies_rows, mention_adds, two_rules}
use Rattle.c_counted.proofs.AddingNodes.{node_adds, lengths_add, specs_add, led_declarators}

-- ---- initialisers

value_adds : (c : Bool) (k : Option TypeOf) (o : Option (ℕ × ℕ)) (a : NodeShape) (s : State) → Adds (count (node_form a)) s (one_init_of o c k a s).state
value_adds c k (Some (bytes, elements)) a s =
    omega (arith, node_adds a (hushed s), rule_adds (allowed_if (nat_le bytes elements) 33 (int Char)) s.at (pos_in a) (heard s.quiet (type_node a (hushed s)).state))
value_adds c k None a s =
    let t = type_node a s in
    omega (arith, node_adds a s, two_rules (constant_init c t.sort) (fits k t.sort) s.at (pos_in a) s.at (pos_in a) t.state)

led_inits : (is : InitShapes) → count (led_inits_form is) ≤ count (inits_form is) + 1
led_inits no_inits = omega arith
led_inits (more_inits i rest) = omega arith

mutual
  init_adds : (c : Bool) (k : Option TypeOf) (i : InitShape) (s : State) → Adds (count (init_form i)) s (type_init c k i s).state
  init_adds c k (one a) s = value_adds c k (filled (chars_of k) (form_in a)) a s
  init_adds c k (listed p items last) s =
      let v = rule (of_kind k list_rule) s.at p s in
      omega (arith, rule_adds (of_kind k list_rule) s.at p s, led_inits items, inits_add (slots k s) items (step v))

  inits_add : (l : Slots) (is : InitShapes) (s : State) → Adds (count (led_inits_form is)) s (type_inits l is s).state
  inits_add l no_inits s = none s
  inits_add l (more_inits i rest) s =
      let v = rule (slot_rule l) s.at (init_pos i) s in
      let t = type_init true (slot l) i v in
      omega (arith, rule_adds (slot_rule l) s.at (init_pos i) s, init_adds true (slot l) i v, inits_add (further l) rest (step t.state))

maybe_init_adds : (c : Bool) (k : Option TypeOf) (i : MaybeInit) (s : State) → Adds (count (maybe_init_form i)) s (type_maybe_init c k i s).state
maybe_init_adds c k no_init s = none s
maybe_init_adds c k (one_init i) s = omega (arith, init_adds c k i (step s))

-- ---- variables

mark_adds : (fit : Bool) (o : Option ProbeMark) (s : State) → Adds 0 s (claim_mark fit o s)
mark_adds fit None s = none s
mark_adds fit (Some m) s = omega (arith, claim_adds def m.number s.at m.pos s, demand_adds fit 37 s.at m.pos (claim def m.number s.at m.pos s))

name_adds : (fit : Bool) (x : Option Named) (s : State) → Adds 0 s (claim_name fit x s)
name_adds fit None s = none s
name_adds fit (Some x) s = mark_adds fit x.probe s

pub with_variable_adds : (x : Text) (k : Option TypeOf) (s : State) → Adds 1 s (with_variable x k s)
with_variable_adds x None s = omega arith
with_variable_adds x (Some t) s = variable_row s.tables (record { name = x; kind = t; function = s.function })

variable_at_adds : (token : ℕ) (p : Pos) (x : Text) (k : Option TypeOf) (e : Option Entity) (s : State) → Adds 1 s (variable_at token p x k e s)
variable_at_adds token p x k None s = with_variable_adds x k s
variable_at_adds token p x k (Some e) s = omega arith

variable_adds : (k : Option TypeOf) (stars : List Star) (x : Option Named) (ls : LengthShapes) (i : MaybeInit) (s : State) → Adds (count (declarator_form (declarator stars x (arrays ls) i)) + 1) s (type_variable k stars x ls i s).state
variable_adds k stars x ls i s =
    let b = steps (star_tokens stars) s in
    let fit = nat_eq s.function 0 || has_init i in
    let v = steps (name_tokens x) (claim_name fit x b) in
    let l = type_lengths [] ls v in
    let token = token_of_name b.at x b in
    let p = name_pos first_place x in
    let r = variable_rule l.state.rooms (lengths_with i l.counts) (pointed stars k) in
    let u = rule r token p l.state in
    let d = declare_variable token p (text_of x) (kind_at r) u in
    omega (arith, name_adds fit x b, lengths_add [] ls v, rule_adds r token p l.state, variable_at_adds token p (text_of x) (kind_at r) (find_here (text_of x) u.names) u, maybe_init_adds (nat_eq s.function 0) (kind_at r) i d)

-- ---- parameters

with_parameter_adds : (x : Text) (k : Option TypeOf) (s : State) → Adds 0 s (with_parameter x k s)
with_parameter_adds x None s = none s
with_parameter_adds x (Some t) s = none s

parameter_at_adds : (token : ℕ) (p : Pos) (x : Text) (k : Option TypeOf) (e : Option Entity) (s : State) → Adds 0 s (parameter_at token p x k e s)
parameter_at_adds token p x k None s = with_parameter_adds x k s
parameter_at_adds token p x k (Some e) s = none s

parameter_adds : (token : ℕ) (x : Option Named) (k : Option TypeOf) (s : State) → Adds 0 s (declare_parameter token x k s)
parameter_adds token None k s = none s
parameter_adds token (Some x) k s = parameter_at_adds token x.pos x.text k (find_here x.text s.names) s

name_demand_adds : (defining : Bool) (x : Option Named) (token : ℕ) (p : Pos) (s : State) → Adds 0 s (name_demand defining x token p s)
name_demand_adds true None token p s = none s
name_demand_adds true (Some x) token p s = none s
name_demand_adds false x token p s = none s

param_adds : (defining : Bool) (p : Pos) (specs : SpecShapes) (stars : List Star) (x : Option Named) (ls : LengthShapes) (i : MaybeInit) (s : State) → Adds (count (param_form (decl p specs (more_declarators (declarator stars x (arrays ls) i) no_declarators)))) s (type_param defining p specs stars x ls i s).state
param_adds defining p specs stars x ls i s =
    let t = type_specs false specs unspelled s in
    let r = spelled_rule t.spelled in
    let b = steps (star_tokens stars) (rule r s.at p t.state) in
    let v = steps (name_tokens x) (claim_name defining x b) in
    let l = type_lengths [] ls v in
    let token = token_of_name s.at x b in
    let k = parameter_rule l.state.rooms l.counts (pointed stars (kind_at r)) in
    let u = name_demand defining x s.at p l.state in
    omega (arith, specs_add false specs unspelled s, rule_adds r s.at p t.state, name_adds defining x b, lengths_add [] ls v, name_demand_adds defining x s.at p l.state, rule_adds k token (name_pos p x) u, parameter_adds token x (kind_at k) (rule k token (name_pos p x) u))

led_params : (ds : DeclShapes) → count (led_params_form ds) ≤ count (param_list_form ds) + 1
led_params no_decls = omega arith
led_params (more_decls d rest) = omega arith

-- those that a definition makes variables are counted too
list_adds : (defining : Bool) (ds : DeclShapes) (s : State) → row_count (type_param_list defining ds s).state.tables + length (type_param_list defining ds s).given ≤ row_count s.tables + count (led_params_form ds)
list_adds defining no_decls s = omega arith
list_adds defining (more_decls (decl p specs no_declarators) rest) s = omega (arith, list_adds defining rest (step (complain 33 s.at first_place s)))
list_adds defining (more_decls (decl p specs (more_declarators (declarator stars x (arrays ls) i) no_declarators)) rest) s =
    let a = type_param defining p specs stars x ls i s in
    omega (arith, param_adds defining p specs stars x ls i s, list_adds defining rest (step a.state))
list_adds defining (more_decls (decl p specs (more_declarators (declarator stars x (function ps) i) no_declarators)) rest) s = omega (arith, list_adds defining rest (step (complain 33 s.at first_place s)))
list_adds defining (more_decls (decl p specs (more_declarators (declarator stars x (arrays ls) i) (more_declarators d more))) rest) s = omega (arith, list_adds defining rest (step (complain 33 s.at first_place s)))
list_adds defining (more_decls (decl p specs (more_declarators (declarator stars x (function ps) i) (more_declarators d more))) rest) s = omega (arith, list_adds defining rest (step (complain 33 s.at first_place s)))

params_add : (defining : Bool) (ps : ParamsShape) (s : State) → row_count (type_params defining ps s).state.tables + length (type_params defining ps s).given ≤ row_count s.tables + count (params_form ps) + 1
params_add defining empty s = omega arith
params_add defining void s = omega arith
params_add defining (params ds) s = omega (arith, led_params ds, list_adds defining ds (step (record s { params = [] })))

-- ---- functions

function_at_adds : (defining : Bool) (token : ℕ) (p : Pos) (x : Text) (e : Entity) (o : Option Entity) (s : State) → Adds 0 s (function_at defining token p x e o s)
function_at_adds defining token p x e None s = none s
function_at_adds defining token p x e (Some o) s = demand_adds (same_function e o && not (defining && is_defined e s)) 31 token p s

unclear_adds : (defining : Bool) (token : ℕ) (p : Pos) (x : Text) (o : Option Entity) (s : State) → Adds 0 s (unclear_at defining token p x o s)
unclear_adds defining token p x None s = none s
unclear_adds defining token p x (Some o) s = demand_adds (names_function o && not (defining && is_defined o s)) 31 token p s

bodied_adds : (defining : Bool) (x : Text) (s : State) → Adds 0 s (bodied defining x s)
bodied_adds true x s = bodies_rows s.tables x
bodied_adds false x s = none s

declared_adds : (defining : Bool) (token : ℕ) (p : Pos) (x : Text) (f : Option Signature) (s : State) → Adds 1 s (declare_function defining token p x f s).state
declared_adds defining token p x None s = omega (arith, unclear_adds defining token p x (find_here x s.names) s, bodied_adds defining x (unclear_at defining token p x (find_here x s.names) s))
declared_adds defining token p x (Some f) s =
    let m = mention x f.result f.params s in
    omega (arith, mention_adds x f.result f.params (function_number x f.result f.params s.tables.functions) s, function_at_adds defining token p x (function_entity x f m.number) (find_here x m.state.names) m.state)

closed_params_adds : (defining : Bool) (s : State) → Adds 0 s (closed_params defining s)
closed_params_adds true s = none s
closed_params_adds false s = none s

pub function_adds : (defining : Bool) (k : Option TypeOf) (stars : List Star) (x : Option Named) (ps : ParamsShape) (i : MaybeInit) (s : State) → row_count (type_function defining k stars x ps i s).state.tables + length (type_function defining k stars x ps i s).given ≤ row_count s.tables + count (declarator_form (declarator stars x (function ps) i))
function_adds defining k stars x ps i s =
    let b = steps (star_tokens stars) s in
    let token = token_of_name b.at x b in
    let p = name_pos first_place x in
    let r = by 33 (result_type (pointed stars k)) in
    let v = record (opened_scope (steps (name_tokens x) (claim_name false x b))) { file = false } in
    let q = type_params defining ps v in
    let f = signature_of (kind_at r) (all_kinds q.given) in
    let c = closed_params defining q.state in
    omega (arith, name_adds false x b, params_add defining ps v, closed_params_adds defining q.state, rule_adds r token p c, declared_adds defining token p (text_of x) f (record (rule r token p c) { file = s.file }))

-- ---- declarations

declarator_adds : (k : Option TypeOf) (d : DeclaratorShape) (s : State) → Adds (count (declarator_form d) + 1) s (type_declarator k d s).state
declarator_adds k (declarator stars x (arrays ls) i) s = variable_adds k stars x ls i s
declarator_adds k (declarator stars x (function ps) i) s = omega (arith, function_adds false k stars x ps i s)

declarators_add : (k : Option TypeOf) (ds : DeclaratorShapes) (s : State) → Adds (count (led_declarators_form ds)) s (type_declarators k ds s).state
declarators_add k no_declarators s = none s
declarators_add k (more_declarators d rest) s = let t = type_declarator k d s in omega (arith, declarator_adds k d s, declarators_add k rest (step t.state))

pub decl_adds : (d : DeclShape) (s : State) → Adds (count (decl_form d)) s (type_decl d s).state
decl_adds (decl p specs names) s =
    let t = type_specs (none_declared names) specs unspelled s in
    let r = spelled_rule t.spelled in
    let v = rule r s.at p t.state in
    omega (arith, specs_add (none_declared names) specs unspelled s, rule_adds r s.at p t.state, led_declarators names, declarators_add (kind_at r) names (steps (semicolon names) v))

pub decls_add : (ds : DeclShapes) (s : State) → Adds (count (decls_form ds)) s (type_decls ds s).state
decls_add no_decls s = none s
decls_add (more_decls d rest) s = omega (arith, decl_adds d s, decls_add rest (type_decl d s).state)
