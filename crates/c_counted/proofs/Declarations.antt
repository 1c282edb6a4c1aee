-- How typing counts: initialisers, variables, parameters, functions and declarations.
use Rattle.std.proofs.Common.{◌≡◌, ℕ, ◌+◌, List, [], Option, Some, None, Bool, true, false, refl, arith}
use Rattle.std.proofs.lemmas.Bool.{false≢true}
use Rattle.std.specs.Prelude.{nat_eq, nat_le, not, ◌&&◌, ◌||◌}
use Rattle.c_base.specs.declared.place.Pos.{Pos}
use Rattle.c_base.specs.declared.place.IntKind.TheVariants.{Char}
use Rattle.c_syntax.specs.declared.text.Text.{Text}
use Rattle.c_syntax.specs.declared.token.Mark.TheVariants as m
use Rattle.c_syntax.specs.declared.tree.Named.{Named}
use Rattle.c_syntax.specs.declared.tree.Star.{Star}
use Rattle.c_syntax.specs.Forms.{◌▷◌, mark}
use Rattle.c_syntax.specs.Grammar.{init_form, inits_form, led_inits_form, comma_form, maybe_init_form, declarator_form, declarators_form, led_declarators_form, decl_form, decls_form, param_form, param_list_form, led_params_form, params_form, in_parens}
use Rattle.c_syntax.specs.Shape.{TypeOf, int, NodeShape, LengthShapes, SpecShapes, DeclShape, decl, DeclShapes, no_decls, more_decls, DeclaratorShape, declarator, DeclaratorShapes, no_declarators, more_declarators, arrays, function, ParamsShape, empty, void, params, MaybeInit, no_init, one_init, InitShape, one, listed, InitShapes, no_inits, more_inits}
use Rattle.c_syntax.specs.Shaped.{ShapedInit, ShapedInits, ShapedInitOf, ShapedLengths, SomeSpecs, ShapedDecl, ShapedDecls, ShapedDeclarator, ShapedDeclarators, ShapedParamList, ShapedParams, in_names}
use Rattle.c_scopes.specs.Scoping.{find_here}
use Rattle.c_tables.specs.Rows.{first_place, text_of, name_pos}
use Rattle.c_type_rules.specs.Verdicts.{result_type}
use Rattle.c_tree.specs.declared.meaning.Entity.{Entity}
use Rattle.c_tree.specs.State.{State, step, steps, mention, function_number}
use Rattle.c_tree.specs.Rulings.{by, rule, kind_at, of_kind, allowed_if}
use Rattle.c_tree.specs.Sorts.{pos_in}
use Rattle.c_tree.specs.Operators.{hushed, heard}
use Rattle.c_tree.specs.Parts.{unspelled, spelled_rule, star_tokens, pointed}
use Rattle.c_tree.specs.Typing.{type_node, type_specs, type_lengths}
use Rattle.c_tree.specs.Initialisers.{lengths_with, form_in, chars_of, filled, constant_init, fits, one_init_of, list_rule, slots, Slots, slot, slot_rule, further, init_pos, list_end, type_init, type_inits}
use Rattle.c_tree.specs.Declaring.{name_tokens, claim_name, token_of_name, with_variable, variable_at, declare_variable, variable_rule, has_init, type_maybe_init, type_variable, parameter_at, with_parameter, declare_parameter, parameter_rule, name_demand, type_param, type_param_list, type_params, opened_scope, closed_params, all_kinds, signature_of, Signature, same_function, names_function, is_defined, function_at, unclear_at, bodied, function_entity, declare_function, type_function, type_declarator, type_declarators, type_decl, type_decls}
use Rattle.c_counted.proofs.Counting.{behind, Stands, Held, same, moved_to, here, stepped_by, stepped, stepped2, stepped3, complained, demanded, ruled}
use Rattle.c_counted.proofs.Judging.{mention_held}
use Rattle.c_counted.proofs.Naming.{stars_held, name_held, name_at, name_or, claim_name_held}
use Rattle.c_counted.proofs.Expressions.{node_at, node_held, lengths_held, specs_held, all_specs, begun_at_specs}

-- ---- initialisers

value_held : {P : ℕ → Pos → Type 0} (c : Bool) (k : Option TypeOf) (o : Option (ℕ × ℕ)) (a : NodeShape) (s : State) {n : ℕ} → P s.at (pos_in a) → Held P n (type_node a s).state → Held P n (type_node a (hushed s)).state → Held P n (one_init_of o c k a s).state
value_held c k (Some (bytes, elements)) a s x h g =
    ruled (allowed_if (nat_le bytes elements) 33 (int Char)) s.at (pos_in a) (heard s.quiet (type_node a (hushed s)).state) x (same g refl refl)
value_held c k None a s x h g =
    let t = type_node a s in
    ruled (constant_init c t.sort) s.at (pos_in a) (rule (fits k t.sort) s.at (pos_in a) t.state) x (ruled (fits k t.sort) s.at (pos_in a) t.state x h)

init_at : {P : ℕ → Pos → Type 0} (i : InitShape) (s : State) {n : ℕ} → Stands P n (init_form i) → Held P n s → P s.at (init_pos i)
init_at (one a) s w h = node_at a s w h
init_at (listed p items last) s w h = here h w.0

-- the brace behind a last comma
last_held : {P : ℕ → Pos → Type 0} (last : Bool) (s : State) (n : ℕ) → Held P (n + 1) s → Held P (behind n (comma_form last) + 1) (steps (list_end last) s)
last_held true s n h = stepped h
last_held false s n h = moved_to (omega arith) (stepped_by 0 h)

mutual
  init_held : {P : ℕ → Pos → Type 0} (c : Bool) (k : Option TypeOf) (i : InitShape) (s : State) {n : ℕ} → ShapedInit i → Stands P n (init_form i) → Held P n s → Held P (behind n (init_form i)) (type_init c k i s).state
  init_held c k (one a) s e w h = value_held c k (filled (chars_of k) (form_in a)) a s (node_at a s w h) (node_held a s e.1 w h) (node_held a (hushed s) e.1 w (same h refl refl))
  init_held c k (listed p no_inits last) s e w h = absurd e
  init_held c k (listed p (more_inits i rest) last) s {n} e w h =
      let v = step (rule (of_kind k list_rule) s.at p s) in
      let g = stepped (ruled (of_kind k list_rule) s.at p s (here h w.0) h) in
      let l = slots k s in
      let u = rule (slot_rule l) v.at (init_pos i) v in
      let t = type_init true (slot l) i u in
      let j = init_held true (slot l) i u e.0 w.1.0.0 (ruled (slot_rule l) v.at (init_pos i) v (init_at i v w.1.0.0 g) g) in
      let r = type_inits l (more_inits i rest) v in
      last_held last r.state (behind (n + 1) (inits_form (more_inits i rest))) (inits_held (further l) rest (step t.state) (behind (n + 1) (init_form i)) e.1 w.1.0.1 (stepped j))

  -- items behind a comma or brace
  inits_held : {P : ℕ → Pos → Type 0} (l : Slots) (rest : InitShapes) (s : State) (n : ℕ) → ShapedInits rest → Stands P n (led_inits_form rest) → Held P (n + 1) s → Held P (behind n (led_inits_form rest) + 1) (type_inits l rest s).state
  inits_held l no_inits s n e w h = h
  inits_held l (more_inits i rest) s n e w h =
      let u = rule (slot_rule l) s.at (init_pos i) s in
      let t = type_init true (slot l) i u in
      let j = init_held true (slot l) i u e.0 w.1.0 (ruled (slot_rule l) s.at (init_pos i) s (init_at i s w.1.0 h) h) in
      inits_held (further l) rest (step t.state) (behind (n + 1) (init_form i)) e.1 w.1.1 (stepped j)

maybe_init_held : {P : ℕ → Pos → Type 0} (may c : Bool) (k : Option TypeOf) (i : MaybeInit) (s : State) {n : ℕ} → ShapedInitOf may i → Stands P n (maybe_init_form i) → Held P n s → Held P (behind n (maybe_init_form i)) (type_maybe_init c k i s).state
maybe_init_held may c k no_init s e w h = h
maybe_init_held may c k (one_init i) s e w h = init_held c k i (step s) e.1 w.1 (stepped h)

-- ---- variables

pub with_variable_held : {P : ℕ → Pos → Type 0} (x : Text) (k : Option TypeOf) (s : State) {n : ℕ} → Held P n s → Held P n (with_variable x k s)
with_variable_held x None s h = same h refl refl
with_variable_held x (Some t) s h = same h refl refl

variable_at_held : {P : ℕ → Pos → Type 0} (token : ℕ) (p : Pos) (x : Text) (k : Option TypeOf) (e : Option Entity) (s : State) {n : ℕ} → P token p → Held P n s → Held P n (variable_at token p x k e s)
variable_at_held token p x k None s y h = with_variable_held x k s h
variable_at_held token p x k (Some e) s y h = complained 31 token p s y h

variable_held : {P : ℕ → Pos → Type 0} (k : Option TypeOf) (stars : List Star) (x : Option Named) (ls : LengthShapes) (i : MaybeInit) (s : State) {n : ℕ} → ShapedDeclarator in_names (declarator stars x (arrays ls) i) → Stands P n (declarator_form (declarator stars x (arrays ls) i)) → Held P n s → Held P (behind n (declarator_form (declarator stars x (arrays ls) i))) (type_variable k stars x ls i s).state
variable_held k stars x ls i s e w h =
    let b = steps (star_tokens stars) s in
    let hb = stars_held stars s h in
    let fit = nat_eq s.function 0 || has_init i in
    let c = claim_name fit x b in
    let v = steps (name_tokens x) c in
    let l = type_lengths [] ls v in
    let hl = lengths_held true [] ls v e.1 w.1.1.0 (name_held x c (claim_name_held fit x b w.1.0 hb)) in
    let token = token_of_name b.at x b in
    let p = name_pos first_place x in
    let y = name_at b.at x b e.0 w.1.0 hb in
    let r = variable_rule l.state.rooms (lengths_with i l.counts) (pointed stars k) in
    let u = rule r token p l.state in
    let d = declare_variable token p (text_of x) (kind_at r) u in
    let hd = variable_at_held token p (text_of x) (kind_at r) (find_here (text_of x) u.names) u y (ruled r token p l.state y hl) in
    maybe_init_held true (nat_eq s.function 0) (kind_at r) i d e.2 w.1.1.1 hd

-- ---- parameters

with_parameter_held : {P : ℕ → Pos → Type 0} (x : Text) (k : Option TypeOf) (s : State) {n : ℕ} → Held P n s → Held P n (with_parameter x k s)
with_parameter_held x None s h = same h refl refl
with_parameter_held x (Some t) s h = same h refl refl

parameter_at_held : {P : ℕ → Pos → Type 0} (token : ℕ) (p : Pos) (x : Text) (k : Option TypeOf) (e : Option Entity) (s : State) {n : ℕ} → P token p → Held P n s → Held P n (parameter_at token p x k e s)
parameter_at_held token p x k None s y h = with_parameter_held x k s h
parameter_at_held token p x k (Some e) s y h = complained 31 token p s y h

parameter_held : {P : ℕ → Pos → Type 0} (token : ℕ) (p : Pos) (x : Option Named) (k : Option TypeOf) (s : State) {n : ℕ} → P token (name_pos p x) → Held P n s → Held P n (declare_parameter token x k s)
parameter_held token p None k s y h = h
parameter_held token p (Some x) k s y h = parameter_at_held token x.pos x.text k (find_here x.text s.names) s y h

name_demand_held : {P : ℕ → Pos → Type 0} (defining : Bool) (x : Option Named) (token : ℕ) (p : Pos) (s : State) {n : ℕ} → P token p → Held P n s → Held P n (name_demand defining x token p s)
name_demand_held true None token p s y h = complained 37 token p s y h
name_demand_held true (Some x) token p s y h = h
name_demand_held false x token p s y h = h

param_held : {P : ℕ → Pos → Type 0} (defining : Bool) (p : Pos) (specs : SpecShapes) (stars : List Star) (x : Option Named) (ls : LengthShapes) (s : State) {n : ℕ} → SomeSpecs specs → ShapedLengths true ls → Stands P n (param_form (decl p specs (more_declarators (declarator stars x (arrays ls) no_init) no_declarators))) → Held P n s → Held P (behind n (param_form (decl p specs (more_declarators (declarator stars x (arrays ls) no_init) no_declarators)))) (type_param defining p specs stars x ls no_init s).state
param_held defining p specs stars x ls s e d w h =
    let t = type_specs false specs unspelled s in
    let r = spelled_rule t.spelled in
    let q = rule r s.at p t.state in
    let y = begun_at_specs p specs (declarators_form (more_declarators (declarator stars x (arrays ls) no_init) no_declarators)) s e w.0 h in
    let hq = ruled r s.at p t.state y (specs_held false specs unspelled s (all_specs specs e) w.1.0 h) in
    let b = steps (star_tokens stars) q in
    let hb = stars_held stars q hq in
    let c = claim_name defining x b in
    let v = steps (name_tokens x) c in
    let l = type_lengths [] ls v in
    let hl = lengths_held true [] ls v d w.1.1.0.1.1.0 (name_held x c (claim_name_held defining x b w.1.1.0.1.0 hb)) in
    let token = token_of_name s.at x b in
    let z = name_or s.at p x b y w.1.1.0.1.0 hb in
    let k = parameter_rule l.state.rooms l.counts (pointed stars (kind_at r)) in
    let u = name_demand defining x s.at p l.state in
    let hu = name_demand_held defining x s.at p l.state y hl in
    parameter_held token p x (kind_at k) (rule k token (name_pos p x) u) z (ruled k token (name_pos p x) u z hu)

-- where a list of parameters ends, with the comma or parenthesis behind each
abbrev params_end : ℕ → DeclShapes → ℕ
params_end n no_decls = n
params_end n (more_decls d rest) = behind n (param_list_form (more_decls d rest)) + 1

led_end : (n : ℕ) (rest : DeclShapes) → params_end (n + 1) rest ≡ behind n (led_params_form rest) + 1
led_end n no_decls = refl
led_end n (more_decls d rest) = refl

led_stands : (P : ℕ → Pos → Type 0) (n : ℕ) (rest : DeclShapes) → Stands P n (led_params_form rest) → Stands P (n + 1) (param_list_form rest)
led_stands P n no_decls w = tt
led_stands P n (more_decls d rest) w = w.1

params_held : {P : ℕ → Pos → Type 0} (defining : Bool) (ds : DeclShapes) (s : State) {n : ℕ} → ShapedParamList ds → Stands P n (param_list_form ds) → Held P n s → Held P (params_end n ds) (type_param_list defining ds s).state
params_held defining no_decls s e w h = h
params_held defining (more_decls (decl p specs no_declarators) rest) s e w h = absurd e.0
params_held defining (more_decls (decl p specs (more_declarators (declarator stars x (function ps) i) no_declarators)) rest) s e w h = absurd (false≢true e.0.1.1.0)
params_held defining (more_decls (decl p specs (more_declarators (declarator stars x (arrays ls) (one_init i)) no_declarators)) rest) s e w h = absurd (false≢true e.0.1.2.0)
params_held {P} defining (more_decls (decl p specs (more_declarators (declarator stars x (arrays ls) no_init) no_declarators)) rest) s {n} e w h =
    let a = type_param defining p specs stars x ls no_init s in
    let m = behind n (param_form (decl p specs (more_declarators (declarator stars x (arrays ls) no_init) no_declarators))) in
    moved_to (led_end m rest) (params_held defining rest (step a.state) {n = m + 1} e.1 (led_stands P m rest w.1) (stepped (param_held defining p specs stars x ls s e.0.0 e.0.1.1 w.0 h)))
params_held defining (more_decls (decl p specs (more_declarators (declarator stars x (arrays ls) i) (more_declarators d more))) rest) s e w h = absurd e.0
params_held defining (more_decls (decl p specs (more_declarators (declarator stars x (function ps) i) (more_declarators d more))) rest) s e w h = absurd e.0

list_held : {P : ℕ → Pos → Type 0} (defining : Bool) (ps : ParamsShape) (s : State) {n : ℕ} → ShapedParams ps → Stands P n (in_parens (params_form ps)) → Held P n s → Held P (behind n (in_parens (params_form ps))) (type_params defining ps s).state
list_held defining empty s e w h = stepped2 h
list_held defining void s e w h = stepped3 h
list_held defining (params no_decls) s e w h = absurd e
list_held defining (params (more_decls d rest)) s e w h =
    params_held defining (more_decls d rest) (step (record s { params = [] })) (e.0, e.1) w.1.0 (same (stepped h) refl refl)

-- ---- functions

function_at_held : {P : ℕ → Pos → Type 0} (defining : Bool) (token : ℕ) (p : Pos) (x : Text) (e : Entity) (o : Option Entity) (s : State) {n : ℕ} → P token p → Held P n s → Held P n (function_at defining token p x e o s)
function_at_held defining token p x e None s y h = same h refl refl
function_at_held defining token p x e (Some o) s y h = demanded (same_function e o && not (defining && is_defined e s)) 31 token p s y h

unclear_held : {P : ℕ → Pos → Type 0} (defining : Bool) (token : ℕ) (p : Pos) (x : Text) (o : Option Entity) (s : State) {n : ℕ} → P token p → Held P n s → Held P n (unclear_at defining token p x o s)
unclear_held defining token p x None s y h = same h refl refl
unclear_held defining token p x (Some o) s y h = demanded (names_function o && not (defining && is_defined o s)) 31 token p s y h

bodied_held : {P : ℕ → Pos → Type 0} (defining : Bool) (x : Text) (s : State) {n : ℕ} → Held P n s → Held P n (bodied defining x s)
bodied_held true x s h = same h refl refl
bodied_held false x s h = h

declared_held : {P : ℕ → Pos → Type 0} (defining : Bool) (token : ℕ) (p : Pos) (x : Text) (f : Option Signature) (s : State) {n : ℕ} → P token p → Held P n s → Held P n (declare_function defining token p x f s).state
declared_held defining token p x None s y h =
    bodied_held defining x (unclear_at defining token p x (find_here x s.names) s) (unclear_held defining token p x (find_here x s.names) s y h)
declared_held defining token p x (Some f) s y h =
    let m = mention x f.result f.params s in
    function_at_held defining token p x (function_entity x f m.number) (find_here x m.state.names) m.state y (mention_held x f.result f.params (function_number x f.result f.params s.tables.functions) s h)

closed_params_held : {P : ℕ → Pos → Type 0} (defining : Bool) (s : State) {n : ℕ} → Held P n s → Held P n (closed_params defining s)
closed_params_held true s h = same h refl refl
closed_params_held false s h = same h refl refl

pub function_held : {P : ℕ → Pos → Type 0} (defining : Bool) (k : Option TypeOf) (stars : List Star) (x : Option Named) (ps : ParamsShape) (i : MaybeInit) (s : State) {n : ℕ} → ShapedDeclarator in_names (declarator stars x (function ps) i) → Stands P n (declarator_form (declarator stars x (function ps) i)) → Held P n s → Held P (behind n (declarator_form (declarator stars x (function ps) i))) (type_function defining k stars x ps i s).state
function_held defining k stars x ps (one_init i) s e w h = absurd (false≢true e.2.0)
function_held defining k stars x ps no_init s e w h =
    let b = steps (star_tokens stars) s in
    let hb = stars_held stars s h in
    let token = token_of_name b.at x b in
    let p = name_pos first_place x in
    let y = name_at b.at x b e.0 w.1.0 hb in
    let r = by 33 (result_type (pointed stars k)) in
    let c = claim_name false x b in
    let hc = name_held x c (claim_name_held false x b w.1.0 hb) in
    let v = record (opened_scope (steps (name_tokens x) c)) { file = false } in
    let q = type_params defining ps v in
    let hq = list_held defining ps v e.1.1 w.1.1.0 (same hc refl refl) in
    let f = signature_of (kind_at r) (all_kinds q.given) in
    let z = closed_params defining q.state in
    let hz = ruled r token p z y (closed_params_held defining q.state hq) in
    declared_held defining token p (text_of x) f (record (rule r token p z) { file = s.file }) y (same hz refl refl)

-- ---- declarations

declarator_held : {P : ℕ → Pos → Type 0} (k : Option TypeOf) (d : DeclaratorShape) (s : State) {n : ℕ} → ShapedDeclarator in_names d → Stands P n (declarator_form d) → Held P n s → Held P (behind n (declarator_form d)) (type_declarator k d s).state
declarator_held k (declarator stars x (arrays ls) i) s e w h = variable_held k stars x ls i s e w h
declarator_held k (declarator stars x (function ps) i) s e w h = function_held false k stars x ps i s e w h

-- declarators behind a comma or semicolon
more_names_held : {P : ℕ → Pos → Type 0} (k : Option TypeOf) (rest : DeclaratorShapes) (s : State) (n : ℕ) → ShapedDeclarators in_names rest → Stands P n (led_declarators_form rest) → Held P (n + 1) s → Held P (behind n (led_declarators_form rest) + 1) (type_declarators k rest s).state
more_names_held k no_declarators s n e w h = h
more_names_held k (more_declarators d rest) s n e w h =
    more_names_held k rest (step (type_declarator k d s).state) (behind (n + 1) (declarator_form d)) e.1 w.1.1 (stepped (declarator_held k d s e.0 w.1.0 h))

names_held : {P : ℕ → Pos → Type 0} (k : Option TypeOf) (d : DeclaratorShape) (rest : DeclaratorShapes) (s : State) {n : ℕ} → ShapedDeclarator in_names d → ShapedDeclarators in_names rest → Stands P n (declarators_form (more_declarators d rest)) → Held P n s → Held P (behind n (declarators_form (more_declarators d rest)) + 1) (type_declarators k (more_declarators d rest) s).state
names_held k d rest s {n} e f w h = more_names_held k rest (step (type_declarator k d s).state) (behind n (declarator_form d)) f w.1 (stepped (declarator_held k d s e w.0 h))

pub decl_held : {P : ℕ → Pos → Type 0} (d : DeclShape) (s : State) {n : ℕ} → ShapedDecl in_names d → Stands P n (decl_form d) → Held P n s → Held P (behind n (decl_form d)) (type_decl d s).state
decl_held (decl p specs no_declarators) s e w h =
    let t = type_specs true specs unspelled s in
    let r = spelled_rule t.spelled in
    let y = begun_at_specs p specs (declarators_form no_declarators ▷ mark m.Semicolon) s e.1 w.0 h in
    stepped (ruled r s.at p t.state y (specs_held true specs unspelled s (all_specs specs e.1) w.1.0 h))
decl_held (decl p specs (more_declarators d rest)) s e w h =
    let t = type_specs false specs unspelled s in
    let r = spelled_rule t.spelled in
    let y = begun_at_specs p specs (declarators_form (more_declarators d rest) ▷ mark m.Semicolon) s e.0 w.0 h in
    let hv = ruled r s.at p t.state y (specs_held false specs unspelled s (all_specs specs e.0) w.1.0 h) in
    names_held (kind_at r) d rest (steps 0 (rule r s.at p t.state)) e.1 e.2 w.1.1.0 (moved_to (omega arith) (stepped_by 0 hv))

pub decls_held : {P : ℕ → Pos → Type 0} (ds : DeclShapes) (s : State) {n : ℕ} → ShapedDecls in_names ds → Stands P n (decls_form ds) → Held P n s → Held P (behind n (decls_form ds)) (type_decls ds s).state
decls_held no_decls s e w h = h
decls_held (more_decls d rest) s e w h = decls_held rest (type_decl d s).state e.1 w.1 (decl_held d s e.0 w.0 h)
