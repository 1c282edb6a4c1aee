-- Plain declarations in which nothing is complained of are fit, and names are known behind them as before them.
use Rattle.std.proofs.Common.{◌≡◌, ℕ, inl, List, [], ◌∷◌, length, Bool, true, false, Option, Some, None, refl, arith}
use Rattle.std.specs.Prelude.{◌||◌, nat_eq, nat_le, if◌then◌else◌}
use Rattle.c_base.specs.declared.place.Pos.{Pos}
use Rattle.c_base.specs.declared.place.IntKind.TheVariants.{Char}
use Rattle.c_syntax.specs.declared.text.Text.{Text}
use Rattle.c_syntax.specs.declared.tree.Named.{Named}
use Rattle.c_syntax.specs.declared.tree.Star.{Star}
use Rattle.c_syntax.specs.declared.tree.ProbeMark.{ProbeMark}
use Rattle.c_syntax.specs.Shape.{TypeOf, int, def, str, NodeShape, node, ExprShape, leaf, LengthShapes, SpecShapes, DeclShape, decl, DeclShapes, no_decls, more_decls, DeclaratorShape, declarator, DeclaratorShapes, no_declarators, more_declarators, arrays, function, ParamsShape, empty, void, params, MaybeInit, no_init, one_init, InitShape, one, listed, InitShapes, no_inits, more_inits}
use Rattle.c_syntax.specs.Shaped.{Shaped, SomeSpecs, ShapedLengths, in_names, name_fits, ShapedInit, ShapedInits, ShapedInitOf, ShapedDecl, ShapedDecls, ShapedDeclarator, ShapedDeclarators, ShapedParams, ShapedParamList}
use Rattle.c_type_rules.specs.Layouts.{Measure, known, incomplete, too_large, measure}
use Rattle.c_type_rules.specs.Verdicts.{parameter_type, result_type}
use Rattle.c_scopes.specs.Scoping.{find_here}
use Rattle.c_tree.specs.declared.meaning.Entity.{Entity}
use Rattle.c_tree.specs.declared.meaning.Entity.TheVariants as entity
use Rattle.c_tables.specs.declared.builtins.Builtin.TheVariants.{GetChar, PutChar, Exit}
use Rattle.c_tree.specs.State.{State, step, steps, mention}
use Rattle.c_tables.specs.Rows.{first_place, text_of, name_pos}
use Rattle.c_tree.specs.Rulings.{Ruled, allowed, unsettled, refused, by, then_rule, kind_at, rule, of_kind, allowed_if}
use Rattle.c_tree.specs.Sorts.{pos_in}
use Rattle.c_tree.specs.Operators.{claim, hushed, heard}
use Rattle.c_tree.specs.Parts.{Length, counted, left_out, unclear, unspelled, spelled_rule, star_tokens, pointed, arrays_of}
use Rattle.c_tree.specs.Typing.{type_node, type_specs, type_lengths}
use Rattle.c_tree.specs.Initialisers.{length_in, length_in_form, lengths_with, form_in, chars_of, filled, constant_init, fits, one_init_of, list_rule, slots, Slots, slot, slot_rule, further, init_pos, type_init, type_inits}
use Rattle.c_tree.specs.Declaring.{name_tokens, claim_mark, claim_name, token_of_name, with_variable, variable_at, declare_variable, any_unclear, any_left_out, with_lengths, room_rule, variable_rule, has_init, type_maybe_init, type_variable, with_parameter, parameter_at, declare_parameter, by_element, element_pointer, element_lengths, scalar_rule, parameter_rule, name_demand, type_param, type_param_list, type_params, opened_scope, closed_params, all_kinds, signature_of, Signature, is_builtin, function_entity, function_at, declare_function, type_function, type_declarator, type_declarators, none_declared, semicolon, type_decl, type_decls}
use Rattle.c_sites_probes.specs.Marked.{first, name_mark, lengths_mark, specs_mark, maybe_init_mark, init_mark, declarator_mark, declarators_mark, decl_mark, decls_mark}
use Rattle.probe_rules.specs.Fitting.{IsNamed, IsFitInit, IsFitVariable, IsFitDeclarator, AreFitDeclarators, IsFitDecl, AreFitDecls, IsDefined, AreDefined, IsDefining, AreDefining, AreFitParams}
use Rattle.c_walk.specs.declared.around.Taken.TheVariants.{Read}
use Rattle.probe_rules.proofs.ReadyUnits.{none_first, none_second}
use Rattle.c_tree.proofs.Grows.{rule_grows, lengths_grow}
use Rattle.c_tree.proofs.GrowsUnits.{name_grows, inits_grow, maybe_init_grows, variable_at_grows, parameter_grows, name_demand_grows, list_grows, declared_grows, closed_params_grows, declarators_grow, decls_grow}
use Rattle.probe_laws.proofs.Settled.{IsThere, IsClean, Settled, then_settled, mended, type_there, by_told, of_kind_settled, whole_settled, parameter_told, result_told}
use Rattle.probe_laws.proofs.Rules.{back}
use Rattle.probe_laws.proofs.Known.{IsRow, IsSure, Knows, Goes, declared_holds, entered_holds, left_holds, stays, ◌▹◌, rule_goes, demand_goes, mention_goes}
use Rattle.probe_laws.proofs.KnownParts.{claim_goes, IsClear, AreClear, arrays_there, pointed_there, map_there, spelled_settled}
use Rattle.probe_laws.proofs.KnownNodes.{all_specs, decl_parts, node_knows, lengths_know, specs_know}
use Rattle.probe_laws.proofs.FitNodes.{node_fits}

-- ---- initialisers

list_shaped : (p : Pos) (is : InitShapes) (last : Bool) → ShapedInit (listed p is last) → ShapedInits is
list_shaped p no_inits last is = absurd is
list_shaped p (more_inits i rest) last is = is

one_knows : {b : Bool} (c : Bool) (k : Option TypeOf) (o : Option (ℕ × ℕ)) (a : NodeShape) (s : State) → Shaped a → Knows b s → IsClean (one_init_of o c k a s).state → Goes b s (one_init_of o c k a s).state
one_knows c k (Some (bytes, elements)) a s is h c' =
    let t = type_node a (hushed s) in
    let r = allowed_if (nat_le bytes elements) 33 (int Char) in
    let first = node_knows a (hushed s) is h (back (rule_grows r s.at (pos_in a) (heard s.quiet t.state)) c') in
    first.1 ▹ rule_goes r s.at (pos_in a) (heard s.quiet t.state) first.1.0
one_knows c k None a s is h c' =
    let t = type_node a s in
    let v = rule (fits k t.sort) s.at (pos_in a) t.state in
    let first = node_knows a s is h (back (rule_grows (fits k t.sort) s.at (pos_in a) t.state) (back (rule_grows (constant_init c t.sort) s.at (pos_in a) v) c')) in
    let second = rule_goes (fits k t.sort) s.at (pos_in a) t.state first.1.0 in
    first.1 ▹ second ▹ rule_goes (constant_init c t.sort) s.at (pos_in a) v second.0

mutual
  init_knows : {b : Bool} (c : Bool) (k : Option TypeOf) (i : InitShape) (s : State) → ShapedInit i → Knows b s → IsClean (type_init c k i s).state → Goes b s (type_init c k i s).state
  init_knows c k (one a) s is h c' = one_knows c k (filled (chars_of k) (form_in a)) a s is.1 h c'
  init_knows c k (listed p items last) s is h c' =
      let v = rule (of_kind k list_rule) s.at p s in
      let first = rule_goes (of_kind k list_rule) s.at p s h in
      first ▹ inits_know (slots k s) items (step v) (list_shaped p items last is) first.0 c'

  inits_know : {b : Bool} (l : Slots) (items : InitShapes) (s : State) → ShapedInits items → Knows b s → IsClean (type_inits l items s).state → Goes b s (type_inits l items s).state
  inits_know l no_inits s is h c = stays s h
  inits_know l (more_inits i rest) s is h c =
      let v = rule (slot_rule l) s.at (init_pos i) s in
      let t = type_init true (slot l) i v in
      let first = rule_goes (slot_rule l) s.at (init_pos i) s h in
      let second = init_knows true (slot l) i v is.0 first.0 (back (inits_grow (further l) rest (step t.state)) c) in
      first ▹ second ▹ inits_know (further l) rest (step t.state) is.1 second.0 c

one_fits : (c : Bool) (k : Option TypeOf) (o : Option (ℕ × ℕ)) (a : NodeShape) (s : State) → Shaped a → init_mark (one_init_of o c k a s).init ≡ None → Knows false s → IsClean (one_init_of o c k a s).state → IsFitInit (one_init_of o c k a s).init
one_fits c k (Some (bytes, elements)) a s is m h c' =
    node_fits Read a (hushed s) is m h (back (rule_grows (allowed_if (nat_le bytes elements) 33 (int Char)) s.at (pos_in a) (heard s.quiet (type_node a (hushed s)).state)) c') tt
one_fits c k None a s is m h c' =
    let t = type_node a s in
    let v = rule (fits k t.sort) s.at (pos_in a) t.state in
    node_fits Read a s is m h (back (rule_grows (fits k t.sort) s.at (pos_in a) t.state) (back (rule_grows (constant_init c t.sort) s.at (pos_in a) v) c')) tt

init_fits : (c : Bool) (k : Option TypeOf) (i : InitShape) (s : State) → ShapedInit i → init_mark (type_init c k i s).init ≡ None → Knows false s → IsClean (type_init c k i s).state → IsFitInit (type_init c k i s).init
init_fits c k (one a) s is m h c' = one_fits c k (filled (chars_of k) (form_in a)) a s is.1 m h c'
init_fits c k (listed p items last) s is m h c' = tt

is_named : (x : Option Named) → name_fits in_names x ≡ true → IsNamed x
is_named None e = cc
is_named (Some x) e = tt

maybe_init_fits : (may c : Bool) (k : Option TypeOf) (x : Option Named) (i : MaybeInit) (s : State) → name_fits in_names x ≡ true → ShapedInitOf may i → maybe_init_mark (type_maybe_init c k i s).init ≡ None → Knows false s
    → IsClean (type_maybe_init c k i s).state → Goes false s (type_maybe_init c k i s).state × IsFitVariable x (type_maybe_init c k i s).init
maybe_init_fits may c k x no_init s n is m h c' = (stays s h, tt)
maybe_init_fits may c k x (one_init i) s n is m h c' = (init_knows c k i (step s) is.1 h c', (is_named x n, init_fits c k i (step s) is.1 m h c'))

-- ---- names

mark_goes : {b : Bool} (fit : Bool) (m : Option ProbeMark) (s : State) → Knows b s → Goes b s (claim_mark fit m s)
mark_goes fit None s h = stays s h
mark_goes fit (Some m) s h = let first = claim_goes def m.number s.at m.pos s h in first ▹ demand_goes fit 37 s.at m.pos (claim def m.number s.at m.pos s) first.0

pub name_goes : {b : Bool} (fit : Bool) (x : Option Named) (s : State) → Knows b s → Goes b s (claim_name fit x s)
name_goes fit None s h = stays s h
name_goes fit (Some x) s h = mark_goes fit x.probe s h

pub with_variable_goes : {b : Bool} (x : Text) (k : Option TypeOf) (s : State) → IsThere k → Knows b s → Goes b s (with_variable x k s)
with_variable_goes x None s is h = absurd is
with_variable_goes {b} x (Some t) s is h = (declared_holds b (length s.tables.functions) x _ s.names tt h, omega arith)

pub variable_at_goes : {b : Bool} (token : ℕ) (p : Pos) (x : Text) (k : Option TypeOf) (e : Option Entity) (s : State) → IsThere k → Knows b s → Goes b s (variable_at token p x k e s)
variable_at_goes token p x k None s is h = with_variable_goes x k s is h
variable_at_goes token p x k (Some e) s is h = stays s h

-- ---- lengths

none_unclear : (ls : List Length) → AreClear true ls → any_unclear ls ≡ false
none_unclear [] h = refl
none_unclear (counted n ∷ ls) h = none_unclear ls h.1
none_unclear (left_out ∷ ls) h = none_unclear ls h.1
none_unclear (unclear ∷ ls) h = absurd h.0

all_counted : (ls : List Length) → AreClear true ls → any_left_out ls ≡ false → AreClear false ls
all_counted [] h e = tt
all_counted (counted n ∷ ls) h e = (tt, all_counted ls h.1 e)
all_counted (left_out ∷ ls) h e = cc
all_counted (unclear ∷ ls) h e = absurd h.0

lengths_settled : (x y : Bool) (k : Option TypeOf) → x ≡ false → (y ≡ false → IsThere k) → Settled (if x then unsettled else if y then refused 39 else of_kind k allowed)
lengths_settled true y k e h = cc
lengths_settled false true k e h = tt
lengths_settled false false k e h = of_kind_settled k allowed (h refl) (λ t. tt)

with_settled : (ls : List Length) (t : TypeOf) → AreClear true ls → Settled (with_lengths ls t)
with_settled ls t h = lengths_settled (any_unclear ls) (any_left_out ls) (arrays_of ls (Some t)) (none_unclear ls h) (λ e. arrays_there ls (Some t) (all_counted ls h e) tt)

by_element_settled : (m : Measure) (t : TypeOf) → Settled (by_element m t)
by_element_settled (known e) t = tt
by_element_settled incomplete t = tt
by_element_settled too_large t = tt

pointers_settled : (rooms : List Measure) (ls : List Length) (t : TypeOf) → AreClear true ls → Settled (then_rule (with_lengths ls t) (element_pointer rooms))
pointers_settled rooms ls t h = then_settled (with_lengths ls t) (element_pointer rooms) (with_settled ls t h) (λ u. by_element_settled (measure rooms u) u)

element_settled : (rooms : List Measure) (ls : List Length) (t : TypeOf) → AreClear true ls → Settled (element_lengths rooms ls t)
element_settled rooms [] t h = tt
element_settled rooms (counted n ∷ ls) t h = pointers_settled rooms ls t h.1
element_settled rooms (left_out ∷ ls) t h = pointers_settled rooms ls t h.1
element_settled rooms (unclear ∷ ls) t h = absurd h.0

form_clear : (f : ExprShape) → IsClear true (length_in_form f)
form_clear (leaf (str t)) = tt
form_clear f = refl

init_clear : (i : InitShape) → IsClear true (length_in i)
init_clear (one (node p o n f)) = form_clear f
init_clear (listed p items last) = tt

pub with_clear : (i : MaybeInit) (ls : List Length) → AreClear true ls → AreClear true (lengths_with i ls)
with_clear no_init ls h = h
with_clear (one_init i) [] h = h
with_clear (one_init i) (counted n ∷ ls) h = h
with_clear (one_init i) (left_out ∷ ls) h = (init_clear i, h.1)
with_clear (one_init i) (unclear ∷ ls) h = h

room_settled : (rooms : List Measure) (r : Ruled) → Settled r → Settled (room_rule rooms r)
room_settled rooms (allowed t) h = whole_settled rooms t
room_settled rooms unsettled h = h
room_settled rooms (refused n) h = h

pub variable_settled : (rooms : List Measure) (ls : List Length) (k : Option TypeOf) → AreClear true ls → IsThere k → Settled (variable_rule rooms ls k)
variable_settled rooms ls k h is = room_settled rooms (of_kind k (with_lengths ls)) (of_kind_settled k (with_lengths ls) is (λ t. with_settled ls t h))

scalar_settled : (r : Ruled) → Settled r → Settled (scalar_rule r)
scalar_settled (allowed t) h = by_told 33 (parameter_type (Some t)) (parameter_told t)
scalar_settled unsettled h = h
scalar_settled (refused n) h = h

parameter_settled : (rooms : List Measure) (ls : List Length) (k : Option TypeOf) → AreClear true ls → IsThere k → Settled (parameter_rule rooms ls k)
parameter_settled rooms ls k h is = scalar_settled (of_kind k (element_lengths rooms ls)) (of_kind_settled k (element_lengths rooms ls) is (λ t. element_settled rooms ls t h))

-- ---- variables

variable_fits : (may : Bool) (k : Option TypeOf) (stars : List Star) (x : Option Named) (ls : LengthShapes) (i : MaybeInit) (s : State) → name_fits in_names x ≡ true → ShapedLengths true ls → ShapedInitOf may i
    → declarator_mark (type_variable k stars x ls i s).name ≡ None → IsThere k → Knows false s → IsClean (type_variable k stars x ls i s).state
    → Goes false s (type_variable k stars x ls i s).state × IsFitDeclarator (type_variable k stars x ls i s).name
variable_fits may k stars x ls i s n is its m there h c =
    let b = steps (star_tokens stars) s in
    let fit = nat_eq s.function 0 || has_init i in
    let v = steps (name_tokens x) (claim_name fit x b) in
    let l = type_lengths [] ls v in
    let token = token_of_name b.at x b in
    let p = name_pos first_place x in
    let counts = lengths_with i l.counts in
    let r = variable_rule l.state.rooms counts (pointed stars k) in
    let u = rule r token p l.state in
    let here = find_here (text_of x) u.names in
    let d = declare_variable token p (text_of x) (kind_at r) u in
    let j = type_maybe_init (nat_eq s.function 0) (kind_at r) i d in
    let declared = back (maybe_init_grows (nat_eq s.function 0) (kind_at r) i d) c in
    let ruled = back (variable_at_grows token p (text_of x) (kind_at r) here u) declared in
    let first_of = name_goes fit x b h in
    let second = lengths_know true [] ls v is tt first_of.0 (back (rule_grows r token p l.state) ruled) in
    let third = rule_goes r token p l.state second.1.0 in
    let typed = type_there r token p l.state (variable_settled l.state.rooms counts (pointed stars k) (with_clear i l.counts second.0) (pointed_there stars k there)) ruled in
    let fourth = variable_at_goes token p (text_of x) (kind_at r) here u typed third.0 in
    let last = none_second (lengths_mark l.lengths) (maybe_init_mark j.init) (none_second (name_mark x) (first (lengths_mark l.lengths) (maybe_init_mark j.init)) m) in
    let fifth = maybe_init_fits may (nat_eq s.function 0) (kind_at r) x i d n its last fourth.0 c in
    (first_of ▹ second.1 ▹ third ▹ fourth ▹ fifth.0, fifth.1)

-- ---- parameters

with_parameter_goes : (x : Text) (k : Option TypeOf) (s : State) → IsThere k → Knows true s → Goes true s (with_parameter x k s)
with_parameter_goes x None s is h = absurd is
with_parameter_goes x (Some t) s is h = (declared_holds true (length s.tables.functions) x _ s.names refl h, omega arith)

parameter_at_goes : (token : ℕ) (p : Pos) (x : Text) (k : Option TypeOf) (e : Option Entity) (s : State) → IsThere k → Knows true s → Goes true s (parameter_at token p x k e s)
parameter_at_goes token p x k None s is h = with_parameter_goes x k s is h
parameter_at_goes token p x k (Some e) s is h = stays s h

parameter_goes : (token : ℕ) (x : Option Named) (k : Option TypeOf) (s : State) → IsThere k → Knows true s → Goes true s (declare_parameter token x k s)
parameter_goes token None k s is h = stays s h
parameter_goes token (Some x) k s is h = parameter_at_goes token x.pos x.text k (find_here x.text s.names) s is h

demand_named : (defining : Bool) (x : Option Named) (token : ℕ) (p : Pos) (s : State) → Knows true s → IsClean (name_demand defining x token p s) → Goes true s (name_demand defining x token p s) × (defining ≡ true → IsNamed x)
demand_named true None token p s h c = absurd (mended 37 token p s c)
demand_named true (Some x) token p s h c = (stays s h, λ e. tt)
demand_named false x token p s h c = (stays s h, λ e. cc)

param_fits : (defining : Bool) (p : Pos) (specs : SpecShapes) (stars : List Star) (x : Option Named) (ls : LengthShapes) (i : MaybeInit) (s : State) → SomeSpecs specs → ShapedLengths true ls → Knows true s
    → IsClean (type_param defining p specs stars x ls i s).state
    → Goes true s (type_param defining p specs stars x ls i s).state × IsThere (type_param defining p specs stars x ls i s).kind × (defining ≡ true → IsNamed x)
param_fits defining p specs stars x ls i s is its h c =
    let t = type_specs false specs unspelled s in
    let r = spelled_rule t.spelled in
    let w = rule r s.at p t.state in
    let b = steps (star_tokens stars) w in
    let v = steps (name_tokens x) (claim_name defining x b) in
    let l = type_lengths [] ls v in
    let token = token_of_name s.at x b in
    let k = parameter_rule l.state.rooms l.counts (pointed stars (kind_at r)) in
    let u = name_demand defining x s.at p l.state in
    let z = rule k token (name_pos p x) u in
    let ruled = back (parameter_grows token x (kind_at k) z) c in
    let demanded = back (rule_grows k token (name_pos p x) u) ruled in
    let long = back (name_demand_grows defining x s.at p l.state) demanded in
    let called = back (lengths_grow [] ls v) long in
    let worded = back (name_grows defining x b) called in
    let one = specs_know false specs unspelled s (all_specs specs is) (inl refl) h (back (rule_grows r s.at p t.state) worded) in
    let two = rule_goes r s.at p t.state one.1.0 in
    let spelled = type_there r s.at p t.state (spelled_settled t.spelled one.0) worded in
    let three = name_goes defining x b two.0 in
    let four = lengths_know true [] ls v its tt three.0 long in
    let five = demand_named defining x s.at p l.state four.1.0 demanded in
    let six = rule_goes k token (name_pos p x) u five.0.0 in
    let typed = type_there k token (name_pos p x) u (parameter_settled l.state.rooms l.counts (pointed stars (kind_at r)) four.0 (pointed_there stars (kind_at r) spelled)) ruled in
    (one.1 ▹ two ▹ three ▹ four.1 ▹ five.0 ▹ six ▹ parameter_goes token x (kind_at k) z typed six.0, typed, five.1)

abbrev pub AreTyped : List (Text × Option TypeOf) → Type 0
AreTyped [] = Unit {0}
AreTyped (g ∷ gs) = IsThere g.1 × AreTyped gs

list_fits : (defining : Bool) (ds : DeclShapes) (s : State) → ShapedParamList ds → Knows true s → IsClean (type_param_list defining ds s).state
    → Goes true s (type_param_list defining ds s).state × AreTyped (type_param_list defining ds s).given × (defining ≡ true → AreDefining (type_param_list defining ds s).params)
list_fits defining no_decls s is h c = (stays s h, tt, λ e. tt)
list_fits defining (more_decls (decl p specs no_declarators) rest) s is h c = absurd is.0
list_fits defining (more_decls (decl p specs (more_declarators (declarator stars x (arrays ls) i) no_declarators)) rest) s is h c =
    let a = type_param defining p specs stars x ls i s in
    let one = param_fits defining p specs stars x ls i s is.0.0 is.0.1.1 h (back (list_grows defining rest (step a.state)) c) in
    let two = list_fits defining rest (step a.state) is.1 one.0.0 c in
    (one.0 ▹ two.0, (one.1, two.1), λ e. ((one.2 e, tt), two.2 e))
list_fits defining (more_decls (decl p specs (more_declarators (declarator stars x (function ps) i) no_declarators)) rest) s is h c = let e = is.0.1.1.0 in cc
list_fits defining (more_decls (decl p specs (more_declarators (declarator stars x (arrays ls) i) (more_declarators d more))) rest) s is h c = absurd is.0
list_fits defining (more_decls (decl p specs (more_declarators (declarator stars x (function ps) i) (more_declarators d more))) rest) s is h c = absurd is.0

params_shaped : (ds : DeclShapes) → ShapedParams (params ds) → ShapedParamList ds
params_shaped no_decls is = absurd is
params_shaped (more_decls d rest) is = (is.0, is.1)

params_fit : (defining : Bool) (ps : ParamsShape) (s : State) → ShapedParams ps → Knows true s → IsClean (type_params defining ps s).state
    → Goes true s (type_params defining ps s).state × AreTyped (type_params defining ps s).given × (defining ≡ true → AreFitParams (type_params defining ps s).params)
params_fit defining empty s is h c = (stays s h, tt, λ e. tt)
params_fit defining void s is h c = (stays s h, tt, λ e. tt)
params_fit defining (params ds) s is h c = list_fits defining ds (step (record s { params = [] })) (params_shaped ds is) h c

-- ---- functions

kinds_there : (gs : List (Text × Option TypeOf)) → AreTyped gs → IsThere (all_kinds gs)
kinds_there [] h = tt
kinds_there ((x, None) ∷ rest) h = h.0
kinds_there ((x, Some t) ∷ rest) h = map_there (λ ts. t ∷ ts) (all_kinds rest) (kinds_there rest h.1)

signature_there : (k : Option TypeOf) (ks : Option (List TypeOf)) → IsThere k → IsThere ks → IsThere (signature_of k ks)
signature_there None ks h g = h
signature_there (Some t) None h g = g
signature_there (Some t) (Some ts) h g = tt

either_entity : (b : Bool) (n : ℕ) (x : Bool) (e f : Entity) → IsSure b n e → IsSure b n f → IsSure b n (if x then e else f)
either_entity b n true e f h g = h
either_entity b n false e f h g = g

function_sure : (b : Bool) (n : ℕ) (x : Text) (f : Signature) (k : ℕ) → IsRow k n → IsSure b n (function_entity x f k)
function_sure b n x f k h =
    either_entity b n (is_builtin GetChar x f) (entity.Builtin GetChar) _ tt
    (either_entity b n (is_builtin PutChar x f) (entity.Builtin PutChar) _ tt (either_entity b n (is_builtin Exit x f) (entity.Builtin Exit) (entity.Function k) tt h))

function_at_goes : {b : Bool} (defining : Bool) (token : ℕ) (p : Pos) (x : Text) (e : Entity) (o : Option Entity) (s : State) → IsSure b (length s.tables.functions) e → Knows b s → Goes b s (function_at defining token p x e o s)
function_at_goes {b} defining token p x e None s is h = (declared_holds b (length s.tables.functions) x e s.names is h, omega arith)
function_at_goes defining token p x e (Some o) s is h = demand_goes _ 31 token p s h

declared_goes : (defining : Bool) (token : ℕ) (p : Pos) (x : Text) (f : Option Signature) (s : State) → IsThere f → Knows false s → Goes false s (declare_function defining token p x f s).state
declared_goes defining token p x None s is h = absurd is
declared_goes defining token p x (Some f) s is h =
    let m = mention x f.result f.params s in
    let one = mention_goes false x f.result f.params s h in
    one.0 ▹ function_at_goes defining token p x (function_entity x f m.number) (find_here x m.state.names) m.state (function_sure false (length m.state.tables.functions) x f m.number one.1) one.0.0

closed_params_goes : (defining : Bool) (s : State) → Knows true s → Goes false s (closed_params defining s)
closed_params_goes true s h = (left_holds true (length s.tables.functions) s.names h, omega arith)
closed_params_goes false s h = (left_holds true (length s.tables.functions) s.names h, omega arith)

pub function_fits : (defining : Bool) (k : Option TypeOf) (stars : List Star) (x : Option Named) (ps : ParamsShape) (i : MaybeInit) (s : State) → ShapedParams ps → IsThere k → Knows false s → IsClean (type_function defining k stars x ps i s).state
    → Goes false s (type_function defining k stars x ps i s).state × AreTyped (type_function defining k stars x ps i s).given
    × (defining ≡ true → AreFitParams (type_params defining ps (record (opened_scope (steps (name_tokens x) (claim_name false x (steps (star_tokens stars) s)))) { file = false })).params)
function_fits defining k stars x ps i s is there h c =
    let b = steps (star_tokens stars) s in
    let token = token_of_name b.at x b in
    let p = name_pos first_place x in
    let r = by 33 (result_type (pointed stars k)) in
    let n = steps (name_tokens x) (claim_name false x b) in
    let v = record (opened_scope n) { file = false } in
    let q = type_params defining ps v in
    let f = signature_of (kind_at r) (all_kinds q.given) in
    let w = closed_params defining q.state in
    let u = record (rule r token p w) { file = s.file } in
    let ruled = back (declared_grows defining token p (text_of x) f u) c in
    let closed = back (rule_grows r token p w) ruled in
    let one = name_goes false x b h in
    let two = params_fit defining ps v is (entered_holds true (length n.tables.functions) n.names one.0) (back (closed_params_grows defining q.state) closed) in
    let three = closed_params_goes defining q.state two.0.0 in
    let four = rule_goes r token p w three.0 in
    let typed = type_there r token p w (by_told 33 (result_type (pointed stars k)) (result_told (pointed stars k) (pointed_there stars k there))) ruled in
    let five = declared_goes defining token p (text_of x) f u (signature_there (kind_at r) (all_kinds q.given) typed (kinds_there q.given two.1)) four.0 in
    (one ▹ two.0 ▹ three ▹ four ▹ five, two.1, two.2)

-- ---- declarations

pub declarator_fits : (k : Option TypeOf) (d : DeclaratorShape) (s : State) → ShapedDeclarator in_names d → declarator_mark (type_declarator k d s).name ≡ None → IsThere k → Knows false s → IsClean (type_declarator k d s).state
    → Goes false s (type_declarator k d s).state × IsFitDeclarator (type_declarator k d s).name × IsDefined (type_declarator k d s).name
declarator_fits k (declarator stars x (arrays ls) i) s is m there h c = let one = variable_fits true k stars x ls i s is.0 is.1 is.2 m there h c in (one.0, one.1, is_named x is.0)
declarator_fits k (declarator stars x (function ps) i) s is m there h c = let one = function_fits false k stars x ps i s is.1.1 there h c in (one.0, tt, tt)

declarators_fit : (k : Option TypeOf) (ds : DeclaratorShapes) (s : State) → ShapedDeclarators in_names ds → declarators_mark (type_declarators k ds s).names ≡ None → IsThere k → Knows false s → IsClean (type_declarators k ds s).state
    → Goes false s (type_declarators k ds s).state × AreFitDeclarators (type_declarators k ds s).names × AreDefined (type_declarators k ds s).names
declarators_fit k no_declarators s is m there h c = (stays s h, tt, tt)
declarators_fit k (more_declarators d rest) s is m there h c =
    let t = type_declarator k d s in
    let y = type_declarators k rest (step t.state) in
    let one = declarator_fits k d s is.0 (none_first (declarator_mark t.name) (declarators_mark y.names) m) there h (back (declarators_grow k rest (step t.state)) c) in
    let two = declarators_fit k rest (step t.state) is.1 (none_second (declarator_mark t.name) (declarators_mark y.names) m) there one.0.0 c in
    (one.0 ▹ two.0, (one.1, two.1), (one.2, two.2))

pub decl_fits : (d : DeclShape) (s : State) → ShapedDecl in_names d → decl_mark (type_decl d s).decl ≡ None → Knows false s → IsClean (type_decl d s).state
    → Goes false s (type_decl d s).state × IsFitDecl (type_decl d s).decl × IsDefining (type_decl d s).decl
decl_fits (decl p specs names) s is m h c =
    let t = type_specs (none_declared names) specs unspelled s in
    let r = spelled_rule t.spelled in
    let v = steps (semicolon names) (rule r s.at p t.state) in
    let y = type_declarators (kind_at r) names v in
    let parts = decl_parts in_names p specs names is in
    let ruled = back (declarators_grow (kind_at r) names v) c in
    let one = specs_know (none_declared names) specs unspelled s (all_specs specs parts.0) (inl refl) h (back (rule_grows r s.at p t.state) ruled) in
    let two = rule_goes r s.at p t.state one.1.0 in
    let spelled = type_there r s.at p t.state (spelled_settled t.spelled one.0) ruled in
    let three = declarators_fit (kind_at r) names v parts.1 (none_second (specs_mark t.specs) (declarators_mark y.names) m) spelled two.0 c in
    (one.1 ▹ two ▹ three.0, three.1, three.2)

pub decls_fit : (ds : DeclShapes) (s : State) → ShapedDecls in_names ds → decls_mark (type_decls ds s).decls ≡ None → Knows false s → IsClean (type_decls ds s).state → Goes false s (type_decls ds s).state × AreFitDecls (type_decls ds s).decls
decls_fit no_decls s is m h c = (stays s h, tt)
decls_fit (more_decls d rest) s is m h c =
    let t = type_decl d s in
    let y = type_decls rest t.state in
    let one = decl_fits d s is.0 (none_first (decl_mark t.decl) (decls_mark y.decls) m) h (back (decls_grow rest t.state) c) in
    let two = decls_fit rest t.state is.1 (none_second (decl_mark t.decl) (decls_mark y.decls) m) one.0.0 c in
    (one.0 ▹ two.0, (one.1, two.1))
