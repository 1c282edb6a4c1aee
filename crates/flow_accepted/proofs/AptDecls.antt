-- In plain declarations in which nothing is complained of, the operands of `&` and `.` are no used places.
use Rattle.std.proofs.Common.{◌≡◌, ℕ, inl, List, [], ◌∷◌, Bool, true, false, Option, Some, None, refl}
use Rattle.std.specs.Prelude.{◌||◌, nat_eq, nat_le, if◌then◌else◌}
use Rattle.c_base.specs.declared.place.Pos.{Pos}
use Rattle.c_base.specs.declared.place.IntKind.TheVariants.{Char}
use Rattle.c_syntax.specs.declared.text.Text.{Text}
use Rattle.c_syntax.specs.declared.tree.Named.{Named}
use Rattle.c_syntax.specs.declared.tree.Star.{Star}
use Rattle.c_syntax.specs.declared.tree.ProbeMark.{ProbeMark}
use Rattle.c_syntax.specs.Shape.{TypeOf, int, def, str, NodeShape, node, ExprShape, leaf, LengthShapes, DeclShape, decl, DeclShapes, no_decls, more_decls, DeclaratorShape, declarator, DeclaratorShapes, no_declarators, more_declarators, arrays, function, MaybeInit, no_init, one_init, InitShape, one, listed, InitShapes, no_inits, more_inits}
use Rattle.c_syntax.specs.Shaped.{Shaped, ShapedLengths, in_names, ShapedInit, ShapedInits, ShapedInitOf, ShapedDecl, ShapedDecls, ShapedDeclarator, ShapedDeclarators}
use Rattle.c_type_rules.specs.Layouts.{Measure}
use Rattle.c_scopes.specs.Scoping.{find_here}
use Rattle.c_tree.specs.declared.meaning.Entity.{Entity}
use Rattle.c_tree.specs.State.{State, step, steps}
use Rattle.c_tables.specs.Rows.{first_place, text_of, name_pos}
use Rattle.c_tree.specs.Rulings.{Ruled, allowed, unsettled, refused, kind_at, rule, of_kind, allowed_if}
use Rattle.c_tree.specs.Sorts.{pos_in}
use Rattle.c_tree.specs.Operators.{claim, hushed, heard}
use Rattle.c_tree.specs.Parts.{Length, counted, left_out, unclear, unspelled, spelled_rule, star_tokens, pointed, arrays_of}
use Rattle.c_tree.specs.Typing.{type_node, type_specs, type_lengths}
use Rattle.c_tree.specs.Initialisers.{length_in, length_in_form, lengths_with, form_in, chars_of, filled, constant_init, fits, one_init_of, list_rule, slots, Slots, slot, slot_rule, further, init_pos, type_init, type_inits}
use Rattle.c_tree.specs.Declaring.{name_tokens, claim_mark, claim_name, token_of_name, variable_at, declare_variable, any_unclear, any_left_out, with_lengths, room_rule, variable_rule, has_init, type_maybe_init, type_variable, type_declarator, type_declarators, none_declared, semicolon, type_decl, type_decls}
use Rattle.c_sites_probes.specs.Marked.{first, name_mark, lengths_mark, specs_mark, maybe_init_mark, init_mark, declarator_mark, declarators_mark, decl_mark, decls_mark}
use Rattle.probe_rules.proofs.ReadyUnits.{none_first, none_second}
use Rattle.c_tree.proofs.Grows.{rule_grows}
use Rattle.c_tree.proofs.GrowsUnits.{inits_grow, maybe_init_grows, variable_at_grows, declarators_grow, decls_grow}
use Rattle.probe_laws.proofs.Settled.{IsThere, IsClean, Settled, type_there, of_kind_settled, whole_settled}
use Rattle.probe_laws.proofs.Rules.{back}
use Rattle.probe_laws.proofs.Known.{Knows, Goes, stays, ◌▹◌, rule_goes, demand_goes}
use Rattle.probe_laws.proofs.KnownParts.{claim_goes, IsClear, AreClear, arrays_there, pointed_there, spelled_settled}
use Rattle.probe_laws.proofs.KnownNodes.{all_specs, decl_parts, node_knows, lengths_know, specs_know}
use Rattle.probe_laws.proofs.FitDecls.{with_variable_goes, function_fits}
use Rattle.flow_accepted.proofs.Apt.{IsAptInit, IsAptMaybeInit, IsAptDeclarator, AreAptDeclarators, IsAptDecl, AreAptDecls}
use Rattle.flow_accepted.proofs.AptNodes.{node_apt}

-- ---- initialisers

list_shaped : (p : Pos) (is : InitShapes) (last : Bool) → ShapedInit (listed p is last) → ShapedInits is
list_shaped p no_inits last is = absurd is
list_shaped p (more_inits i rest) last is = is

one_knows : {b : Bool} (c : Bool) (k : Option TypeOf) (o : Option (ℕ × ℕ)) (a : NodeShape) (s : State) → Shaped a → Knows b s → IsClean (one_init_of o c k a s).state → Goes b s (one_init_of o c k a s).state
one_knows c k (Some (bytes, elements)) a s is h c' =
    let t = type_node a (hushed s) in
    let r = allowed_if (nat_le bytes elements) 33 (int Char) in
    let first = node_knows a (hushed s) is h (back (rule_grows r s.at (pos_in a) (heard s.quiet t.state)) c') in
    first.1 ▹ rule_goes r s.at (pos_in a) (heard s.quiet t.state) first.1.0
one_knows c k None a s is h c' =
    let t = type_node a s in
    let v = rule (fits k t.sort) s.at (pos_in a) t.state in
    let first = node_knows a s is h (back (rule_grows (fits k t.sort) s.at (pos_in a) t.state) (back (rule_grows (constant_init c t.sort) s.at (pos_in a) v) c')) in
    let second = rule_goes (fits k t.sort) s.at (pos_in a) t.state first.1.0 in
    first.1 ▹ second ▹ rule_goes (constant_init c t.sort) s.at (pos_in a) v second.0

mutual
  init_knows : {b : Bool} (c : Bool) (k : Option TypeOf) (i : InitShape) (s : State) → ShapedInit i → Knows b s → IsClean (type_init c k i s).state → Goes b s (type_init c k i s).state
  init_knows c k (one a) s is h c' = one_knows c k (filled (chars_of k) (form_in a)) a s is.1 h c'
  init_knows c k (listed p items last) s is h c' =
      let v = rule (of_kind k list_rule) s.at p s in
      let first = rule_goes (of_kind k list_rule) s.at p s h in
      first ▹ inits_know (slots k s) items (step v) (list_shaped p items last is) first.0 c'

  inits_know : {b : Bool} (l : Slots) (items : InitShapes) (s : State) → ShapedInits items → Knows b s → IsClean (type_inits l items s).state → Goes b s (type_inits l items s).state
  inits_know l no_inits s is h c = stays s h
  inits_know l (more_inits i rest) s is h c =
      let v = rule (slot_rule l) s.at (init_pos i) s in
      let t = type_init true (slot l) i v in
      let first = rule_goes (slot_rule l) s.at (init_pos i) s h in
      let second = init_knows true (slot l) i v is.0 first.0 (back (inits_grow (further l) rest (step t.state)) c) in
      first ▹ second ▹ inits_know (further l) rest (step t.state) is.1 second.0 c

one_apt : (c : Bool) (k : Option TypeOf) (o : Option (ℕ × ℕ)) (a : NodeShape) (s : State) → Shaped a → init_mark (one_init_of o c k a s).init ≡ None → Knows false s → IsClean (one_init_of o c k a s).state → IsAptInit (one_init_of o c k a s).init
one_apt c k (Some (bytes, elements)) a s is m h c' =
    node_apt a (hushed s) is m h (back (rule_grows (allowed_if (nat_le bytes elements) 33 (int Char)) s.at (pos_in a) (heard s.quiet (type_node a (hushed s)).state)) c')
one_apt c k None a s is m h c' =
    let t = type_node a s in
    let v = rule (fits k t.sort) s.at (pos_in a) t.state in
    node_apt a s is m h (back (rule_grows (fits k t.sort) s.at (pos_in a) t.state) (back (rule_grows (constant_init c t.sort) s.at (pos_in a) v) c'))

init_apt : (c : Bool) (k : Option TypeOf) (i : InitShape) (s : State) → ShapedInit i → init_mark (type_init c k i s).init ≡ None → Knows false s → IsClean (type_init c k i s).state → IsAptInit (type_init c k i s).init
init_apt c k (one a) s is m h c' = one_apt c k (filled (chars_of k) (form_in a)) a s is.1 m h c'
init_apt c k (listed p items last) s is m h c' = tt

maybe_init_apt : (may c : Bool) (k : Option TypeOf) (i : MaybeInit) (s : State) → ShapedInitOf may i → maybe_init_mark (type_maybe_init c k i s).init ≡ None → Knows false s
    → IsClean (type_maybe_init c k i s).state → Goes false s (type_maybe_init c k i s).state × IsAptMaybeInit (type_maybe_init c k i s).init
maybe_init_apt may c k no_init s is m h c' = (stays s h, tt)
maybe_init_apt may c k (one_init i) s is m h c' = (init_knows c k i (step s) is.1 h c', init_apt c k i (step s) is.1 m h c')

-- ---- names

mark_goes : {b : Bool} (fit : Bool) (m : Option ProbeMark) (s : State) → Knows b s → Goes b s (claim_mark fit m s)
mark_goes fit None s h = stays s h
mark_goes fit (Some m) s h = let first = claim_goes def m.number s.at m.pos s h in first ▹ demand_goes fit 37 s.at m.pos (claim def m.number s.at m.pos s) first.0

name_goes : {b : Bool} (fit : Bool) (x : Option Named) (s : State) → Knows b s → Goes b s (claim_name fit x s)
name_goes fit None s h = stays s h
name_goes fit (Some x) s h = mark_goes fit x.probe s h

variable_at_goes : {b : Bool} (token : ℕ) (p : Pos) (x : Text) (k : Option TypeOf) (e : Option Entity) (s : State) → IsThere k → Knows b s → Goes b s (variable_at token p x k e s)
variable_at_goes token p x k None s is h = with_variable_goes x k s is h
variable_at_goes token p x k (Some e) s is h = stays s h

-- ---- lengths

none_unclear : (ls : List Length) → AreClear true ls → any_unclear ls ≡ false
none_unclear [] h = refl
none_unclear (counted n ∷ ls) h = none_unclear ls h.1
none_unclear (left_out ∷ ls) h = none_unclear ls h.1
none_unclear (unclear ∷ ls) h = absurd h.0

all_counted : (ls : List Length) → AreClear true ls → any_left_out ls ≡ false → AreClear false ls
all_counted [] h e = tt
all_counted (counted n ∷ ls) h e = (tt, all_counted ls h.1 e)
all_counted (left_out ∷ ls) h e = cc
all_counted (unclear ∷ ls) h e = absurd h.0

lengths_settled : (x y : Bool) (k : Option TypeOf) → x ≡ false → (y ≡ false → IsThere k) → Settled (if x then unsettled else if y then refused 39 else of_kind k allowed)
lengths_settled true y k e h = cc
lengths_settled false true k e h = tt
lengths_settled false false k e h = of_kind_settled k allowed (h refl) (λ t. tt)

with_settled : (ls : List Length) (t : TypeOf) → AreClear true ls → Settled (with_lengths ls t)
with_settled ls t h = lengths_settled (any_unclear ls) (any_left_out ls) (arrays_of ls (Some t)) (none_unclear ls h) (λ e. arrays_there ls (Some t) (all_counted ls h e) tt)

form_clear : (f : ExprShape) → IsClear true (length_in_form f)
form_clear (leaf (str t)) = tt
form_clear f = refl

init_clear : (i : InitShape) → IsClear true (length_in i)
init_clear (one (node p o n f)) = form_clear f
init_clear (listed p items last) = tt

with_clear : (i : MaybeInit) (ls : List Length) → AreClear true ls → AreClear true (lengths_with i ls)
with_clear no_init ls h = h
with_clear (one_init i) [] h = h
with_clear (one_init i) (counted n ∷ ls) h = h
with_clear (one_init i) (left_out ∷ ls) h = (init_clear i, h.1)
with_clear (one_init i) (unclear ∷ ls) h = h

room_settled : (rooms : List Measure) (r : Ruled) → Settled r → Settled (room_rule rooms r)
room_settled rooms (allowed t) h = whole_settled rooms t
room_settled rooms unsettled h = h
room_settled rooms (refused n) h = h

variable_settled : (rooms : List Measure) (ls : List Length) (k : Option TypeOf) → AreClear true ls → IsThere k → Settled (variable_rule rooms ls k)
variable_settled rooms ls k h is = room_settled rooms (of_kind k (with_lengths ls)) (of_kind_settled k (with_lengths ls) is (λ t. with_settled ls t h))

-- ---- variables

variable_apt : (may : Bool) (k : Option TypeOf) (stars : List Star) (x : Option Named) (ls : LengthShapes) (i : MaybeInit) (s : State) → ShapedLengths true ls → ShapedInitOf may i
    → declarator_mark (type_variable k stars x ls i s).name ≡ None → IsThere k → Knows false s → IsClean (type_variable k stars x ls i s).state
    → Goes false s (type_variable k stars x ls i s).state × IsAptDeclarator (type_variable k stars x ls i s).name
variable_apt may k stars x ls i s is its m there h c =
    let b = steps (star_tokens stars) s in
    let fit = nat_eq s.function 0 || has_init i in
    let v = steps (name_tokens x) (claim_name fit x b) in
    let l = type_lengths [] ls v in
    let token = token_of_name b.at x b in
    let p = name_pos first_place x in
    let counts = lengths_with i l.counts in
    let r = variable_rule l.state.rooms counts (pointed stars k) in
    let u = rule r token p l.state in
    let here = find_here (text_of x) u.names in
    let d = declare_variable token p (text_of x) (kind_at r) u in
    let j = type_maybe_init (nat_eq s.function 0) (kind_at r) i d in
    let declared = back (maybe_init_grows (nat_eq s.function 0) (kind_at r) i d) c in
    let ruled = back (variable_at_grows token p (text_of x) (kind_at r) here u) declared in
    let first_of = name_goes fit x b h in
    let second = lengths_know true [] ls v is tt first_of.0 (back (rule_grows r token p l.state) ruled) in
    let third = rule_goes r token p l.state second.1.0 in
    let typed = type_there r token p l.state (variable_settled l.state.rooms counts (pointed stars k) (with_clear i l.counts second.0) (pointed_there stars k there)) ruled in
    let fourth = variable_at_goes token p (text_of x) (kind_at r) here u typed third.0 in
    let last = none_second (lengths_mark l.lengths) (maybe_init_mark j.init) (none_second (name_mark x) (first (lengths_mark l.lengths) (maybe_init_mark j.init)) m) in
    let fifth = maybe_init_apt may (nat_eq s.function 0) (kind_at r) i d its last fourth.0 c in
    (first_of ▹ second.1 ▹ third ▹ fourth ▹ fifth.0, fifth.1)

-- ---- declarations

declarator_apt : (k : Option TypeOf) (d : DeclaratorShape) (s : State) → ShapedDeclarator in_names d → declarator_mark (type_declarator k d s).name ≡ None → IsThere k → Knows false s → IsClean (type_declarator k d s).state
    → Goes false s (type_declarator k d s).state × IsAptDeclarator (type_declarator k d s).name
declarator_apt k (declarator stars x (arrays ls) i) s is m there h c = let one = variable_apt true k stars x ls i s is.1 is.2 m there h c in (one.0, one.1)
declarator_apt k (declarator stars x (function ps) i) s is m there h c = let one = function_fits false k stars x ps i s is.1.1 there h c in (one.0, tt)

declarators_apt : (k : Option TypeOf) (ds : DeclaratorShapes) (s : State) → ShapedDeclarators in_names ds → declarators_mark (type_declarators k ds s).names ≡ None → IsThere k → Knows false s → IsClean (type_declarators k ds s).state
    → Goes false s (type_declarators k ds s).state × AreAptDeclarators (type_declarators k ds s).names
declarators_apt k no_declarators s is m there h c = (stays s h, tt)
declarators_apt k (more_declarators d rest) s is m there h c =
    let t = type_declarator k d s in
    let y = type_declarators k rest (step t.state) in
    let one = declarator_apt k d s is.0 (none_first (declarator_mark t.name) (declarators_mark y.names) m) there h (back (declarators_grow k rest (step t.state)) c) in
    let two = declarators_apt k rest (step t.state) is.1 (none_second (declarator_mark t.name) (declarators_mark y.names) m) there one.0.0 c in
    (one.0 ▹ two.0, (one.1, two.1))

pub decl_apt : (d : DeclShape) (s : State) → ShapedDecl in_names d → decl_mark (type_decl d s).decl ≡ None → Knows false s → IsClean (type_decl d s).state
    → Goes false s (type_decl d s).state × IsAptDecl (type_decl d s).decl
decl_apt (decl p specs names) s is m h c =
    let t = type_specs (none_declared names) specs unspelled s in
    let r = spelled_rule t.spelled in
    let v = steps (semicolon names) (rule r s.at p t.state) in
    let y = type_declarators (kind_at r) names v in
    let parts = decl_parts in_names p specs names is in
    let ruled = back (declarators_grow (kind_at r) names v) c in
    let one = specs_know (none_declared names) specs unspelled s (all_specs specs parts.0) (inl refl) h (back (rule_grows r s.at p t.state) ruled) in
    let two = rule_goes r s.at p t.state one.1.0 in
    let spelled = type_there r s.at p t.state (spelled_settled t.spelled one.0) ruled in
    let three = declarators_apt (kind_at r) names v parts.1 (none_second (specs_mark t.specs) (declarators_mark y.names) m) spelled two.0 c in
    (one.1 ▹ two ▹ three.0, three.1)

pub decls_apt : (ds : DeclShapes) (s : State) → ShapedDecls in_names ds → decls_mark (type_decls ds s).decls ≡ None → Knows false s → IsClean (type_decls ds s).state → Goes false s (type_decls ds s).state × AreAptDecls (type_decls ds s).decls
decls_apt no_decls s is m h c = (stays s h, tt)
decls_apt (more_decls d rest) s is m h c =
    let t = type_decl d s in
    let y = type_decls rest t.state in
    let one = decl_apt d s is.0 (none_first (decl_mark t.decl) (decls_mark y.decls) m) h (back (decls_grow rest t.state) c) in
    let two = decls_apt rest t.state is.1 (none_second (decl_mark t.decl) (decls_mark y.decls) m) one.0.0 c in
    (one.0 ▹ two.0, (one.1, two.1))
