-- Where nothing is complained of, each expression and each type name has a type, and names are known behind it as before it.
use Rattle.std.proofs.Common.{◌≡◌, ℕ, ℤ, ◌++◌, inl, List, [], ◌∷◌, length, Bool, true, false, Option, Some, refl, sym, subst}
use Rattle.std.specs.Prelude.{pos, not, ◌||◌}
use Rattle.c_base.specs.declared.place.Pos.{Pos}
use Rattle.c_base.specs.declared.place.IntKind.TheVariants.{Int}
use Rattle.c_syntax.specs.declared.tree.Named.{Named}
use Rattle.c_syntax.specs.Shape.{TypeOf, int, number, char, str, name, unary, before, size_of, Infix, plain, and, or, assign, comma, test, NodeShape, node, ExprShape, leaf, paren, call, prefix, size_of_type, cast, suffix, two, choose, probe, index, field, behind, simple, select, NodeShapes, no_nodes, more_nodes, MaybeNode, no_node, one_node, LengthShapes, no_lengths, more_lengths, TypeShape, type_name, SpecShapes, no_specs, more_specs, word, struct, enum, MaybeDecls, no_members, members, MaybeEnumers, no_rows, rows, EnumerShapes, no_enumers, more_enumers, decl, DeclShapes, no_decls, more_decls, declarator, DeclaratorShapes, no_declarators, more_declarators, arrays, function}
use Rattle.c_syntax.specs.Shaped.{Shaped, ShapedExpr, ShapedNodes, ShapedMaybe, ShapedLengths, ShapedType, SomeSpecs, AllSpecs, ShapedMembers, ShapedRows, ShapedEnumers, Standing, in_members, ShapedDecl, ShapedDecls, ShapedDeclarators, is_there, has_members}
use Rattle.c_constants.specs.Constants as constants
use Rattle.c_constants.specs.Numbers.{number_of}
use Rattle.c_scopes.specs.Scoping.{find_here, find}
use Rattle.c_tables.specs.Tables.{FieldShape}
use Rattle.c_tree.specs.State.{State, step, steps, complain, demand, is_clean, field_type}
use Rattle.c_tree.specs.Rulings.{rule, kind_at, of_kind, whole, sized}
use Rattle.c_tree.specs.Sorts.{Sort, pos_in, cleared, changeable}
use Rattle.c_tree.specs.Operators.{has_value, string_type, with_literal, called, Given, given_at, hushed, heard, unary_rule, place_rule, step_rule, left_side, plain_rule, assigned_rule, typed_infix, choice_rule, element_rule, holder, field_rule, probe_rule, select_rule, constant_rule, claim, left_of, right_of, sided, entering}
use Rattle.c_type_rules.specs.Verdicts.{cast_type, logical_type}
use Rattle.c_tree.specs.Rulings.{by}
use Rattle.c_tree.specs.Parts.{Length, left_out, length_of, length_rule, pointed, star_tokens, arrays_of, Spelled, unspelled, with_word, with_tagged, static_fits, spelled_rule, begun_at, opened, tag_tokens, structure_kind, within, is_free, with_field, field_state, entity_of, declare, after, enumeration, passes, value_rule}
use Rattle.c_tables.specs.Rows.{text_of, name_pos}
use Rattle.c_tree.specs.Typing.{opening, type_node, type_form, type_arguments, type_cases, type_type, type_lengths, type_specs, type_struct, type_lines, type_fields, type_enum, rows_types, type_value}
use Rattle.c_tree.proofs.Grows.{rule_grows, typed_call_grows, infix_grows, opened_grows, begun_grows, closed_grows, field_grows, declared_grows, enumeration_grows, node_grows, form_grows, arguments_grows, cases_grow, lengths_grow, specs_grow, lines_grow, fields_grow, rows_grow}
use Rattle.probe_laws.proofs.Settled.{IsThere, IsClean, type_there, whole_settled}
use Rattle.probe_laws.proofs.Rules as rules
use Rattle.probe_laws.proofs.Rules.{back, unary_there, step_there, size_there, type_size_there, cast_there, infix_there, choice_there, element_there, field_there, probe_there, select_there}
use Rattle.probe_laws.proofs.Known.{Knows, Goes, find_sure, stays, ◌▹◌, rule_goes, demand_goes}
use Rattle.probe_laws.proofs.KnownParts.{entity_knows, called_after, called_knows, call_knows, literal_goes, claim_goes, AreClear, clear_then, length_clear, arrays_there, pointed_there, IsTagged, word_goes, tag_goes, spelled_settled, opened_goes, begun_goes, closed_goes, number_there, is_still_clean, kept_if, field_goes, declared_goes, entity_sure, enumeration_goes, next_there, given_there, after_there}

-- ---- what the grammar allows

pub all_specs : (x : SpecShapes) → SomeSpecs x → AllSpecs x
all_specs no_specs is = absurd is
all_specs (more_specs p x rest) is = is

pub members_shaped : (ds : DeclShapes) → ShapedMembers (members ds) → ShapedDecls in_members ds
members_shaped no_decls is = absurd is
members_shaped (more_decls d rest) is = is

pub rows_shaped : (es : EnumerShapes) → ShapedRows (rows es) → ShapedEnumers es
rows_shaped no_enumers is = absurd is
rows_shaped (more_enumers x v rest) is = is

pub decl_parts : (s : Standing) (p : Pos) (specs : SpecShapes) (names : DeclaratorShapes) → ShapedDecl s (decl p specs names) → SomeSpecs specs × ShapedDeclarators s names
decl_parts s p specs no_declarators is = (is.1, tt)
decl_parts s p specs (more_declarators d rest) is = (is.0, (is.1, is.2))

infix_goes : {b : Bool} (token : ℕ) (o : Pos) (head : ℕ) (p : Pos) (u : Infix) (x y : Sort) (s : State) → Knows b s → Goes b s (typed_infix token o head p u x y s).state
infix_goes token o head p (plain u) x y s h = rule_goes (plain_rule u s.rooms x y) token o s h
infix_goes token o head p and x y s h = rule_goes (by 33 (logical_type x.kind y.kind)) token o s h
infix_goes token o head p or x y s h = rule_goes (by 33 (logical_type x.kind y.kind)) token o s h
infix_goes token o head p (assign u) x y s h =
    let first = rule_goes (left_side x y) head p s h in
    first ▹ rule_goes (assigned_rule u s.rooms x y) token o (rule (left_side x y) head p s) first.0
infix_goes token o head p comma x y s h = stays s h

-- ---- expressions and types

mutual
  pub node_knows : {b : Bool} (a : NodeShape) (s : State) → Shaped a → Knows b s → IsClean (type_node a s).state → IsThere (type_node a s).sort.kind × Goes b s (type_node a s).state
  node_knows (node p o n f) s is h c =
      let u = entering f s in
      let t = type_form p o f u in
      let r = form_knows p o f u is.1 h c in
      (subst (λ x. IsThere (cleared x t.typing.sort).kind) (sym (is_still_clean s t.state (back (form_grows p o f u) c) c)) r.0, r.1)

  pub form_knows : {b : Bool} (p o : Pos) (f : ExprShape) (s : State) → ShapedExpr f → Knows b s → IsClean (type_form p o f s).state → IsThere (type_form p o f s).typing.sort.kind × Goes b s (type_form p o f s).state
  form_knows p o (leaf (number t)) s is h c = (rules.number_there (number_of t) s.at p s c, demand_goes (has_value (number_of t)) 33 s.at p s h)
  form_knows p o (leaf (char x)) s is h c = (tt, stays s h)
  form_knows p o (leaf (str t)) s is h c =
      let v = with_literal t s in
      let r = whole s.rooms (string_type t) in
      let first = literal_goes s.quiet t s h in
      (type_there r s.at p v (whole_settled s.rooms (string_type t)) c, first ▹ rule_goes r s.at p v first.0)
  form_knows {b} p o (leaf (name x)) s is h c = entity_knows b p (find x s.names) s (find_sure b (length s.tables.functions) x s.names h) h c
  form_knows p o (paren a) s is h c = node_knows a (step s) is h c
  form_knows {b} p o (call x args) s is h c =
      let f = called p x s in
      let t = type_arguments [] args (steps (opening args) f.state) in
      let clean = is_clean f.state t.state in
      let late = back (typed_call_grows p s.at clean f.function t.given t.state) c in
      let early = back (arguments_grows [] args (steps (opening args) f.state)) late in
      let first = called_knows b p (find x s.names) s (find_sure b (length s.tables.functions) x s.names h) h early in
      let second = arguments_know [] args (steps (opening args) f.state) is first.0.0 late in
      let third = call_knows p s.at clean f.function t.given t.state (called_after f.function (length f.state.tables.functions) (length t.state.tables.functions) second.1 first.1) second.0 in
      (third.0, first.0 ▹ second ▹ third.1)
  form_knows p o (prefix (unary u) a) s is h c =
      let t = type_node a (step s) in
      let v = rule (place_rule u t.sort) (step s).at (pos_in a) t.state in
      let r = unary_rule u t.state.rooms t.sort in
      let first = node_knows a (step s) is.1 h (back (rule_grows (place_rule u t.sort) (step s).at (pos_in a) t.state) (back (rule_grows r s.at o v) c)) in
      let second = rule_goes (place_rule u t.sort) (step s).at (pos_in a) t.state first.1.0 in
      (unary_there u t.state.rooms t.sort.constant t.sort s.at o (step s).at (pos_in a) t.state first.0 c, first.1 ▹ second ▹ rule_goes r s.at o v second.0)
  form_knows p o (prefix (before u) a) s is h c =
      let t = type_node a (step s) in
      let v = rule (changeable t.sort) (step s).at (pos_in a) t.state in
      let r = step_rule t.state.rooms t.sort in
      let first = node_knows a (step s) is.1 h (back (rule_grows (changeable t.sort) (step s).at (pos_in a) t.state) (back (rule_grows r s.at o v) c)) in
      let second = rule_goes (changeable t.sort) (step s).at (pos_in a) t.state first.1.0 in
      (step_there t.state.rooms t.sort s.at o (step s).at (pos_in a) t.state first.0 c, first.1 ▹ second ▹ rule_goes r s.at o v second.0)
  form_knows p o (prefix size_of a) s is h c =
      let t = type_node a (hushed (step s)) in
      let v = heard s.quiet t.state in
      let r = of_kind t.sort.kind (sized t.state.rooms) in
      let first = node_knows a (hushed (step s)) is.1 h (back (rule_grows r s.at o v) c) in
      (size_there t.state.rooms t.sort.kind s.at o v first.0 c, first.1 ▹ rule_goes r s.at o v first.1.0)
  form_knows p o (size_of_type y) s is h c =
      let t = type_type y (steps 2 s) in
      let v = step t.state in
      let r = of_kind t.kind (whole t.state.rooms) in
      let first = type_knows y (steps 2 s) is h (back (rule_grows r s.at o v) c) in
      (type_size_there t.state.rooms t.kind s.at o v first.0 c, first.1 ▹ rule_goes r s.at o v first.1.0)
  form_knows p o (cast y a) s is h c =
      let k = type_type y (step s) in
      let t = type_node a (step k.state) in
      let r = by 33 (cast_type k.kind t.sort.kind) in
      let late = back (rule_grows r s.at o t.state) c in
      let first = type_knows y (step s) is.0 h (back (node_grows a (step k.state)) late) in
      let second = node_knows a (step k.state) is.2 first.1.0 late in
      (cast_there k.kind t.sort.kind s.at o t.state first.0 second.0 c, first.1 ▹ second.1 ▹ rule_goes r s.at o t.state second.1.0)
  form_knows p o (suffix a (index e)) s is h c =
      let t = type_node a s in
      let v = type_node e (step t.state) in
      let r = element_rule v.state.rooms t.sort v.sort in
      let late = back (rule_grows r t.state.at o v.state) c in
      let first = node_knows a s is.1 h (back (node_grows e (step t.state)) late) in
      let second = node_knows e (step t.state) is.2 first.1.0 late in
      (element_there v.state.rooms t.sort v.sort t.state.at o v.state first.0 second.0 c, first.1 ▹ second.1 ▹ rule_goes r t.state.at o v.state second.1.0)
  form_knows p o (suffix a (field g x q)) s is h c =
      let t = type_node a s in
      let r = holder g t.state.rooms t.sort.kind in
      let v = step (rule r t.state.at o t.state) in
      let f = of_kind (kind_at r) (field_rule x t.state) in
      let first = node_knows a s is.1 h (back (rule_grows r t.state.at o t.state) (back (rule_grows f v.at q v) c)) in
      let second = rule_goes r t.state.at o t.state first.1.0 in
      (field_there g x t.sort t.state.at o q t.state first.0 c, first.1 ▹ second ▹ rule_goes f v.at q v second.0)
  form_knows p o (suffix a (behind u)) s is h c =
      let t = type_node a s in
      let v = rule (changeable t.sort) s.at (pos_in a) (step t.state) in
      let r = step_rule t.state.rooms t.sort in
      let first = node_knows a s is.1 h (back (rule_grows (changeable t.sort) s.at (pos_in a) (step t.state)) (back (rule_grows r t.state.at o v) c)) in
      let second = rule_goes (changeable t.sort) s.at (pos_in a) (step t.state) first.1.0 in
      (step_there t.state.rooms t.sort t.state.at o s.at (pos_in a) (step t.state) first.0 c, first.1 ▹ second ▹ rule_goes r t.state.at o v second.0)
  form_knows p o (two u a e) s is h c =
      let l = sided (left_of u) s in
      let t = type_node a l in
      let r = sided (right_of u t.sort.kind) (step t.state) in
      let v = type_node e r in
      let late = back (infix_grows t.state.at o s.at (pos_in a) u t.sort v.sort v.state) c in
      let first = node_knows a l is.2 h (back (node_grows e r) late) in
      let second = node_knows e r is.4 first.1.0 late in
      (infix_there t.state.at o s.at (pos_in a) u t.sort v.sort v.state first.0 second.0 c, first.1 ▹ second.1 ▹ infix_goes t.state.at o s.at (pos_in a) u t.sort v.sort v.state second.1.0)
  form_knows p o (choose a e g) s is h c =
      let t = type_node a s in
      let v = type_node e (step t.state) in
      let w = type_node g (step v.state) in
      let r = choice_rule t.sort v.sort w.sort in
      let late = back (rule_grows r t.state.at o w.state) c in
      let mid = back (node_grows g (step v.state)) late in
      let first = node_knows a s is.1 h (back (node_grows e (step t.state)) mid) in
      let second = node_knows e (step t.state) is.2 first.1.0 mid in
      let third = node_knows g (step v.state) is.4 second.1.0 late in
      (choice_there t.sort v.sort w.sort t.state.at o w.state first.0 second.0 third.0 c, first.1 ▹ second.1 ▹ third.1 ▹ rule_goes r t.state.at o w.state third.1.0)
  form_knows p o (probe (simple u x) a) s is h c =
      let v = steps 4 (claim u x s.at p s) in
      let t = type_node a v in
      let r = probe_rule u s.side t.sort in
      let first = claim_goes u x s.at p s h in
      let second = node_knows a v is.1 first.0 (back (rule_grows r s.at p t.state) c) in
      (probe_there u s.side t.sort.constant t.sort s.at p t.state second.0 c, first ▹ second.1 ▹ rule_goes r s.at p t.state second.1.0)
  form_knows p o (probe (select x cs) a) s is h c =
      let v = steps 3 (claim test x s.at p s) in
      let t = type_cases [] cs v in
      let w = type_node a (step t.state) in
      let clean = is_clean v w.state in
      let r = select_rule clean t.values w.sort in
      let late = back (rule_grows r s.at p w.state) c in
      let first = claim_goes test x s.at p s h in
      let early = back (node_grows a (step t.state)) late in
      let second = cases_know [] cs v is.0 first.0 early in
      let third = node_knows a (step t.state) is.1 second.0 late in
      (select_there clean t.values w.sort s.at p w.state (is_still_clean v w.state (back (cases_grow [] cs v) early) late) third.0 c, first ▹ second ▹ third.1 ▹ rule_goes r s.at p w.state third.1.0)

  pub arguments_know : {b : Bool} (gs : List Given) (es : NodeShapes) (s : State) → ShapedNodes 1 es → Knows b s → IsClean (type_arguments gs es s).state → Goes b s (type_arguments gs es s).state
  arguments_know gs no_nodes s is h c = stays s h
  arguments_know gs (more_nodes a rest) s is h c =
      let t = type_node a (step s) in
      let gs = gs ++ given_at (step s).at (pos_in a) t.sort ∷ [] in
      let first = node_knows a (step s) is.1 h (back (arguments_grows gs rest t.state) c) in
      first.1 ▹ arguments_know gs rest t.state is.2 first.1.0 c

  pub cases_know : {b : Bool} (vs : List (Option ℤ)) (es : NodeShapes) (s : State) → ShapedNodes 2 es → Knows b s → IsClean (type_cases vs es s).state → Goes b s (type_cases vs es s).state
  cases_know vs no_nodes s is h c = stays s h
  cases_know vs (more_nodes a rest) s is h c =
      let t = type_node a (step s) in
      let r = constant_rule t.sort in
      let v = rule r (step s).at (pos_in a) t.state in
      let vs = vs ++ constants.value t.sort.constant ∷ [] in
      let first = node_knows a (step s) is.1 h (back (rule_grows r (step s).at (pos_in a) t.state) (back (cases_grow vs rest v) c)) in
      let second = rule_goes r (step s).at (pos_in a) t.state first.1.0 in
      first.1 ▹ second ▹ cases_know vs rest v is.2 second.0 c

  pub type_knows : {b : Bool} (y : TypeShape) (s : State) → ShapedType y → Knows b s → IsClean (type_type y s).state → IsThere (type_type y s).kind × Goes b s (type_type y s).state
  type_knows (type_name p specs stars ls) s is h c =
      let t = type_specs false specs unspelled s in
      let r = spelled_rule t.spelled in
      let v = rule r s.at p t.state in
      let l = type_lengths [] ls (steps (star_tokens stars) v) in
      let late = back (lengths_grow [] ls (steps (star_tokens stars) v)) c in
      let first = specs_know false specs unspelled s (all_specs specs is.0) (inl refl) h (back (rule_grows r s.at p t.state) late) in
      let second = rule_goes r s.at p t.state first.1.0 in
      let k = type_there r s.at p t.state (spelled_settled t.spelled first.0) late in
      let third = lengths_know false [] ls (steps (star_tokens stars) v) is.1 tt second.0 c in
      (arrays_there l.counts (pointed stars (kind_at r)) third.0 (pointed_there stars (kind_at r) k), first.1 ▹ second ▹ third.1)

  pub lengths_know : {b : Bool} (free : Bool) (ls : List Length) (l : LengthShapes) (s : State) → ShapedLengths free l → AreClear free ls → Knows b s → IsClean (type_lengths ls l s).state
      → AreClear free (type_lengths ls l s).counts × Goes b s (type_lengths ls l s).state
  lengths_know free ls no_lengths s is a h c = (a, stays s h)
  lengths_know free ls (more_lengths no_node rest) s is a h c = lengths_know free (ls ++ left_out ∷ []) rest (steps 2 s) is.1 (clear_then free ls left_out a is.0) h c
  lengths_know free ls (more_lengths (one_node e) rest) s is a h c =
      let t = type_node e (step s) in
      let r = length_rule t.sort in
      let v = rule r (step s).at (pos_in e) t.state in
      let l = length_of t.sort in
      let late = back (lengths_grow (ls ++ l ∷ []) rest (step v)) c in
      let first = node_knows e (step s) is.1 h (back (rule_grows r (step s).at (pos_in e) t.state) late) in
      let second = rule_goes r (step s).at (pos_in e) t.state first.1.0 in
      let third = lengths_know free (ls ++ l ∷ []) rest (step v) is.2 (clear_then free ls l a (length_clear free t.sort (step s).at (pos_in e) t.state first.0 late)) second.0 c in
      (third.0, first.1 ▹ second ▹ third.1)

  pub specs_know : {b : Bool} (alone : Bool) (x : SpecShapes) (a : Spelled) (s : State) → AllSpecs x → IsTagged a → Knows b s → IsClean (type_specs alone x a s).state
      → IsTagged (type_specs alone x a s).spelled × Goes b s (type_specs alone x a s).state
  specs_know alone no_specs a s is g h c = (g, stays s h)
  specs_know alone (more_specs p (word k) rest) a s is g h c =
      let v = demand (static_fits k s.file) 37 s.at p s in
      let first = demand_goes (static_fits k s.file) 37 s.at p s h in
      let second = specs_know alone rest (with_word k a) (step v) is.1 (word_goes a k g) first.0 c in
      (second.0, first ▹ second.1)
  specs_know alone (more_specs p (struct t ds) rest) a s is g h c =
      let r = type_struct alone t ds (step s) in
      let first = struct_knows alone t ds (step s) is.0.1 is.0.2 h (back (specs_grow alone rest (with_tagged r.kind a) r.state) c) in
      let second = specs_know alone rest (with_tagged r.kind a) r.state is.1 (tag_goes a r.kind first.0) first.1.0 c in
      (second.0, first.1 ▹ second.1)
  specs_know alone (more_specs p (enum t es) rest) a s is g h c =
      let r = type_enum t es (step s) in
      let first = enum_knows t es (step s) is.0.2 h (back (specs_grow alone rest (with_tagged r.kind a) r.state) c) in
      let second = specs_know alone rest (with_tagged r.kind a) r.state is.1 (tag_goes a r.kind first.0) first.1.0 c in
      (second.0, first.1 ▹ second.1)

  pub struct_knows : {b : Bool} (alone : Bool) (t : Option Named) (ds : MaybeDecls) (s : State) → (is_there t || has_members ds) ≡ true → ShapedMembers ds → Knows b s → IsClean (type_struct alone t ds s).state
      → IsThere (type_struct alone t ds s).kind × Goes b s (type_struct alone t ds s).state
  struct_knows alone t no_members s some is h c =
      let o = opened alone false t s in
      let first = opened_goes alone false t s some h c in
      (number_there o.number first.0, first.1)
  struct_knows alone t (members ds) s some is h c =
      let o = opened alone true t s in
      let v = within (step (steps (tag_tokens t) (begun_at o.number o.state))) in
      let r = type_lines ds [] v in
      let late = back (closed_grows o.number r.fields r.state) c in
      let early = back (begun_grows o.number o.state) (back (lines_grow ds [] v) late) in
      let first = opened_goes alone true t s some h early in
      let second = begun_goes o.number o.state first.1.0 in
      let third = lines_know ds [] v (members_shaped ds is) second.0 late in (
        kept_if (is_clean s r.state) (structure_kind o.number) (is_still_clean s r.state (back (opened_grows alone true t s) early) late) (number_there o.number first.0),
        first.1 ▹ second ▹ third ▹ closed_goes o.number r.fields r.state third.0,
      )

  pub lines_know : {b : Bool} (ds : DeclShapes) (fields : List FieldShape) (s : State) → ShapedDecls in_members ds → Knows b s → IsClean (type_lines ds fields s).state → Goes b s (type_lines ds fields s).state
  lines_know no_decls fields s is h c = stays s h
  lines_know (more_decls (decl p specs names) rest) fields s is h c =
      let t = type_specs false specs unspelled s in
      let r = spelled_rule t.spelled in
      let v = rule r s.at p t.state in
      let n = type_fields p (kind_at r) names fields v in
      let parts = decl_parts in_members p specs names is.0 in
      let late = back (lines_grow rest n.fields n.state) c in
      let first = specs_know false specs unspelled s (all_specs specs parts.0) (inl refl) h (back (rule_grows r s.at p t.state) (back (fields_grow p (kind_at r) names fields v) late)) in
      let second = rule_goes r s.at p t.state first.1.0 in
      let third = fields_know p (kind_at r) names fields v parts.1 second.0 late in
      first.1 ▹ second ▹ third ▹ lines_know rest n.fields n.state is.1 third.0 c

  pub fields_know : {b : Bool} (p : Pos) (k : Option TypeOf) (names : DeclaratorShapes) (fields : List FieldShape) (s : State) → ShapedDeclarators in_members names → Knows b s → IsClean (type_fields p k names fields s).state
      → Goes b s (type_fields p k names fields s).state
  fields_know p k no_declarators fields s is h c = stays s h
  fields_know p k (more_declarators (declarator stars x (arrays ls) i) rest) fields s is h c =
      let v = steps (star_tokens stars) s in
      let l = type_lengths [] ls (step v) in
      let t = arrays_of l.counts (pointed stars k) in
      let free = is_free (field_type (text_of x) fields) in
      let w = field_state v.at (name_pos p x) free t l.state in
      let late = back (fields_grow p k rest (with_field free (text_of x) t fields) (step w)) c in
      let first = lengths_know false [] ls (step v) is.0.1 tt h (back (field_grows v.at (name_pos p x) free t l.state) late) in
      let second = field_goes v.at (name_pos p x) free t l.state first.1.0 in
      first.1 ▹ second ▹ fields_know p k rest (with_field free (text_of x) t fields) (step w) is.1 second.0 c
  fields_know p k (more_declarators (declarator stars x (function ps) i) rest) fields s is h c =
      let v = steps (star_tokens stars) s in
      fields_know p k rest fields (complain 33 v.at (name_pos p x) (step v)) is.1 h c

  pub enum_knows : {b : Bool} (t : Option Named) (es : MaybeEnumers) (s : State) → ShapedRows es → Knows b s → IsClean (type_enum t es s).state → IsThere (type_enum t es s).kind × Goes b s (type_enum t es s).state
  enum_knows t no_rows s is h c =
      let v = enumeration false t s in
      (kept_if (is_clean s v) (Some (int Int)) (is_still_clean s v (back (enumeration_grows false t s) c) c) tt, enumeration_goes false t s h)
  enum_knows t (rows es) s is h c =
      let v = step (steps (tag_tokens t) (enumeration true t s)) in
      let r = rows_types (Some (pos 0)) es v in
      let early = back (enumeration_grows true t s) (back (rows_grow (Some (pos 0)) es v) c) in
      let first = enumeration_goes true t s h in
      (kept_if (is_clean s r.state) (Some (int Int)) (is_still_clean s r.state early c) tt, first ▹ rows_know (Some (pos 0)) es v (rows_shaped es is) tt first.0 c)

  pub rows_know : {b : Bool} (next : Option ℤ) (es : EnumerShapes) (s : State) → ShapedEnumers es → IsThere next → Knows b s → IsClean (rows_types next es s).state → Goes b s (rows_types next es s).state
  rows_know next no_enumers s is k h c = stays s h
  rows_know {b} next (more_enumers x v rest) s is k h c =
      let r = type_value s.at x.pos next v (step s) in
      let d = declare s.at x.pos x.text (entity_of r.value) r.state in
      let here = find_here x.text r.state.names in
      let late = back (rows_grow (after r.value) rest (step d)) c in
      let first = value_knows s.at x.pos next v (step s) is.1 k h (back (declared_grows s.at x.pos x.text (entity_of r.value) here r.state) late) in
      let second = declared_goes s.at x.pos x.text (entity_of r.value) here r.state (entity_sure b (length r.state.tables.functions) r.value first.0) first.1.0 in
      first.1 ▹ second ▹ rows_know (after r.value) rest (step d) is.2 (after_there r.value first.0) second.0 c

  pub value_knows : {b : Bool} (token : ℕ) (p : Pos) (next : Option ℤ) (v : MaybeNode) (s : State) → ShapedMaybe 2 v → IsThere next → Knows b s → IsClean (type_value token p next v s).state
      → IsThere (type_value token p next v s).value × Goes b s (type_value token p next v s).state
  value_knows token p next no_node s is k h c = (next_there token p next s k c, demand_goes (not (passes next)) 35 token p s h)
  value_knows token p next (one_node a) s is k h c =
      let t = type_node a (step s) in
      let r = value_rule t.sort in
      let first = node_knows a (step s) is.1 h (back (rule_grows r (step s).at (pos_in a) t.state) c) in
      (given_there t.sort (step s).at (pos_in a) t.state first.0 c, first.1 ▹ rule_goes r (step s).at (pos_in a) t.state first.1.0)
