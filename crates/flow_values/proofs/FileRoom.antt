-- Each variable of file scope has room, where nothing is complained of.
use Rattle.std.proofs.Common.{◌≡◌, ℕ, suc, inl, List, [], ◌∷◌, ◌++◌, length, length-append, Bool, true, false, Option, Some, None, refl, sym, ap, ◌∙◌, subst, arith}
use Rattle.std.specs.Prelude.{◌||◌, nat_eq}
use Rattle.c_base.specs.declared.place.Pos.{Pos}
use Rattle.c_syntax.specs.declared.text.Text.{Text}
use Rattle.c_syntax.specs.declared.tree.Named.{Named}
use Rattle.c_syntax.specs.declared.tree.Star.{Star}
use Rattle.c_syntax.specs.Shape.{TypeOf, LengthShapes, DeclShape, decl, DeclaratorShape, declarator, DeclaratorShapes, no_declarators, more_declarators, arrays, function, MaybeInit}
use Rattle.c_syntax.specs.Shaped.{ShapedLengths, in_names, ShapedInitOf, ShapedDecl, ShapedDeclarator, ShapedDeclarators}
use Rattle.c_scopes.specs.Scoping.{find_here}
use Rattle.c_type_rules.specs.Layouts.{Extent, Measure, known, incomplete, too_large, measure}
use Rattle.c_tables.specs.Tables.{VariableShape, TablesShape}
use Rattle.c_tables.specs.Rows.{first_place, row, text_of, name_pos}
use Rattle.c_tree.specs.declared.meaning.Entity.{Entity}
use Rattle.c_tree.specs.State.{State, step, steps, complain}
use Rattle.c_tree.specs.Rulings.{Ruled, allowed, unsettled, refused, kind_at, of_kind, by_room, rule}
use Rattle.c_tree.specs.Parts.{unspelled, spelled_rule, star_tokens, pointed}
use Rattle.c_tree.specs.Typing.{type_specs, type_lengths}
use Rattle.c_tree.specs.Initialisers.{lengths_with}
use Rattle.c_tree.specs.Declaring.{name_tokens, claim_name, token_of_name, with_variable, variable_at, declare_variable, with_lengths, room_rule, variable_rule, has_init, type_maybe_init, type_variable, type_declarator, type_declarators, none_declared, semicolon, type_decl}
use Rattle.c_tree.proofs.Grows.{rule_grows}
use Rattle.c_tree.proofs.GrowsUnits.{maybe_init_grows, variable_at_grows, declarators_grow}
use Rattle.probe_laws.proofs.Settled.{IsThere, IsClean, mended, type_there}
use Rattle.probe_laws.proofs.Rules.{back}
use Rattle.probe_laws.proofs.Known.{Knows, Goes, stays, ◌▹◌, rule_goes}
use Rattle.probe_laws.proofs.KnownParts.{pointed_there, spelled_settled}
use Rattle.probe_laws.proofs.KnownNodes.{all_specs, decl_parts, lengths_know, specs_know}
use Rattle.probe_laws.proofs.FitDecls.{name_goes, variable_at_goes, with_clear, variable_settled, function_fits}
use Rattle.flow_initial.proofs.Filling.{Filled, lengths_counted, with_counted, pointed_filled, specs_filled, variable_filled}
use Rattle.flow_initial.proofs.Cores.{core, ◌▸◌}
use Rattle.flow_initial.proofs.KeepsNodes as nodes
use Rattle.flow_initial.proofs.KeepsParts as parts
use Rattle.flow_initial.proofs.KeepsUnits as units
use Rattle.flow_values.proofs.Reaching.{next_row, Variables, none_added}
use Rattle.flow_values.proofs.Knowing.{maybe_init_knows}
use Rattle.flow_values.specs.Made.{HasRoom}
use Rattle.flow_values.proofs.Ending.{IsFine, onward, EndsIn, earlier, known_room, Between, between_none, between_both}

-- ---- what is allowed is known

room_known : (m : Measure) (k y : TypeOf) → kind_at (by_room m k) ≡ Some y → (k ≡ y) × (e : Extent) × (m ≡ known e)
room_known (known e) k y h = (cc, e, refl)
room_known incomplete k y h = cc
room_known too_large k y h = cc

rule_known : (rooms : List Measure) (r : Ruled) (y : TypeOf) → kind_at (room_rule rooms r) ≡ Some y → (e : Extent) × (measure rooms y ≡ known e)
rule_known rooms (allowed k) y h = let one = room_known (measure rooms k) k y h in (one.1, subst (λ z. measure rooms z ≡ known one.1) one.0 one.2)
rule_known rooms unsettled y h = cc
rule_known rooms (refused n) y h = cc

some_of : (k : Option TypeOf) → IsThere k → (y : TypeOf) × (k ≡ Some y)
some_of None h = absurd h
some_of (Some y) h = (y, refl)

module _ (t : TablesShape) where
  abbrev pub HaveRoomTo : ℕ → ℕ → Type 0
  HaveRoomTo p q = Between t (λ n v. HasRoom t v.kind) p q

  -- ---- variables

  declared_room : (c : Bool) (token : ℕ) (p : Pos) (x : Text) (k : Option TypeOf) (o : Option Entity) (i : MaybeInit) (u : State) (y : TypeOf) → k ≡ Some y → HasRoom t y
      → EndsIn t (core (type_maybe_init c k i (variable_at token p x k o u)).state) → IsClean (type_maybe_init c k i (variable_at token p x k o u)).state
      → HaveRoomTo (length u.tables.variables) (length (type_maybe_init c k i (variable_at token p x k o u)).state.tables.variables)
  declared_room c token p x None o i u y e has ends clean n v low high at owner = cc
  declared_room c token p x (Some k) (Some o) i u y e has ends clean n v low high at owner = absurd (mended 31 token p u (back (maybe_init_grows c (Some k) i (complain 31 token p u)) clean))
  declared_room c token p x (Some k) None i u y e has ends clean n v low high at owner =
      let d = with_variable x (Some k) u in
      let w : VariableShape = record { name = x; kind = k; function = u.function } in
      let same = parts.maybe_init_keeps (Variables d.tables.variables) (none_added d.tables.variables) c (Some k) i d refl in
      let size = ap length same in
      let last : n ≡ suc (length u.tables.variables) = omega (arith, low, high, size, length-append u.tables.variables (w ∷ [])) in
      let there = ap (λ vs. row vs (suc (length u.tables.variables))) (ends.0.added ∙ ap (λ vs. vs ++ ends.0.more) same) ∙ next_row u.tables.variables w ends.0.more (length u.tables.variables) refl in
      let this : w ≡ v = let both = sym there ∙ (ap (λ m. row t.variables m) (sym last) ∙ at) in cc in
      let kind : k ≡ v.kind = ap (λ (z : VariableShape). z.kind) this in
      let other : k ≡ y = cc in
      subst (HasRoom t) (sym other ∙ kind) has

  variable_room : (may : Bool) (k : Option TypeOf) (stars : List Star) (x : Option Named) (ls : LengthShapes) (i : MaybeInit) (s : State) → ShapedLengths true ls → ShapedInitOf may i → IsThere k → Filled k → Knows false s → IsFine (core s)
      → EndsIn t (core (type_variable k stars x ls i s).state) → IsClean (type_variable k stars x ls i s).state
      → Goes false s (type_variable k stars x ls i s).state × HaveRoomTo (length s.tables.variables) (length (type_variable k stars x ls i s).state.tables.variables)
  variable_room may k stars x ls i s is its there filled h g ends c =
      let a = steps (star_tokens stars) s in
      let fit = nat_eq s.function 0 || has_init i in
      let v = steps (name_tokens x) (claim_name fit x a) in
      let l = type_lengths [] ls v in
      let token = token_of_name a.at x a in
      let p = name_pos first_place x in
      let counts = lengths_with i l.counts in
      let r = variable_rule l.state.rooms counts (pointed stars k) in
      let u = rule r token p l.state in
      let here = find_here (text_of x) u.names in
      let d = declare_variable token p (text_of x) (kind_at r) u in
      let f = nat_eq s.function 0 in
      let final = (type_maybe_init f (kind_at r) i d).state in
      let declared = back (maybe_init_grows f (kind_at r) i d) c in
      let ruled = back (variable_at_grows token p (text_of x) (kind_at r) here u) declared in
      let first_of = name_goes fit x a h in
      let second = lengths_know true [] ls v is tt first_of.0 (back (rule_grows r token p l.state) ruled) in
      let third = rule_goes r token p l.state second.1.0 in
      let typed = type_there r token p l.state (variable_settled l.state.rooms counts (pointed stars k) (with_clear i l.counts second.0) (pointed_there stars k there)) ruled in
      let fourth = variable_at_goes token p (text_of x) (kind_at r) here u typed third.0 in
      let fifth = maybe_init_knows may f (kind_at r) i d its fourth.0 c in
      let shape = variable_filled l.state.rooms counts (pointed stars k) (with_counted may i l.counts its (lengths_counted [] ls v tt)) (pointed_filled stars k filled) in
      let to_lengths = onward s l.state (λ J kept. parts.name_keeps J kept.all.types fit x a ▸ nodes.lengths_keep J kept.all.types [] ls v) g in
      let near = earlier t l.state final (λ J kept. nodes.rule_keeps J kept.all.types r token p l.state ▸ units.variable_at_keeps J kept.all token p (text_of x) (kind_at r) here u shape ▸ parts.maybe_init_keeps J kept.all.types f (kind_at r) i d) to_lengths ends in
      let kind = some_of (kind_at r) typed in
      let known = rule_known l.state.rooms (of_kind (pointed stars k) (with_lengths counts)) kind.0 kind.1 in
      let vs = s.tables.variables in
      let same = nodes.rule_keeps (Variables vs) (none_added vs) r token p l.state (nodes.lengths_keep (Variables vs) (none_added vs) [] ls v (parts.name_keeps (Variables vs) (none_added vs) fit x a refl)) in
      let one = declared_room f token p (text_of x) (kind_at r) here i u kind.0 kind.1 (known_room t l.state kind.0 known.0 to_lengths near known.1) ends c in
      (first_of ▹ second.1 ▹ third ▹ fourth ▹ fifth, subst (λ n. HaveRoomTo n (length final.tables.variables)) (ap length same) one)

  -- ---- declarations

  declarator_room : (k : Option TypeOf) (d : DeclaratorShape) (s : State) → ShapedDeclarator in_names d → IsThere k → Filled k → Knows false s → IsFine (core s) → EndsIn t (core (type_declarator k d s).state) → IsClean (type_declarator k d s).state
      → Goes false s (type_declarator k d s).state × HaveRoomTo (length s.tables.variables) (length (type_declarator k d s).state.tables.variables)
  declarator_room k (declarator stars x (arrays ls) i) s is there filled h g ends clean = variable_room true k stars x ls i s is.1 is.2 there filled h g ends clean
  declarator_room k (declarator stars x (function ps) i) s is there filled h g ends clean =
      let vs = s.tables.variables in
      ((function_fits false k stars x ps i s is.1.1 there h clean).0, between_none t _ (length vs) _ (sym (ap length (parts.function_keeps (Variables vs) (none_added vs) false k stars x ps i s refl))))

  declarators_room : (k : Option TypeOf) (ds : DeclaratorShapes) (s : State) → ShapedDeclarators in_names ds → IsThere k → Filled k → Knows false s → IsFine (core s) → EndsIn t (core (type_declarators k ds s).state) → IsClean (type_declarators k ds s).state
      → Goes false s (type_declarators k ds s).state × HaveRoomTo (length s.tables.variables) (length (type_declarators k ds s).state.tables.variables)
  declarators_room k no_declarators s is there filled h g ends clean = (stays s h, between_none t _ (length s.tables.variables) (length s.tables.variables) refl)
  declarators_room k (more_declarators d rest) s is there filled h g ends clean =
      let y = type_declarator k d s in
      let u = step y.state in
      let z = type_declarators k rest u in
      let fine = onward s y.state (λ J kept. units.declarator_keeps J kept.all k d s is.0 filled) g in
      let near = earlier t u z.state (λ J kept. units.declarators_keep J kept.all k rest u is.1 filled) fine ends in
      let one = declarator_room k d s is.0 there filled h g near (back (declarators_grow k rest u) clean) in
      let two = declarators_room k rest u is.1 there filled one.0.0 fine ends clean in
      (one.0 ▹ two.0, between_both t (λ n v. HasRoom t v.kind) (length s.tables.variables) (length y.state.tables.variables) (length z.state.tables.variables) one.1 two.1)

  pub decl_room : (d : DeclShape) (s : State) → ShapedDecl in_names d → Knows false s → IsFine (core s) → EndsIn t (core (type_decl d s).state) → IsClean (type_decl d s).state
      → Goes false s (type_decl d s).state × HaveRoomTo (length s.tables.variables) (length (type_decl d s).state.tables.variables)
  decl_room (decl p specs names) s is h g ends clean =
      let y = type_specs (none_declared names) specs unspelled s in
      let r = spelled_rule y.spelled in
      let w = rule r s.at p y.state in
      let v = steps (semicolon names) w in
      let final = (type_declarators (kind_at r) names v).state in
      let ruled = back (declarators_grow (kind_at r) names v) clean in
      let shaped = decl_parts in_names p specs names is in
      let one = specs_know (none_declared names) specs unspelled s (all_specs specs shaped.0) (inl refl) h (back (rule_grows r s.at p y.state) ruled) in
      let two = rule_goes r s.at p y.state one.1.0 in
      let spelled = type_there r s.at p y.state (spelled_settled y.spelled one.0) ruled in
      let fine = onward s v (λ J kept. nodes.specs_keep J kept.all.types (none_declared names) specs unspelled s ▸ nodes.rule_keeps J kept.all.types r s.at p y.state) g in
      let vs = s.tables.variables in
      let same = nodes.rule_keeps (Variables vs) (none_added vs) r s.at p y.state (nodes.specs_keep (Variables vs) (none_added vs) (none_declared names) specs unspelled s refl) in
      let three = declarators_room (kind_at r) names v shaped.1 spelled (specs_filled (none_declared names) specs s) two.0 fine ends clean in
      (one.1 ▹ two ▹ three.0, subst (λ n. HaveRoomTo n (length final.tables.variables)) (ap length same) three.1)
