-- Each declarator in a function has the row that the walk counts for it, with the type that typing gave it.
use Rattle.std.proofs.Common.{◌≡◌, ℕ, suc, inl, List, [], ◌∷◌, ◌++◌, length, length-append, Bool, true, false, Option, Some, None, refl, sym, ap, ◌∙◌, subst, arith}
use Rattle.std.specs.Prelude.{◌||◌, nat_eq}
use Rattle.c_base.specs.declared.place.Pos.{Pos}
use Rattle.c_syntax.specs.declared.text.Text.{Text}
use Rattle.c_syntax.specs.declared.tree.Named.{Named}
use Rattle.c_syntax.specs.declared.tree.Star.{Star}
use Rattle.c_syntax.specs.Shape.{TypeOf, LengthShapes, DeclShape, decl, DeclShapes, no_decls, more_decls, DeclaratorShape, declarator, DeclaratorShapes, no_declarators, more_declarators, arrays, function, MaybeInit, no_init, one_init}
use Rattle.c_syntax.specs.Shaped.{ShapedLengths, in_names, ShapedInitOf, ShapedDecl, ShapedDecls, ShapedDeclarator, ShapedDeclarators}
use Rattle.c_scopes.specs.Scoping.{find_here}
use Rattle.c_tables.specs.Tables.{VariableShape, TablesShape}
use Rattle.c_tables.specs.Rows.{first_place, row, text_of, name_pos}
use Rattle.c_tree.specs.declared.meaning.Entity.{Entity}
use Rattle.c_tree.specs.State.{State, step, steps, complain}
use Rattle.c_tree.specs.Rulings.{kind_at, rule}
use Rattle.c_tree.specs.Parts.{unspelled, spelled_rule, star_tokens, pointed}
use Rattle.c_tree.specs.Typing.{type_specs, type_lengths}
use Rattle.c_tree.specs.Initialisers.{lengths_with}
use Rattle.c_tree.specs.Declaring.{name_tokens, claim_name, token_of_name, with_variable, variable_at, declare_variable, variable_rule, has_init, type_maybe_init, type_variable, type_declarator, type_declarators, none_declared, semicolon, type_decl, type_decls}
use Rattle.c_tree.proofs.Grows.{rule_grows}
use Rattle.c_tree.proofs.GrowsUnits.{maybe_init_grows, variable_at_grows, declarators_grow, decls_grow}
use Rattle.c_walk.specs.declared.around.Around.{Around}
use Rattle.c_walk.specs.Walked.{Walked}
use Rattle.c_walk.specs.Stating.{walk_declarator, walk_declarators, walk_decl, walk_decls}
use Rattle.c_meaning.specs.State.{Bound}
use Rattle.c_meaning.specs.Layout.{kind_in, variable_kind}
use Rattle.c_meaning.proofs.Declared.{declarator_count}
use Rattle.probe_laws.proofs.Settled.{IsThere, IsClean, mended, type_there}
use Rattle.probe_laws.proofs.Rules.{back}
use Rattle.probe_laws.proofs.Known.{Knows, Goes, stays, ◌▹◌, rule_goes}
use Rattle.probe_laws.proofs.KnownParts.{pointed_there, spelled_settled}
use Rattle.probe_laws.proofs.KnownNodes.{all_specs, decl_parts, lengths_know, specs_know}
use Rattle.probe_laws.proofs.FitDecls.{name_goes, with_variable_goes, variable_at_goes, with_clear, variable_settled, function_fits}
use Rattle.flow_values.specs.Initialised.{HasInitial, InDeclarator, InDeclarators, InDecl, InDecls}
use Rattle.flow_initial.proofs.Filling.{Filled, lengths_counted, with_counted, pointed_filled, specs_filled, variable_filled}
use Rattle.flow_initial.proofs.Cores.{core, ◌▸◌}
use Rattle.flow_initial.proofs.KeepsNodes as nodes
use Rattle.flow_initial.proofs.KeepsParts as parts
use Rattle.flow_initial.proofs.KeepsUnits as units
use Rattle.flow_values.specs.Bodies.{Good, Reaches, InitsGive}
use Rattle.flow_values.proofs.Reaching.{passed, before, next_row, Variables, none_added, by_types}
use Rattle.flow_values.proofs.Knowing.{maybe_init_knows}

-- names are known behind it, the walk has counted the rows, and that holds of its variables
abbrev pub Step : State → State → Walked → Type 0 → Type 0
Step s u w P = Goes false s u × (w.variables ≡ length u.tables.variables) × P

module _ (t : TablesShape) (b : List Bound) (given : InitsGive t b) where
  -- ---- variables

  init_in : (may c : Bool) (y : TypeOf) (i : MaybeInit) (s : State) → ShapedInitOf may i → Knows false s → Good (core s) → Filled (Some y) → Reaches t (core (type_maybe_init c (Some y) i s).state)
      → IsClean (type_maybe_init c (Some y) i s).state → HasInitial t b (Some y) (type_maybe_init c (Some y) i s).init
  init_in may c y no_init s is h g filled reach clean = tt
  init_in may c y (one_init i) s is h g filled reach clean = given c y i (step s) is.1 h g filled reach clean

  declared_in : (may c : Bool) (token : ℕ) (p : Pos) (x : Text) (k : Option TypeOf) (o : Option Entity) (i : MaybeInit) (u : State) (n : ℕ) → ShapedInitOf may i → IsThere k → Filled k → Knows false u → Good (core u)
      → Reaches t (core (type_maybe_init c k i (variable_at token p x k o u)).state) → IsClean (type_maybe_init c k i (variable_at token p x k o u)).state → n ≡ length u.tables.variables
      → (suc n ≡ length (type_maybe_init c k i (variable_at token p x k o u)).state.tables.variables) × HasInitial t b (variable_kind t (suc n)) (type_maybe_init c k i (variable_at token p x k o u)).init
  declared_in may c token p x None o i u n is there filled h g reach clean e = absurd there
  declared_in may c token p x (Some y) (Some o) i u n is there filled h g reach clean e = absurd (mended 31 token p u (back (maybe_init_grows c (Some y) i (complain 31 token p u)) clean))
  declared_in may c token p x (Some y) None i u n is there filled h g reach clean e =
      let d = with_variable x (Some y) u in
      let j = type_maybe_init c (Some y) i d in
      let v : VariableShape = record { name = x; kind = y; function = u.function } in
      let same = parts.maybe_init_keeps (Variables d.tables.variables) (none_added d.tables.variables) c (Some y) i d refl in
      let at_row = ap (λ vs. row vs (suc n)) (reach.added ∙ ap (λ vs. vs ++ reach.more) same) ∙ next_row u.tables.variables v reach.more n e in
      let good = (passed u d (λ J kept. kept.declaring x y u filled) g).1 in
      let one = init_in may c y i d is (with_variable_goes x (Some y) u tt h).0 good filled reach clean in
      (omega (arith, e, ap length same, length-append u.tables.variables (v ∷ [])), subst (λ k. HasInitial t b k j.init) (sym (ap kind_in at_row)) one)

  variable_in : (may : Bool) (k : Option TypeOf) (stars : List Star) (x : Option Named) (ls : LengthShapes) (i : MaybeInit) (s : State) (w : Walked) → ShapedLengths true ls → ShapedInitOf may i → IsThere k → Filled k → Knows false s
      → Good (core s) → Reaches t (core (type_variable k stars x ls i s).state) → IsClean (type_variable k stars x ls i s).state → w.variables ≡ length s.tables.variables
      → Goes false s (type_variable k stars x ls i s).state × (suc w.variables ≡ length (type_variable k stars x ls i s).state.tables.variables) × InDeclarator t b (type_variable k stars x ls i s).name w
  variable_in may k stars x ls i s w is its there filled h g reach c e =
      let a = steps (star_tokens stars) s in
      let fit = nat_eq s.function 0 || has_init i in
      let v = steps (name_tokens x) (claim_name fit x a) in
      let l = type_lengths [] ls v in
      let token = token_of_name a.at x a in
      let p = name_pos first_place x in
      let counts = lengths_with i l.counts in
      let r = variable_rule l.state.rooms counts (pointed stars k) in
      let u = rule r token p l.state in
      let here = find_here (text_of x) u.names in
      let d = declare_variable token p (text_of x) (kind_at r) u in
      let f = nat_eq s.function 0 in
      let declared = back (maybe_init_grows f (kind_at r) i d) c in
      let ruled = back (variable_at_grows token p (text_of x) (kind_at r) here u) declared in
      let first_of = name_goes fit x a h in
      let second = lengths_know true [] ls v is tt first_of.0 (back (rule_grows r token p l.state) ruled) in
      let third = rule_goes r token p l.state second.1.0 in
      let typed = type_there r token p l.state (variable_settled l.state.rooms counts (pointed stars k) (with_clear i l.counts second.0) (pointed_there stars k there)) ruled in
      let fourth = variable_at_goes token p (text_of x) (kind_at r) here u typed third.0 in
      let fifth = maybe_init_knows may f (kind_at r) i d its fourth.0 c in
      let shape = variable_filled l.state.rooms counts (pointed stars k) (with_counted may i l.counts its (lengths_counted [] ls v tt)) (pointed_filled stars k filled) in
      let good = by_types s u (λ J kept. parts.name_keeps J kept fit x a ▸ nodes.lengths_keep J kept [] ls v ▸ nodes.rule_keeps J kept r token p l.state) g in
      let one = declared_in may f token p (text_of x) (kind_at r) here i u w.variables its typed shape third.0 good.0 reach c (e ∙ good.1) in
      (first_of ▹ second.1 ▹ third ▹ fourth ▹ fifth, one.0, one.1)

  -- ---- declarations

  declarator_in : (c : Around) (k : Option TypeOf) (d : DeclaratorShape) (s : State) (w : Walked) → ShapedDeclarator in_names d → IsThere k → Filled k → Knows false s → Good (core s) → Reaches t (core (type_declarator k d s).state)
      → IsClean (type_declarator k d s).state → w.variables ≡ length s.tables.variables
      → Step s (type_declarator k d s).state (walk_declarator t c (type_declarator k d s).name w) (InDeclarator t b (type_declarator k d s).name w)
  declarator_in c k (declarator stars x (arrays ls) i) s w is there filled h g reach clean e =
      let one = variable_in true k stars x ls i s w is.1 is.2 there filled h g reach clean e in
      (one.0, omega (arith, one.1, declarator_count t c (type_variable k stars x ls i s).name w), one.2)
  declarator_in c k (declarator stars x (function ps) i) s w is there filled h g reach clean e =
      let one = function_fits false k stars x ps i s is.1.1 there h clean in
      let vs = s.tables.variables in
      (one.0, e ∙ sym (ap length (parts.function_keeps (Variables vs) (none_added vs) false k stars x ps i s refl)), tt)

  declarators_in : (c : Around) (k : Option TypeOf) (ds : DeclaratorShapes) (s : State) (w : Walked) → ShapedDeclarators in_names ds → IsThere k → Filled k → Knows false s → Good (core s) → Reaches t (core (type_declarators k ds s).state)
      → IsClean (type_declarators k ds s).state → w.variables ≡ length s.tables.variables
      → Step s (type_declarators k ds s).state (walk_declarators t c (type_declarators k ds s).names w) (InDeclarators t b c (type_declarators k ds s).names w)
  declarators_in c k no_declarators s w is there filled h g reach clean e = (stays s h, e, tt)
  declarators_in c k (more_declarators d rest) s w is there filled h g reach clean e =
      let y = type_declarator k d s in
      let u = step y.state in
      let good = (passed s y.state (λ J kept. units.declarator_keeps J kept k d s is.0 filled) g).1 in
      let near = before t (core u) (core (type_declarators k rest u).state) (passed u (type_declarators k rest u).state (λ J kept. units.declarators_keep J kept k rest u is.1 filled) good).0 reach in
      let one = declarator_in c k d s w is.0 there filled h g near (back (declarators_grow k rest u) clean) e in
      let two = declarators_in c k rest u (walk_declarator t c y.name w) is.1 there filled one.0.0 good reach clean one.1 in
      (one.0 ▹ two.0, two.1, (one.2, two.2))

  pub decl_in : (c : Around) (d : DeclShape) (s : State) (w : Walked) → ShapedDecl in_names d → Knows false s → Good (core s) → Reaches t (core (type_decl d s).state) → IsClean (type_decl d s).state → w.variables ≡ length s.tables.variables
      → Step s (type_decl d s).state (walk_decl t c (type_decl d s).decl w) (InDecl t b c (type_decl d s).decl w)
  decl_in c (decl p specs names) s w is h g reach clean e =
      let y = type_specs (none_declared names) specs unspelled s in
      let r = spelled_rule y.spelled in
      let v = steps (semicolon names) (rule r s.at p y.state) in
      let ruled = back (declarators_grow (kind_at r) names v) clean in
      let shaped = decl_parts in_names p specs names is in
      let one = specs_know (none_declared names) specs unspelled s (all_specs specs shaped.0) (inl refl) h (back (rule_grows r s.at p y.state) ruled) in
      let two = rule_goes r s.at p y.state one.1.0 in
      let spelled = type_there r s.at p y.state (spelled_settled y.spelled one.0) ruled in
      let good = by_types s v (λ J kept. nodes.specs_keep J kept (none_declared names) specs unspelled s ▸ nodes.rule_keeps J kept r s.at p y.state) g in
      let three = declarators_in c (kind_at r) names v w shaped.1 spelled (specs_filled (none_declared names) specs s) two.0 good.0 reach clean (e ∙ good.1) in
      (one.1 ▹ two ▹ three.0, three.1, three.2)

  pub decls_in : (c : Around) (ds : DeclShapes) (s : State) (w : Walked) → ShapedDecls in_names ds → Knows false s → Good (core s) → Reaches t (core (type_decls ds s).state) → IsClean (type_decls ds s).state → w.variables ≡ length s.tables.variables
      → Step s (type_decls ds s).state (walk_decls t c (type_decls ds s).decls w) (InDecls t b c (type_decls ds s).decls w)
  decls_in c no_decls s w is h g reach clean e = (stays s h, e, tt)
  decls_in c (more_decls d rest) s w is h g reach clean e =
      let y = type_decl d s in
      let good = (passed s y.state (λ J kept. units.decl_keeps J kept d s is.0) g).1 in
      let near = before t (core y.state) (core (type_decls rest y.state).state) (passed y.state (type_decls rest y.state).state (λ J kept. units.decls_keep J kept rest y.state is.1) good).0 reach in
      let one = decl_in c d s w is.0 h g near (back (decls_grow rest y.state) clean) e in
      let two = decls_in c rest y.state (walk_decl t c y.decl w) is.1 one.0.0 good reach clean one.1 in
      (one.0 ▹ two.0, two.1, (one.2, two.2))
