-- Initialisers, parameters, functions and declarations without probes are typed alike from states that are alike.
use Rattle.std.proofs.Common.{◌≡◌, ℕ, List, [], ◌∷◌, Option, Some, None, Bool, true, false, refl, sym, ap, ap₂, subst}
use Rattle.std.specs.Prelude.{nat_eq, nat_le, ◌||◌}
use Rattle.c_base.specs.declared.place.Pos.{Pos}
use Rattle.c_base.specs.declared.place.IntKind.TheVariants.{Char}
use Rattle.c_syntax.specs.declared.tree.Named.{Named}
use Rattle.c_syntax.specs.declared.tree.Star.{Star}
use Rattle.c_syntax.specs.Shape.{TypeOf, int, NodeShape, LengthShapes, SpecShapes, DeclShape, decl, DeclShapes, no_decls, more_decls, DeclaratorShape, declarator, DeclaratorShapes, no_declarators, more_declarators, arrays, function, ParamsShape, empty, void, params, MaybeInit, no_init, one_init, InitShape, one, listed, InitShapes, no_inits, more_inits}
use Rattle.c_tables.specs.Rows.{first_place, text_of, name_pos}
use Rattle.c_tree.specs.State.{Seen, State, steps, step, complain}
use Rattle.c_tree.specs.Rulings.{rule, kind_at, of_kind, allowed_if}
use Rattle.c_tree.specs.Sorts.{pos_in}
use Rattle.c_tree.specs.Parts.{pointed, star_tokens, unspelled, spelled_rule}
use Rattle.c_tree.specs.Initialisers.{lengths_with, TypedInit, chars_of, filled, form_in, constant_init, fits, one_init_of, Slots, slots, list_rule, slot, slot_rule, further, init_pos, TypedInits, list_end, type_init, type_inits}
use Rattle.c_tree.specs.Declaring.{name_tokens, token_of_name, has_init, TypedMaybeInit, type_maybe_init, TypedDeclarator, type_variable, TypedParam, TypedParams, type_param, type_param_list, TypedSignature, type_params, TypedFunction, type_function, type_declarator, TypedDeclarators, type_declarators, none_declared, semicolon, TypedDecl, type_decl, TypedDeclList, type_decls}
use Rattle.c_sites_probes.specs.Marked.{first, name_mark, node_mark, lengths_mark, specs_mark, decl_mark, decls_mark, declarator_mark, declarators_mark, params_mark, maybe_init_mark, init_mark, inits_mark}
use Rattle.probe_rules.proofs.ReadyUnits.{none_first, none_second}
use Rattle.probe_rules.proofs.Moved.{Alike, steps_alike, complain_alike, rule_alike, ruled_alike, outside_alike, quiet_alike}
use Rattle.probe_rules.proofs.MovedNodes.{node_alike, lengths_alike, specs_alike}
use Rattle.probe_moved.proofs.States.{file_same, quiet_same, function_same, slots_same, claim_name_alike, variable_rule_same, judged_variable_alike, no_params_alike, parameter_rule_same, judged_parameter_alike, opened_scope_alike, closed_params_alike, judged_function_alike}

module _ (n m : ℕ) (seen : Seen) where
  -- ---- what comes of a declaration

  pub record AlikeInit (x y : TypedInit) : Type 0 where
    pub init : y.init ≡ x.init
    pub state : Alike n m seen x.state y.state

  pub record AlikeInits (x y : TypedInits) : Type 0 where
    pub inits : y.inits ≡ x.inits
    pub state : Alike n m seen x.state y.state

  pub record AlikeMaybeInit (x y : TypedMaybeInit) : Type 0 where
    pub init : y.init ≡ x.init
    pub state : Alike n m seen x.state y.state

  pub record AlikeName (x y : TypedDeclarator) : Type 0 where
    pub name : y.name ≡ x.name
    pub state : Alike n m seen x.state y.state

  pub record AlikeParam (x y : TypedParam) : Type 0 where
    pub param : y.param ≡ x.param
    pub kind : y.kind ≡ x.kind
    pub state : Alike n m seen x.state y.state

  pub record AlikeParams (x y : TypedParams) : Type 0 where
    pub params : y.params ≡ x.params
    pub given : y.given ≡ x.given
    pub state : Alike n m seen x.state y.state

  pub record AlikeSignature (x y : TypedSignature) : Type 0 where
    pub params : y.params ≡ x.params
    pub given : y.given ≡ x.given
    pub state : Alike n m seen x.state y.state

  pub record AlikeFunction (x y : TypedFunction) : Type 0 where
    pub name : y.name ≡ x.name
    pub number : y.number ≡ x.number
    pub given : y.given ≡ x.given
    pub state : Alike n m seen x.state y.state

  pub record AlikeNames (x y : TypedDeclarators) : Type 0 where
    pub names : y.names ≡ x.names
    pub state : Alike n m seen x.state y.state

  pub record AlikeDecl (x y : TypedDecl) : Type 0 where
    pub decl : y.decl ≡ x.decl
    pub state : Alike n m seen x.state y.state

  pub record AlikeDecls (x y : TypedDeclList) : Type 0 where
    pub decls : y.decls ≡ x.decls
    pub state : Alike n m seen x.state y.state

  -- ---- initialisers

  one_alike : (o : Option (ℕ × ℕ)) (c : Bool) (k : Option TypeOf) (a : NodeShape) → node_mark a ≡ None → {s t : State} → Alike n m seen s t → AlikeInit (one_init_of o c k a s) (one_init_of o c k a t)
  one_alike (Some (bytes, elements)) c k a none {s} {t} al =
      let i = node_alike n m seen a none (quiet_alike n m seen true true refl al) in
      record { init = ap one i.node; state = rule_alike n m seen (allowed_if (nat_le bytes elements) 33 (int Char)) s.at t.at (pos_in a) (pos_in a) (quiet_alike n m seen s.quiet t.quiet (quiet_same n m seen al) i.state) }
  one_alike None c k a none {s} {t} al =
      let i = node_alike n m seen a none al in
      record { init = ap one i.node; state = ruled_alike n m seen _ _ s.at t.at (pos_in a) (ap (constant_init c) i.sort) (ruled_alike n m seen _ _ s.at t.at (pos_in a) (ap (fits k) i.sort) i.state) }

  mutual
    same_init : (c : Bool) (k : Option TypeOf) (i : InitShape) → init_mark i ≡ None → {s t : State} → Alike n m seen s t → AlikeInit (type_init c k i s) (type_init c k i t)
    same_init c k (one a) none al = one_alike (filled (chars_of k) (form_in a)) c k a none al
    same_init c k (listed p items last) none {s} {t} al =
        let v = steps_alike n m seen 1 (rule_alike n m seen (of_kind k list_rule) s.at t.at p p al) in
        let j = inits_alike (slots k s) (slots k t) items (slots_same n m seen k al) none v in
        record { init = ap (λ z. listed p z last) j.inits; state = steps_alike n m seen (list_end last) j.state }

    pub inits_alike : (l l' : Slots) (items : InitShapes) → l' ≡ l → inits_mark items ≡ None → {s t : State} → Alike n m seen s t → AlikeInits (type_inits l items s) (type_inits l' items t)
    inits_alike l l' no_inits e none al = record { inits = refl; state = al }
    inits_alike l l' (more_inits i rest) e none {s} {t} al =
        let x = type_init true (slot l) i (rule (slot_rule l) s.at (init_pos i) s) in
        let j = subst (λ z. AlikeInit x (type_init true (slot z) i (rule (slot_rule z) t.at (init_pos i) t))) (sym e)
        (same_init true (slot l) i (none_first (init_mark i) (inits_mark rest) none) (rule_alike n m seen (slot_rule l) s.at t.at (init_pos i) (init_pos i) al)) in
        let k = inits_alike (further l) (further l') rest (ap further e) (none_second (init_mark i) (inits_mark rest) none) (steps_alike n m seen 1 j.state) in
        record { inits = ap₂ more_inits j.init k.inits; state = k.state }

  pub init_alike : (c c' : Bool) (k k' : Option TypeOf) (i : InitShape) → c' ≡ c → k' ≡ k → init_mark i ≡ None → {s t : State} → Alike n m seen s t → AlikeInit (type_init c k i s) (type_init c' k' i t)
  init_alike c c' k k' i e d none {s} {t} al = subst (λ y. AlikeInit (type_init c k i s) (type_init y k' i t)) (sym e) (subst (λ z. AlikeInit (type_init c k i s) (type_init c z i t)) (sym d) (same_init c k i none al))

  pub maybe_init_alike : (c c' : Bool) (k k' : Option TypeOf) (i : MaybeInit) → c' ≡ c → k' ≡ k → maybe_init_mark i ≡ None → {s t : State} → Alike n m seen s t → AlikeMaybeInit (type_maybe_init c k i s) (type_maybe_init c' k' i t)
  maybe_init_alike c c' k k' no_init e d none al = record { init = refl; state = al }
  maybe_init_alike c c' k k' (one_init i) e d none al =
      let j = init_alike c c' k k' i e d none (steps_alike n m seen 1 al) in
      record { init = ap one_init j.init; state = j.state }

  -- ---- variables

  pub variable_alike : (k k' : Option TypeOf) (stars : List Star) (x : Option Named) (ls : LengthShapes) (i : MaybeInit) → k' ≡ k → declarator_mark (declarator stars x (arrays ls) i) ≡ None → {s t : State} → Alike n m seen s t →
      AlikeName (type_variable k stars x ls i s) (type_variable k' stars x ls i t)
  variable_alike k k' stars x ls i e none {s} {t} al =
      let rest = none_second (name_mark x) (first (lengths_mark ls) (maybe_init_mark i)) none in
      let b = steps_alike n m seen (star_tokens stars) al in
      let v = claim_name_alike n m seen (nat_eq s.function 0 || has_init i) (nat_eq t.function 0 || has_init i) x (none_first (name_mark x) (first (lengths_mark ls) (maybe_init_mark i)) none) b in
      let l = lengths_alike n m seen ls (none_first (lengths_mark ls) (maybe_init_mark i) rest) [] [] refl (steps_alike n m seen (name_tokens x) v) in
      let counts = ap (lengths_with i) l.counts in
      let d = judged_variable_alike n m seen (token_of_name (steps (star_tokens stars) s).at x (steps (star_tokens stars) s)) (token_of_name (steps (star_tokens stars) t).at x (steps (star_tokens stars) t)) (name_pos first_place x) (text_of x) _ _ _ _ counts (ap (pointed stars) e) l.state in
      let r = variable_rule_same n m seen _ _ _ _ counts (ap (pointed stars) e) l.state in
      let j = maybe_init_alike _ _ _ _ i (ap (λ z. nat_eq z 0) (function_same n m seen al)) (ap kind_at r) (none_second (lengths_mark ls) (maybe_init_mark i) rest) d in
      record { name = ap₂ (λ y z. declarator stars x (arrays y) z) l.lengths j.init; state = j.state }

  -- ---- parameters

  pub param_alike : (defining : Bool) (p : Pos) (specs : SpecShapes) (stars : List Star) (x : Option Named) (ls : LengthShapes) (i : MaybeInit) → specs_mark specs ≡ None → name_mark x ≡ None → lengths_mark ls ≡ None → {s t : State} → Alike n m seen s t →
      AlikeParam (type_param defining p specs stars x ls i s) (type_param defining p specs stars x ls i t)
  param_alike defining p specs stars x ls i none none_named none_long {s} {t} al =
      let c = specs_alike n m seen false specs none unspelled unspelled refl al in
      let r = ap spelled_rule c.spelled in
      let b = steps_alike n m seen (star_tokens stars) (ruled_alike n m seen _ _ s.at t.at p r c.state) in
      let l = lengths_alike n m seen ls none_long [] [] refl (steps_alike n m seen (name_tokens x) (claim_name_alike n m seen defining defining x none_named b)) in
      let k = ap (λ z. pointed stars (kind_at z)) r in
      record {
        param = ap₂ (λ y z. decl p y (more_declarators (declarator stars x (arrays z) i) no_declarators)) c.specs l.lengths;
        kind = ap kind_at (parameter_rule_same n m seen _ _ _ _ l.counts k l.state);
        state = judged_parameter_alike n m seen defining p x s.at t.at _ _ _ _ _ _ l.counts k l.state;
      }

  -- other declarations than parameters
  other_alike : (defining : Bool) (d : DeclShape) (rest : DeclShapes) (s t : State) → AlikeParams (type_param_list defining rest s) (type_param_list defining rest t) →
      AlikeParams (record (type_param_list defining rest s) { params = more_decls d (type_param_list defining rest s).params }) (record (type_param_list defining rest t) { params = more_decls d (type_param_list defining rest t).params })
  other_alike defining d rest s t i = record { params = ap (more_decls d) i.params; given = i.given; state = i.state }

  complained : {s t : State} → Alike n m seen s t → Alike n m seen (step (complain 33 s.at first_place s)) (step (complain 33 t.at first_place t))
  complained {s} {t} al = steps_alike n m seen 1 (complain_alike n m seen 33 s.at t.at first_place first_place al)

  pub param_list_alike : (defining : Bool) (ds : DeclShapes) → decls_mark ds ≡ None → {s t : State} → Alike n m seen s t → AlikeParams (type_param_list defining ds s) (type_param_list defining ds t)
  param_list_alike defining no_decls none al = record { params = refl; given = refl; state = al }
  param_list_alike defining (more_decls (decl p specs (more_declarators (declarator stars x (arrays ls) i) no_declarators)) rest) none al =
      let d = decl p specs (more_declarators (declarator stars x (arrays ls) i) no_declarators) in
      let here = none_first (decl_mark d) (decls_mark rest) none in
      let named = none_first (declarator_mark (declarator stars x (arrays ls) i)) None (none_second (specs_mark specs) (first (declarator_mark (declarator stars x (arrays ls) i)) None) here) in
      let long = none_first (lengths_mark ls) (maybe_init_mark i) (none_second (name_mark x) (first (lengths_mark ls) (maybe_init_mark i)) named) in
      let a = param_alike defining p specs stars x ls i (none_first (specs_mark specs) (first (declarator_mark (declarator stars x (arrays ls) i)) None) here) (none_first (name_mark x) (first (lengths_mark ls) (maybe_init_mark i)) named) long al in
      let r = param_list_alike defining rest (none_second (decl_mark d) (decls_mark rest) none) (steps_alike n m seen 1 a.state) in
      record { params = ap₂ more_decls a.param r.params; given = ap₂ (λ y z. (text_of x, y) ∷ z) a.kind r.given; state = r.state }
  param_list_alike defining (more_decls (decl p specs no_declarators) rest) none al =
      let d = decl p specs no_declarators in
      other_alike defining d rest _ _ (param_list_alike defining rest (none_second (decl_mark d) (decls_mark rest) none) (complained al))
  param_list_alike defining (more_decls (decl p specs (more_declarators (declarator stars x (function ps) i) no_declarators)) rest) none al =
      let d = decl p specs (more_declarators (declarator stars x (function ps) i) no_declarators) in
      other_alike defining d rest _ _ (param_list_alike defining rest (none_second (decl_mark d) (decls_mark rest) none) (complained al))
  param_list_alike defining (more_decls (decl p specs (more_declarators (declarator stars x (function ps) i) (more_declarators e more))) rest) none al =
      let d = decl p specs (more_declarators (declarator stars x (function ps) i) (more_declarators e more)) in
      other_alike defining d rest _ _ (param_list_alike defining rest (none_second (decl_mark d) (decls_mark rest) none) (complained al))
  param_list_alike defining (more_decls (decl p specs (more_declarators (declarator stars x (arrays ls) i) (more_declarators e more))) rest) none al =
      let d = decl p specs (more_declarators (declarator stars x (arrays ls) i) (more_declarators e more)) in
      other_alike defining d rest _ _ (param_list_alike defining rest (none_second (decl_mark d) (decls_mark rest) none) (complained al))

  pub params_alike : (defining : Bool) (ps : ParamsShape) → params_mark ps ≡ None → {s t : State} → Alike n m seen s t → AlikeSignature (type_params defining ps s) (type_params defining ps t)
  params_alike defining empty none al = record { params = refl; given = refl; state = steps_alike n m seen 2 al }
  params_alike defining void none al = record { params = refl; given = refl; state = steps_alike n m seen 3 al }
  params_alike defining (params ds) none al =
      let i = param_list_alike defining ds none (steps_alike n m seen 1 (no_params_alike n m seen al)) in
      record { params = ap params i.params; given = i.given; state = i.state }

  -- ---- functions

  pub function_alike : (defining : Bool) (k k' : Option TypeOf) (stars : List Star) (x : Option Named) (ps : ParamsShape) (i : MaybeInit) → k' ≡ k → name_mark x ≡ None → params_mark ps ≡ None → {s t : State} → Alike n m seen s t →
      AlikeFunction (type_function defining k stars x ps i s) (type_function defining k' stars x ps i t)
  function_alike defining k k' stars x ps i e none none_given {s} {t} al =
      let b = steps_alike n m seen (star_tokens stars) al in
      let v = steps_alike n m seen (name_tokens x) (claim_name_alike n m seen false false x none b) in
      let q = params_alike defining ps none_given (outside_alike n m seen false false refl (opened_scope_alike n m seen v)) in
      let d = judged_function_alike n m seen defining (token_of_name (steps (star_tokens stars) s).at x (steps (star_tokens stars) s)) (token_of_name (steps (star_tokens stars) t).at x (steps (star_tokens stars) t)) (name_pos first_place x) (text_of x) _ _ _ _ _ _ (ap (pointed stars) e) q.given (file_same n m seen al) (closed_params_alike n m seen defining q.state) in
      record { name = ap (λ z. declarator stars x (function z) i) q.params; number = d.number; given = q.given; state = d.state }

  -- ---- declarations

  pub declarator_alike : (k k' : Option TypeOf) (d : DeclaratorShape) → k' ≡ k → declarator_mark d ≡ None → {s t : State} → Alike n m seen s t → AlikeName (type_declarator k d s) (type_declarator k' d t)
  declarator_alike k k' (declarator stars x (arrays ls) i) e none al = variable_alike k k' stars x ls i e none al
  declarator_alike k k' (declarator stars x (function ps) i) e none al =
      let given = none_first (params_mark ps) (maybe_init_mark i) (none_second (name_mark x) (first (params_mark ps) (maybe_init_mark i)) none) in
      let f = function_alike false k k' stars x ps i e (none_first (name_mark x) (first (params_mark ps) (maybe_init_mark i)) none) given al in
      record { name = f.name; state = f.state }

  pub declarators_alike : (k k' : Option TypeOf) (ds : DeclaratorShapes) → k' ≡ k → declarators_mark ds ≡ None → {s t : State} → Alike n m seen s t → AlikeNames (type_declarators k ds s) (type_declarators k' ds t)
  declarators_alike k k' no_declarators e none al = record { names = refl; state = al }
  declarators_alike k k' (more_declarators d rest) e none al =
      let i = declarator_alike k k' d e (none_first (declarator_mark d) (declarators_mark rest) none) al in
      let j = declarators_alike k k' rest e (none_second (declarator_mark d) (declarators_mark rest) none) (steps_alike n m seen 1 i.state) in
      record { names = ap₂ more_declarators i.name j.names; state = j.state }

  pub decl_alike : (d : DeclShape) → decl_mark d ≡ None → {s t : State} → Alike n m seen s t → AlikeDecl (type_decl d s) (type_decl d t)
  decl_alike (decl p specs names) none {s} {t} al =
      let i = specs_alike n m seen (none_declared names) specs (none_first (specs_mark specs) (declarators_mark names) none) unspelled unspelled refl al in
      let r = ap spelled_rule i.spelled in
      let j = declarators_alike _ _ names (ap kind_at r) (none_second (specs_mark specs) (declarators_mark names) none) (steps_alike n m seen (semicolon names) (ruled_alike n m seen _ _ s.at t.at p r i.state)) in
      record { decl = ap₂ (decl p) i.specs j.names; state = j.state }

  pub decls_alike : (ds : DeclShapes) → decls_mark ds ≡ None → {s t : State} → Alike n m seen s t → AlikeDecls (type_decls ds s) (type_decls ds t)
  decls_alike no_decls none al = record { decls = refl; state = al }
  decls_alike (more_decls d rest) none al =
      let i = decl_alike d (none_first (decl_mark d) (decls_mark rest) none) al in
      let j = decls_alike rest (none_second (decl_mark d) (decls_mark rest) none) i.state in
      record { decls = ap₂ more_decls i.decl j.decls; state = j.state }
