-- Declarations of file scope are typed with their probes as they stand.
use Rattle.std.proofs.Common.{◌≡◌, ℕ, List, Bool, true, Option, Some, None, ◌∙◌, refl, sym, ap, ap₂, subst}
use Rattle.std.specs.Prelude.{◌||◌, nat_eq}
use Rattle.c_base.specs.declared.place.Pos.{Pos}
use Rattle.c_syntax.specs.declared.tree.Named.{Named}
use Rattle.c_syntax.specs.declared.tree.Star.{Star}
use Rattle.c_syntax.specs.Shape.{TypeOf, def, LengthShapes, SpecShapes, no_specs, DeclShape, decl, DeclaratorShape, declarator, DeclaratorShapes, no_declarators, more_declarators, arrays, function, MaybeInit}
use Rattle.c_tables.specs.Tables.{TablesShape}
use Rattle.c_tables.specs.Rows.{first_place, name_pos}
use Rattle.c_tree.specs.State.{State, step, steps}
use Rattle.c_tree.specs.Rulings.{rule, kind_at}
use Rattle.c_tree.specs.Parts.{star_tokens, unspelled, spelled_rule}
use Rattle.c_tree.specs.Typing.{type_specs}
use Rattle.c_tree.specs.Operators.{claim}
use Rattle.c_tree.specs.Declaring.{has_init, TypedDeclarator, type_declarator, TypedDeclarators, type_declarators, none_declared, semicolon, TypedDecl, type_decl}
use Rattle.c_tree.proofs.AgainUnits.{decl_again}
use Rattle.c_walk.specs.Walked.{Walked}
use Rattle.c_walk.specs.Stating.{whole, with_variable, with_whole_def}
use Rattle.c_walk.specs.Counted.{next_def}
use Rattle.c_walk.specs.Units.{define_declarator, define_declarators, define_decl}
use Rattle.c_meaning.specs.Counts.{IsBefore}
use Rattle.c_meaning.proofs.Walks.{param_on}
use Rattle.c_sites_probes.specs.Marked.{first, name_mark, lengths_mark, specs_mark, maybe_init_mark, declarator_mark, declarators_mark, decl_mark}
use Rattle.probe_rules.specs.Fitting.{HasFewItems, IsDefined, AreDefined, IsDefining}
use Rattle.probe_rules.specs.Marks.{mark_at}
use Rattle.probe_rules.specs.Instrumented.{defined_declarator, defined_declarators, defined_decl}
use Rattle.probe_rules.proofs.ReadyUnits.{none_first, none_second}
use Rattle.probe_rules.proofs.Moved.{steps_alike, ruled_alike}
use Rattle.probe_rules.proofs.MovedNodes.{specs_alike}
use Rattle.probe_rules.proofs.Claims.{seen_at, def_claimed}
use Rattle.probe_rules.proofs.Few.{few_before, few_defs}
use Rattle.probe_laws.proofs.FitDecls.{decl_fits}
use Rattle.probe_moved.specs.Moved.{marked}
use Rattle.probe_moved.proofs.States.{function_same}
use Rattle.probe_moved.proofs.Decls.{maybe_init_alike, declarator_alike}
use Rattle.probe_moved.proofs.Kept.{rule_kept, specs_kept}
use Rattle.probe_moved.proofs.KeptUnits.{declarators_kept}
use Rattle.probe_moved.proofs.Marked.{variable_kind, variable_marked}
use Rattle.probe_typed.specs.Typed.{Follows}
use Rattle.probe_programs.specs.Units.{IsDeclDefinedAs, DeclsAreDefinedAs}

record IsNameDefinedAs (v : Walked) (x : TypedDeclarator) (d : DeclaratorShape) (y : TypedDeclarator) : Type 0 where
  name : y.name ≡ d
  state : Follows v x.state y.state

record AreNamesDefinedAs (v : Walked) (x : TypedDeclarators) (ds : DeclaratorShapes) (y : TypedDeclarators) : Type 0 where
  names : y.names ≡ ds
  state : Follows v x.state y.state

module _ (tables : TablesShape) where
  -- ---- a variable, with an initialiser or without one, in which no probe stands

  may_stand : (n : ℕ) (b : Bool) → n ≡ 0 → (nat_eq n 0 || b) ≡ true
  may_stand n b e = ap (λ z. nat_eq z 0 || b) e

  variable_defined : (k k' : Option TypeOf) (stars : List Star) (y : Named) (ls : LengthShapes) (i : MaybeInit) (w : Walked) (s t : State) → k' ≡ k → declarator_mark (declarator stars (Some y) (arrays ls) i) ≡ None → s.function ≡ 0 → (
      let d = declarator stars (Some y) (arrays ls) i in
      let x = type_declarator k d s in
      let v = define_declarator tables 0 d w in
      HasFewItems v → Follows w s t → IsNameDefinedAs v x (defined_declarator tables 0 x.name w) (type_declarator k' (defined_declarator tables 0 d w) t))
  variable_defined k k' stars y ls i w s t e none zero few al =
      let v = with_whole_def tables 0 (Some y) (with_variable w) in
      let g = mark_at y.pos (next_def (with_variable w)) in
      let seen = seen_at v in
      let b = steps (star_tokens stars) t in
      let q = name_pos first_place (Some y) in
      let d = whole tables (with_variable w).variables in
      let claimed : Follows v (steps (star_tokens stars) s) (claim def g.number b.at g.pos b) = def_claimed 0 0 b.at y.pos q 0 d (with_variable w) (few_defs q 0 d (with_variable w) few) (steps_alike 0 0 (seen_at w) (star_tokens stars) al) in
      let same = function_same 0 0 (seen_at w) al in
      let rest = none_second (name_mark (Some y)) (first (lengths_mark ls) (maybe_init_mark i)) none in
      let r = variable_marked 0 0 seen k k' stars y g ls i i e (none_first (name_mark (Some y)) (first (lengths_mark ls) (maybe_init_mark i)) none) (none_first (lengths_mark ls) (maybe_init_mark i) rest) (λ cs. refl) s t (may_stand t.function (has_init i) (same ∙ zero)) claimed in
      let j = maybe_init_alike 0 0 seen (nat_eq s.function 0) (nat_eq t.function 0) (variable_kind k stars (Some y) ls i s) (variable_kind k' stars (Some (marked g y)) ls i t) i (ap (λ z. nat_eq z 0) same) r.kind (none_second (lengths_mark ls) (maybe_init_mark i) rest) r.state in
      record { name = ap₂ (λ l z. declarator stars (Some (marked g y)) (arrays l) z) r.lengths j.init; state = j.state }

  declarator_defined : (k k' : Option TypeOf) (d : DeclaratorShape) (w : Walked) (s t : State) → k' ≡ k → IsDefined d → declarator_mark d ≡ None → s.function ≡ 0 → (
      let x = type_declarator k d s in
      let v = define_declarator tables 0 d w in
      HasFewItems v → Follows w s t → IsNameDefinedAs v x (defined_declarator tables 0 x.name w) (type_declarator k' (defined_declarator tables 0 d w) t))
  declarator_defined k k' (declarator stars None (arrays ls) i) w s t e named none zero few al = absurd named
  declarator_defined k k' (declarator stars (Some y) (arrays ls) i) w s t e named none zero few al = variable_defined k k' stars y ls i w s t e none zero few al
  declarator_defined k k' (declarator stars x (function ps) i) w s t e named none zero few al =
      let r = declarator_alike 0 0 (seen_at w) k k' (declarator stars x (function ps) i) e none al in
      record { name = r.name; state = r.state }

  -- ---- declarations

  names_on : (ds : DeclaratorShapes) (w : Walked) → IsBefore w (define_declarators tables 0 ds w)
  names_on ds w = param_on tables 0 (decl first_place no_specs ds) w

  -- a declarator and the one that is typed of it define the same
  define_same : (k : Option TypeOf) (d : DeclaratorShape) (w : Walked) (s : State) → define_declarator tables 0 (type_declarator k d s).name w ≡ define_declarator tables 0 d w
  define_same k (declarator stars x (arrays ls) i) w s = refl
  define_same k (declarator stars x (function ps) i) w s = refl

  declarators_defined : (k k' : Option TypeOf) (ds : DeclaratorShapes) (w : Walked) (s t : State) → k' ≡ k → AreDefined ds → declarators_mark ds ≡ None → s.function ≡ 0 → (
      let x = type_declarators k ds s in
      let v = define_declarators tables 0 ds w in
      HasFewItems v → Follows w s t → AreNamesDefinedAs v x (defined_declarators tables 0 x.names w) (type_declarators k' (defined_declarators tables 0 ds w) t))
  declarators_defined k k' no_declarators w s t e named none zero few al = record { names = refl; state = al }
  declarators_defined k k' (more_declarators d rest) w s t e named none zero few al =
      let x = type_declarator k d s in
      let v = define_declarator tables 0 d w in
      let i = declarator_defined k k' d w s t e named.0 (none_first (declarator_mark d) (declarators_mark rest) none) zero (few_before (names_on rest v) few) al in
      let z = type_declarator k' (defined_declarator tables 0 d w) t in
      let kept = declarators_kept k (more_declarators d no_declarators) s in
      let j = declarators_defined k k' rest v (step x.state) (step z.state) e named.1 (none_second (declarator_mark d) (declarators_mark rest) none) (sym kept ∙ zero) few (steps_alike 0 0 (seen_at v) 1 i.state) in
      let last = (type_declarators k rest (step x.state)).names in
      record { names = ap₂ more_declarators i.name (j.names ∙ ap (defined_declarators tables 0 last) (sym (define_same k d w s))); state = j.state }

  none_defined : (ds : DeclaratorShapes) (w : Walked) → (none_declared (defined_declarators tables 0 ds w) ≡ none_declared ds) × (semicolon (defined_declarators tables 0 ds w) ≡ semicolon ds)
  none_defined no_declarators w = (refl, refl)
  none_defined (more_declarators d rest) w = (refl, refl)

  -- a declaration, by its specifiers and names
  abbrev decl_with : Pos → Bool → ℕ → SpecShapes → DeclaratorShapes → State → TypedDecl
  decl_with p none end specs names s =
      let t = type_specs none specs unspelled s in
      let r = spelled_rule t.spelled in
      let n = type_declarators (kind_at r) names (steps end (rule r s.at p t.state)) in
      record { decl = decl p t.specs n.names; state = n.state }

  decl_defined : (d : DeclShape) (w : Walked) (s t : State) → IsDefining d → decl_mark d ≡ None → s.function ≡ 0 → (
      let x = type_decl d s in
      let v = define_decl tables 0 d w in
      HasFewItems v → Follows w s t → IsDeclDefinedAs v x (defined_decl tables 0 x.decl w) (type_decl (defined_decl tables 0 d w) t))
  decl_defined (decl p specs names) w s t named none zero few al =
      let empty = none_declared names in
      let end = semicolon names in
      let x = type_specs empty specs unspelled s in
      let r = spelled_rule x.spelled in
      let c = specs_alike 0 0 (seen_at w) empty specs (none_first (specs_mark specs) (declarators_mark names) none) unspelled unspelled refl al in
      let z = type_specs empty specs unspelled t in
      let same = ap spelled_rule c.spelled in
      let kept = sym (rule_kept r s.at p x.state) ∙ (sym (specs_kept empty specs unspelled s) ∙ zero) in
      let j = declarators_defined (kind_at r) (kind_at (spelled_rule z.spelled)) names w (steps end (rule r s.at p x.state)) (steps end (rule (spelled_rule z.spelled) t.at p z.state)) (ap kind_at same) named (none_second (specs_mark specs) (declarators_mark names) none) kept few
      (steps_alike 0 0 (seen_at w) end (ruled_alike 0 0 (seen_at w) _ _ s.at t.at p same c.state)) in
      let ps = defined_declarators tables 0 names w in
      let ends = none_defined names w in
      let whole_same : type_decl (decl p specs ps) t ≡ decl_with p empty end specs ps t = ap₂ (λ b n. decl_with p b n specs ps t) ends.0 ends.1 in
      record {
        decl = ap (λ (q : TypedDecl). q.decl) whole_same ∙ ap₂ (decl p) c.specs j.names;
        state = subst (λ (q : TypedDecl). Follows (define_declarators tables 0 names w) (type_decl (decl p specs names) s).state q.state) (sym whole_same) j.state;
      }

pub decl_typed : DeclsAreDefinedAs
decl_typed tables d w s t is h zero none clean few al =
    let x = type_decl d s in
    let named = (decl_fits d s is none h clean).2 in
    subst (λ (z : TypedDecl). IsDeclDefinedAs (define_decl tables 0 x.decl w) z (defined_decl tables 0 z.decl w) (type_decl (defined_decl tables 0 x.decl w) t)) (decl_again d s s) (decl_defined tables x.decl w s t named none zero few al)
