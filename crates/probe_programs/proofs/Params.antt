-- The declarator of a function with a body, and its parameters, are typed with their probes as they stand.
use Rattle.std.proofs.Common.{◌≡◌, ℕ, List, ◌∷◌, Option, Some, None, true, false, refl, ap, ap₂, subst}
use Rattle.c_base.specs.declared.place.Pos.{Pos}
use Rattle.c_syntax.specs.declared.tree.Named.{Named}
use Rattle.c_syntax.specs.declared.tree.ProbeMark.{ProbeMark}
use Rattle.c_syntax.specs.declared.tree.Star.{Star}
use Rattle.c_syntax.specs.Shape.{TypeOf, def, LengthShapes, SpecShapes, DeclShape, decl, DeclShapes, no_decls, more_decls, DeclaratorShape, declarator, no_declarators, more_declarators, arrays, function, ParamsShape, empty, void, params, MaybeInit}
use Rattle.c_syntax.specs.Shaped.{ShapedParams, ShapedParamList}
use Rattle.c_tables.specs.Tables.{TablesShape}
use Rattle.c_tables.specs.Rows.{first_place, text_of, name_pos}
use Rattle.c_tree.specs.State.{State, step, steps}
use Rattle.c_tree.specs.Parts.{pointed, star_tokens, unspelled, spelled_rule}
use Rattle.c_tree.specs.Operators.{claim}
use Rattle.c_tree.specs.Declaring.{name_tokens, token_of_name, TypedParam, type_param, TypedParams, type_param_list, TypedSignature, type_params, TypedFunction, type_function}
use Rattle.c_walk.specs.Walked.{Walked}
use Rattle.c_walk.specs.Stating.{whole, with_variable, with_whole_def}
use Rattle.c_walk.specs.Counted.{next_def}
use Rattle.c_walk.specs.Units.{define_decls, define_params}
use Rattle.c_meaning.proofs.Walks.{params_on}
use Rattle.c_sites_probes.specs.Marked.{first, name_mark, lengths_mark, specs_mark, maybe_init_mark, declarator_mark, decl_mark, decls_mark, params_mark}
use Rattle.probe_rules.specs.Fitting.{HasFewItems, AreDefining, AreFitParams}
use Rattle.probe_rules.specs.Marks.{mark_at}
use Rattle.probe_rules.specs.Instrumented.{defined_decl, defined_decls, defined_params, defined_signature}
use Rattle.probe_rules.proofs.ReadyUnits.{none_first, none_second}
use Rattle.probe_rules.proofs.Moved.{steps_alike, ruled_alike, outside_alike}
use Rattle.probe_rules.proofs.MovedNodes.{specs_alike}
use Rattle.probe_rules.proofs.Claims.{seen_at, def_claimed}
use Rattle.probe_rules.proofs.Few.{few_before, few_defs}
use Rattle.probe_laws.proofs.FitDecls.{function_fits}
use Rattle.probe_moved.specs.Moved.{marked, behind_stars}
use Rattle.probe_moved.proofs.States.{file_same, claim_name_alike, no_params_alike, opened_scope_alike, closed_params_alike, judged_function_alike}
use Rattle.probe_moved.proofs.Marked.{param_marked}
use Rattle.probe_typed.specs.Typed.{Follows}
use Rattle.c_tree.proofs.AgainUnits.{function_again}
use Rattle.probe_programs.specs.Units.{at_params, IsFunctionDefinedAs, FunctionsAreDefinedAs}

-- ---- a parameter is one variable

abbrev IsSingle : DeclShape → Type 0
IsSingle (decl p specs no_declarators) = ⊥
IsSingle (decl p specs (more_declarators (declarator stars x (arrays ls) i) no_declarators)) = Unit {0}
IsSingle (decl p specs (more_declarators (declarator stars x (function ps) i) no_declarators)) = ⊥
IsSingle (decl p specs (more_declarators d (more_declarators e rest))) = ⊥

abbrev AreSingle : DeclShapes → Type 0
AreSingle no_decls = Unit {0}
AreSingle (more_decls d rest) = IsSingle d × AreSingle rest

abbrev HasSingles : ParamsShape → Type 0
HasSingles (params ds) = AreSingle ds
HasSingles empty = Unit {0}
HasSingles void = Unit {0}

list_single : (ds : DeclShapes) (s : State) → ShapedParamList ds → AreSingle (type_param_list true ds s).params
list_single no_decls s is = tt
list_single (more_decls (decl p specs no_declarators) rest) s is = absurd is.0
list_single (more_decls (decl p specs (more_declarators (declarator stars x (arrays ls) i) no_declarators)) rest) s is = (tt, list_single rest _ is.1)
list_single (more_decls (decl p specs (more_declarators (declarator stars x (function ps) i) no_declarators)) rest) s is = let e = is.0.1.1.0 in cc
list_single (more_decls (decl p specs (more_declarators (declarator stars x (arrays ls) i) (more_declarators d more))) rest) s is = absurd is.0
list_single (more_decls (decl p specs (more_declarators (declarator stars x (function ps) i) (more_declarators d more))) rest) s is = absurd is.0

list_shaped : (ds : DeclShapes) → ShapedParams (params ds) → ShapedParamList ds
list_shaped no_decls is = absurd is
list_shaped (more_decls d rest) is = (is.0, is.1)

params_single : (ps : ParamsShape) (s : State) → ShapedParams ps → HasSingles (type_params true ps s).params
params_single empty s is = tt
params_single void s is = tt
params_single (params ds) s is = list_single ds _ (list_shaped ds is)

-- ---- plain parameters, and those with probes

record IsParamDefinedAs (v : Walked) (x : TypedParam) (d : DeclShape) (y : TypedParam) : Type 0 where
  param : y.param ≡ d
  kind : y.kind ≡ x.kind
  state : Follows v x.state y.state

record AreParamsDefinedAs (v : Walked) (x : TypedParams) (ds : DeclShapes) (y : TypedParams) : Type 0 where
  params : y.params ≡ ds
  given : y.given ≡ x.given
  state : Follows v x.state y.state

record IsSignatureDefinedAs (v : Walked) (x : TypedSignature) (ps : ParamsShape) (y : TypedSignature) : Type 0 where
  params : y.params ≡ ps
  given : y.given ≡ x.given
  state : Follows v x.state y.state

module _ (tables : TablesShape) (f : ℕ) where
  -- behind the definition at that name
  abbrev behind_name : Named → Walked → Walked
  behind_name y w = with_whole_def tables f (Some y) (with_variable w)

  abbrev mark : Named → Walked → ProbeMark
  mark y w = mark_at y.pos (next_def (with_variable w))

  param_defined : (p : Pos) (specs : SpecShapes) (stars : List Star) (y : Named) (ls : LengthShapes) (i : MaybeInit) (w : Walked) (s t : State) → specs_mark specs ≡ None → name_mark (Some y) ≡ None → lengths_mark ls ≡ None → HasFewItems (behind_name y w) → Follows w s t → (
      let x = type_param true p specs stars (Some y) ls i s in
      IsParamDefinedAs (behind_name y w) x (defined_decl tables f x.param w) (type_param true p specs stars (Some (marked (mark y w) y)) ls i t))
  param_defined p specs stars y ls i w s t none none_named none_long few al =
      let g = mark y w in
      let c = specs_alike 0 0 (seen_at w) false specs none unspelled unspelled refl al in
      let b = behind_stars p specs stars t in
      let behind : Follows w (behind_stars p specs stars s) b = steps_alike 0 0 (seen_at w) (star_tokens stars) (ruled_alike 0 0 (seen_at w) _ _ s.at t.at p (ap spelled_rule c.spelled) c.state) in
      let q = name_pos first_place (Some y) in
      let d = whole tables (with_variable w).variables in
      let claimed : Follows (behind_name y w) (behind_stars p specs stars s) (claim def g.number b.at g.pos b) = def_claimed 0 0 b.at y.pos q f d (with_variable w) (few_defs q f d (with_variable w) few) behind in
      let r = param_marked 0 0 (seen_at (behind_name y w)) p specs stars y g ls i none_named none_long s t c.spelled claimed in
      record {
        param = ap₂ (λ x z. decl p x (more_declarators (declarator stars (Some (marked g y)) (arrays z) i) no_declarators)) c.specs r.lengths;
        kind = r.kind;
        state = r.state;
      }

  list_defined : (ds : DeclShapes) (w : Walked) (s t : State) → AreSingle ds → AreDefining ds → decls_mark ds ≡ None → HasFewItems (define_decls tables f ds w) → Follows w s t → (
      let x = type_param_list true ds s in
      AreParamsDefinedAs (define_decls tables f ds w) x (defined_decls tables f x.params w) (type_param_list true (defined_decls tables f ds w) t))
  list_defined no_decls w s t is named none few al = record { params = refl; given = refl; state = al }
  list_defined (more_decls (decl p specs no_declarators) rest) w s t is named none few al = absurd is.0
  list_defined (more_decls (decl p specs (more_declarators (declarator stars None (arrays ls) i) no_declarators)) rest) w s t is named none few al = absurd named.0.0
  list_defined (more_decls (decl p specs (more_declarators (declarator stars (Some y) (arrays ls) i) no_declarators)) rest) w s t is named none few al =
      let d = declarator stars (Some y) (arrays ls) i in
      let v = behind_name y w in
      let here = none_first (decl_mark (decl p specs (more_declarators d no_declarators))) (decls_mark rest) none in
      let there = none_second (decl_mark (decl p specs (more_declarators d no_declarators))) (decls_mark rest) none in
      let in_name = none_first (declarator_mark d) None (none_second (specs_mark specs) (first (declarator_mark d) None) here) in
      let long = none_first (lengths_mark ls) (maybe_init_mark i) (none_second (name_mark (Some y)) (first (lengths_mark ls) (maybe_init_mark i)) in_name) in
      let few_v : HasFewItems v = few_before (params_on tables f (params rest) v) few in
      let a = param_defined p specs stars y ls i w s t (none_first (specs_mark specs) (first (declarator_mark d) None) here) (none_first (name_mark (Some y)) (first (lengths_mark ls) (maybe_init_mark i)) in_name) long few_v al in
      let x = type_param true p specs stars (Some y) ls i s in
      let z = type_param true p specs stars (Some (marked (mark y w) y)) ls i t in
      let r = list_defined rest v (step x.state) (step z.state) is.1 named.1 there few (steps_alike 0 0 (seen_at v) 1 a.state) in
      record { params = ap₂ more_decls a.param r.params; given = ap₂ (λ k l. (y.text, k) ∷ l) a.kind r.given; state = r.state }
  list_defined (more_decls (decl p specs (more_declarators (declarator stars x (function ps) i) no_declarators)) rest) w s t is named none few al = absurd is.0
  list_defined (more_decls (decl p specs (more_declarators (declarator stars x (arrays ls) i) (more_declarators d more))) rest) w s t is named none few al = absurd is.0
  list_defined (more_decls (decl p specs (more_declarators (declarator stars x (function ps) i) (more_declarators d more))) rest) w s t is named none few al = absurd is.0

  params_defined : (ps : ParamsShape) (w : Walked) (s t : State) → HasSingles ps → AreFitParams ps → params_mark ps ≡ None → HasFewItems (define_params tables f ps w) → Follows w s t → (
      let x = type_params true ps s in
      IsSignatureDefinedAs (define_params tables f ps w) x (defined_params tables f x.params w) (type_params true (defined_params tables f ps w) t))
  params_defined empty w s t is named none few al = record { params = refl; given = refl; state = steps_alike 0 0 (seen_at w) 2 al }
  params_defined void w s t is named none few al = record { params = refl; given = refl; state = steps_alike 0 0 (seen_at w) 3 al }
  params_defined (params ds) w s t is named none few al =
      let r = list_defined ds w _ _ is named none few (steps_alike 0 0 (seen_at w) 1 (no_params_alike 0 0 (seen_at w) al)) in
      record { params = ap params r.params; given = r.given; state = r.state }

  -- the declarator with its parameters defined
  abbrev defined_part : DeclaratorShape → Walked → DeclaratorShape
  defined_part (declarator stars x d i) w = declarator stars x (defined_signature tables f d w) i

  function_defined : (k k' : Option TypeOf) (stars : List Star) (x : Option Named) (ps : ParamsShape) (i : MaybeInit) (w : Walked) (s t : State) → k' ≡ k → HasSingles ps → AreFitParams ps → name_mark x ≡ None → params_mark ps ≡ None → HasFewItems (define_params tables f ps w) → Follows w s t → (
      let z = type_function true k stars x ps i s in
      IsFunctionDefinedAs (define_params tables f ps w) z (defined_part z.name w) (type_function true k' stars x (defined_params tables f ps w) i t))
  function_defined k k' stars x ps i w s t e is named none none_given few al =
      let seen = seen_at w in
      let late = seen_at (define_params tables f ps w) in
      let b = steps_alike 0 0 seen (star_tokens stars) al in
      let v = steps_alike 0 0 seen (name_tokens x) (claim_name_alike 0 0 seen false false x none b) in
      let q = params_defined ps w (at_params stars x s) (at_params stars x t) is named none_given few (outside_alike 0 0 seen false false refl (opened_scope_alike 0 0 seen v)) in
      let d = judged_function_alike 0 0 late true (token_of_name (steps (star_tokens stars) s).at x (steps (star_tokens stars) s)) (token_of_name (steps (star_tokens stars) t).at x (steps (star_tokens stars) t)) (name_pos first_place x) (text_of x) _ _ _ _ _ _ (ap (pointed stars) e) q.given (file_same 0 0 seen al) (closed_params_alike 0 0 late true q.state) in
      record { name = ap (λ z. declarator stars x (function z) i) q.params; number = d.number; given = q.given; state = d.state }

pub function_typed : FunctionsAreDefinedAs
function_typed tables f k k' stars x ps i w s t e is there h none none_given clean few al =
    let list = (type_params true ps (at_params stars x s)).params in
    let fits = (function_fits true k stars x ps i s is there h clean).2 refl in
    let r = function_defined tables f k k' stars x list i w s t e (params_single ps (at_params stars x s) is) fits none none_given few al in
    subst (λ (z : TypedFunction). IsFunctionDefinedAs (define_params tables f list w) z (defined_part tables f z.name w) (type_function true k' stars x (defined_params tables f list w) i t)) (function_again true k stars x ps i (at_params stars x s) s) r
