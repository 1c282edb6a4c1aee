-- The parameters of a list of which nothing is complained have names, all different, and none is that of a constant.
use Rattle.std.proofs.Common.{◌≡◌, ℕ, ◌+◌, List, [], ◌∷◌, length, Bool, true, false, Option, Some, None, refl, arith}
use Rattle.std.specs.Prelude.{bytes_eq}
use Rattle.std.specs.List.{AllByRecursion}
use Rattle.c_base.specs.declared.place.Pos.{Pos}
use Rattle.c_syntax.specs.declared.text.Text.{Text}
use Rattle.c_syntax.specs.declared.tree.Named.{Named}
use Rattle.c_syntax.specs.declared.tree.Star.{Star}
use Rattle.c_syntax.specs.Shape.{TypeOf, LengthShapes, SpecShapes, decl, DeclShapes, no_decls, more_decls, declarator, no_declarators, more_declarators, arrays, function, ParamsShape, empty, void, params, MaybeInit}
use Rattle.c_syntax.specs.Shaped.{ShapedParams, ShapedParamList}
use Rattle.c_scopes.specs.Rows.{Scope}
use Rattle.c_scopes.specs.Scoping.{named, find_here}
use Rattle.c_tree.specs.declared.meaning.Entity.{Entity}
use Rattle.c_tree.specs.declared.meaning.Entity.TheVariants as entity
use Rattle.c_tree.specs.State.{State, step, steps, complain}
use Rattle.c_tree.specs.Rulings.{rule, kind_at}
use Rattle.c_tree.specs.Parts.{unspelled, spelled_rule, star_tokens, pointed}
use Rattle.c_tree.specs.Typing.{type_specs, type_lengths}
use Rattle.c_tree.specs.Declaring.{parameter_at, parameter_rule, type_param, type_param_list, type_params}
use Rattle.c_tree.proofs.Grows.{rule_grows}
use Rattle.c_tree.proofs.GrowsUnits.{list_grows}
use Rattle.c_meaning.specs.Counts.{decls_variables, params_variables}
use Rattle.probe_laws.proofs.Settled.{IsThere, IsClean, mended}
use Rattle.probe_laws.proofs.Rules.{back}
use Rattle.probe_laws.proofs.FitDecls.{AreTyped}
use Rattle.flow_initial.proofs.KeepsParameters.{typed_before, typed_keeps, param_keeps, list_keeps, params_keep}
use Rattle.flow_values.proofs.Scopes.{all_map, named_new, free_before, different, Stand}
use Rattle.flow_values.proofs.NewNames.{meaning_kept, standing_kept}

-- ---- one parameter

abbrev pub IsParameter : Text → Scope Entity → Type 0
IsParameter x t = (n : ℕ) × (named x t ≡ Some (entity.Parameter n))

at_new : (token : ℕ) (p : Pos) (x : Text) (k : Option TypeOf) (e : Option Entity) (s : State) → find_here x s.names ≡ e → IsThere k → IsClean (parameter_at token p x k e s)
    → (named x s.names.top ≡ None) × IsParameter x (parameter_at token p x k e s).names.top
at_new token p x None None s free is c = absurd is
at_new token p x (Some t) None s free is c = (free, (length s.params + 1, named_new x (entity.Parameter (length s.params + 1)) s.names.top free))
at_new token p x k (Some e) s free is c = absurd (mended 31 token p s c)

param_new : (p : Pos) (specs : SpecShapes) (stars : List Star) (x : Named) (ls : LengthShapes) (i : MaybeInit) (s : State) → IsThere (type_param true p specs stars (Some x) ls i s).kind → IsClean (type_param true p specs stars (Some x) ls i s).state
    → (named x.text s.names.top ≡ None) × IsParameter x.text (type_param true p specs stars (Some x) ls i s).state.names.top
param_new p specs stars x ls i s is c =
    let z = typed_before true p specs stars (Some x) ls s in
    let one = at_new _ x.pos x.text (type_param true p specs stars (Some x) ls i s).kind (find_here x.text z.names) z refl is c in
    (free_before x.text s.names.top z.names.top (λ e. typed_keeps (λ c names. named x.text names ≡ Some e) (meaning_kept x.text e) true p specs stars (Some x) ls s) one.0, one.1)

nameless : (p : Pos) (specs : SpecShapes) (stars : List Star) (ls : LengthShapes) (i : MaybeInit) (s : State) → IsClean (type_param true p specs stars None ls i s).state → ⊥
nameless p specs stars ls i s c =
    let t = type_specs false specs unspelled s in
    let r = spelled_rule t.spelled in
    let l = type_lengths [] ls (steps 0 (steps (star_tokens stars) (rule r s.at p t.state))) in
    let k = parameter_rule l.state.rooms l.counts (pointed stars (kind_at r)) in
    mended 37 s.at p l.state (back (rule_grows k s.at p (complain 37 s.at p l.state)) c)

-- ---- lists

-- none of these names is declared
abbrev pub Free : Scope Entity → List (Text × Option TypeOf) → Type 0
Free t gs = AllByRecursion (λ (g : Text × Option TypeOf). named g.0 t ≡ None) gs

-- each stands for a parameter
abbrev pub Declared : Scope Entity → List (Text × Option TypeOf) → Type 0
Declared t gs = AllByRecursion (λ (g : Text × Option TypeOf). IsParameter g.0 t) gs

abbrev pub Apart : List (Text × Option TypeOf) → Type 0
Apart [] = Unit {0}
Apart (g ∷ gs) = AllByRecursion (λ (h : Text × Option TypeOf). bytes_eq h.0 g.0 ≡ false) gs × Apart gs

list_new : (ds : DeclShapes) (s : State) → ShapedParamList ds → AreTyped (type_param_list true ds s).given → IsClean (type_param_list true ds s).state
    → Free s.names.top (type_param_list true ds s).given × Declared (type_param_list true ds s).state.names.top (type_param_list true ds s).given × Apart (type_param_list true ds s).given
    × (decls_variables (type_param_list true ds s).params ≡ length (type_param_list true ds s).given)
list_new no_decls s is typed c = (tt, tt, tt, refl)
list_new (more_decls (decl p specs no_declarators) rest) s is typed c = absurd is.0
list_new (more_decls (decl p specs (more_declarators (declarator stars None (arrays ls) i) no_declarators)) rest) s is typed c =
    absurd (nameless p specs stars ls i s (back (list_grows true rest (step (type_param true p specs stars None ls i s).state)) c))
list_new (more_decls (decl p specs (more_declarators (declarator stars (Some x) (arrays ls) i) no_declarators)) rest) s is typed c =
    let a = type_param true p specs stars (Some x) ls i s in
    let r = type_param_list true rest (step a.state) in
    let old = s.names.top in
    let new = a.state.names.top in
    let one = param_new p specs stars x ls i s typed.0 (back (list_grows true rest (step a.state)) c) in
    let two = list_new rest (step a.state) is.1 typed.1 c in
    let n = one.1.0 in
    let stands = one.1.1 in (
      (
        one.0,
        all_map (λ (g : Text × Option TypeOf). named g.0 new ≡ None) (λ (g : Text × Option TypeOf). named g.0 old ≡ None)
            (λ g. free_before g.0 old new (λ e. param_keeps (λ c names. named g.0 names ≡ Some e) (meaning_kept g.0 e) true p specs stars (Some x) ls i s)) r.given two.0,
      ),
      ((n, list_keeps (λ c names. named x.text names ≡ Some (entity.Parameter n)) (meaning_kept x.text (entity.Parameter n)) true rest (step a.state) stands), two.1),
      (all_map (λ (g : Text × Option TypeOf). named g.0 new ≡ None) (λ (g : Text × Option TypeOf). bytes_eq g.0 x.text ≡ false) (λ g free. different g.0 x.text new (λ e. cc)) r.given two.0, two.2),
      let more = two.3 in omega (arith, more),
    )
list_new (more_decls (decl p specs (more_declarators (declarator stars x (function ps) i) no_declarators)) rest) s is typed c = let e = is.0.1.1.0 in cc
list_new (more_decls (decl p specs (more_declarators (declarator stars x (arrays ls) i) (more_declarators d more))) rest) s is typed c = absurd is.0
list_new (more_decls (decl p specs (more_declarators (declarator stars x (function ps) i) (more_declarators d more))) rest) s is typed c = absurd is.0

params_shaped : (ds : DeclShapes) → ShapedParams (params ds) → ShapedParamList ds
params_shaped no_decls is = absurd is
params_shaped (more_decls d rest) is = (is.0, is.1)

pub params_new : (ps : ParamsShape) (s : State) → ShapedParams ps → AreTyped (type_params true ps s).given → IsClean (type_params true ps s).state
    → Declared (type_params true ps s).state.names.top (type_params true ps s).given × Apart (type_params true ps s).given × (params_variables (type_params true ps s).params ≡ length (type_params true ps s).given)
params_new empty s is typed c = (tt, tt, refl)
params_new void s is typed c = (tt, tt, refl)
params_new (params ds) s is typed c = let one = list_new ds (step (record s { params = [] })) (params_shaped ds is) typed c in (one.1, one.2, one.3)

-- each row of the list's scope is what its name stands for
pub stand_kept : (defining : Bool) (ps : ParamsShape) (s : State) → Stand s.names.top s.names.top → Stand (type_params defining ps s).state.names.top (type_params defining ps s).state.names.top
stand_kept defining ps s h = params_keep (λ c names. Stand names names) standing_kept defining ps s h
