-- Functions with bodies, typed in place.
use Rattle.std.proofs.Common.{◌≡◌, ℕ, List, Option, true, refl, ap, ◌∙◌}
use Rattle.c_type_rules.specs.Verdicts.{result_type}
use Rattle.c_syntax.specs.declared.text.Text.{Text}
use Rattle.c_syntax.specs.declared.tree.Named.{Named}
use Rattle.c_syntax.specs.declared.tree.Star.{Star}
use Rattle.c_syntax.specs.declared.tree.ProbeMark.{ProbeMark}
use Rattle.c_syntax.specs.declared.tree.Params.{Params}
use Rattle.c_syntax.specs.declared.tree.DeclForm.{DeclForm}
use Rattle.c_syntax.specs.declared.tree.DeclForm.TheVariants as form
use Rattle.c_syntax.specs.View.{params_shape, decl_form_shape}
use Rattle.c_syntax.specs.Shape.{TypeOf, SpecShapes, DeclaratorShape, declarator, DeclFormShape, arrays, function, ParamsShape, MaybeInit, no_init, CompoundShape, ExternalShape, defined, declared}
use Rattle.c_tree.specs.State.{State}
use Rattle.c_tree.specs.Rulings.{by, kind_at}
use Rattle.c_tree.specs.Parts.{pointed}
use Rattle.c_tree.specs.Declaring.{TypedFunction, type_function}
use Rattle.c_tree.specs.Units.{TypedExternal, type_definition, type_external, ended_function}
use Rattle.c_types.specs.Defined.{typed_specs, kind_of_specs, behind_specs, defined_body}
use Rattle.c_tree.specs.Complaints.{wrong_type}

module _ (specs : SpecShapes) (f : TypedFunction) (k : Option TypeOf) (marks : List ProbeMark) (c : CompoundShape)
    (n : ℕ) (given : List (Text × Option TypeOf)) (t : State) (hn : n ≡ f.number) (hg : given ≡ f.given) (ht : t ≡ f.state) where
  definition_tree : (x : DeclaratorShape) (b : CompoundShape) → x ≡ f.name → b ≡ (defined_body n given k marks c t).compound → defined specs x marks b ≡ (type_definition specs f k marks c).external
  definition_tree x b e d = rw (e, d, hn, hg, ht) refl

  definition_state : (u : State) → u ≡ ended_function (defined_body n given k marks c t).state → u ≡ (type_definition specs f k marks c).state
  definition_state u d = rw (d, hn, hg, ht) refl

module _ (specs : SpecShapes) (stars : List Star) (x : Option Named) (ps : ParamsShape) (marks : List ProbeMark) (c : CompoundShape) (s : State)
    (sp : SpecShapes) (k g : Option TypeOf) (r : State)
    (hs : sp ≡ (typed_specs specs s).specs) (hk : k ≡ kind_of_specs specs s) (hr : r ≡ behind_specs specs s) (hg : g ≡ kind_at (by wrong_type (result_type (pointed stars k)))) where
  pub whole : type_definition sp (type_function true k stars x ps no_init r) g marks c ≡ type_external (defined specs (declarator stars x (function ps) no_init) marks c) s
  whole = rw (hg, hs, hk, hr) refl

module _ (specs : SpecShapes) (stars : List Star) (x : Option Named) (ps : ParamsShape) (marks : List ProbeMark) (c : CompoundShape) (s : State)
    (sp : SpecShapes) (k g : Option TypeOf) (r : State)
    (hs : sp ≡ (typed_specs specs s).specs) (hk : k ≡ kind_of_specs specs s) (hr : r ≡ behind_specs specs s) (hg : g ≡ kind_at (by wrong_type (result_type (pointed stars k))))
    (n : ℕ) (given : List (Text × Option TypeOf)) (t : State) (fn : n ≡ (type_function true k stars x ps no_init r).number) (fg : given ≡ (type_function true k stars x ps no_init r).given) (ft : t ≡ (type_function true k stars x ps no_init r).state) where
  pub defined_tree : (y : DeclaratorShape) (b : CompoundShape) → y ≡ (type_function true k stars x ps no_init r).name → b ≡ (defined_body n given g marks c t).compound →
      defined sp y marks b ≡ (type_external (defined specs (declarator stars x (function ps) no_init) marks c) s).external
  defined_tree y b e d =
      definition_tree sp (type_function true k stars x ps no_init r) g marks c n given t fn fg ft y b e d
      ∙ ap (λ (z : TypedExternal). z.external) (whole specs stars x ps marks c s sp k g r hs hk hr hg)

  pub defined_state : (u : State) → u ≡ ended_function (defined_body n given g marks c t).state → u ≡ (type_external (defined specs (declarator stars x (function ps) no_init) marks c) s).state
  defined_state u d =
      definition_state sp (type_function true k stars x ps no_init r) g marks c n given t fn fg ft u d
      ∙ ap (λ (z : TypedExternal). z.state) (whole specs stars x ps marks c s sp k g r hs hk hr hg)

-- ---- what stands behind the name, and an initialiser behind that

module _ (specs : SpecShapes) (stars : List Star) (x : Option Named) (marks : List ProbeMark) (c : CompoundShape) (s : State) where
  pub as_function : (f : DeclForm) (p q : Params) → f ≡ form.Function p → q ≡ p →
      type_external (defined specs (declarator stars x (function (params_shape q)) no_init) marks c) s ≡ type_external (defined specs (declarator stars x (decl_form_shape f) no_init) marks c) s
  as_function f p q e h = rw (e, h) refl

pub function_tree : (sp : SpecShapes) (stars : List Star) (x : Option Named) (g : DeclForm) (q : ParamsShape) (marks : List ProbeMark) (b : CompoundShape) (e : ExternalShape) → decl_form_shape g ≡ function q →
    defined sp (declarator stars x (function q) no_init) marks b ≡ e → defined sp (declarator stars x (decl_form_shape g) no_init) marks b ≡ e
function_tree sp stars x g q marks b e h d = rw h d

-- the declarator has that initialiser
with_init : MaybeInit → ExternalShape → ExternalShape
with_init i (defined specs (declarator stars x f j) marks c) = defined specs (declarator stars x f i) marks c
with_init i (declared d) = declared d

module _ (i : MaybeInit) (specs : SpecShapes) (stars st : List Star) (x : Option Named) (marks : List ProbeMark) (c : CompoundShape) (s : State) (h : st ≡ stars) where
  pub init_tree : (f : DeclFormShape) (sp : SpecShapes) (g : DeclFormShape) (b : CompoundShape) →
      defined sp (declarator st x g no_init) marks b ≡ (type_external (defined specs (declarator st x f no_init) marks c) s).external → defined sp (declarator stars x g i) marks b ≡ (type_external (defined specs (declarator stars x f i) marks c) s).external
  unfolding with_init
  init_tree (arrays ls) sp g b e = rw (← h) (ap (with_init i) e)
  init_tree (function ps) sp g b e = rw (← h) (ap (with_init i) e)

  pub init_state : (f : DeclFormShape) (u : State) → u ≡ (type_external (defined specs (declarator st x f no_init) marks c) s).state → u ≡ (type_external (defined specs (declarator stars x f i) marks c) s).state
  init_state (arrays ls) u e = e
  init_state (function ps) u e = rw (← h) e
