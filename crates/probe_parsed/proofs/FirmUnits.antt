-- A program with its probes is one that the grammar allows, where the program is.
use Rattle.std.proofs.Common.{◌≡◌, ◌≢◌, ℕ, max, List, [], ◌∷◌, map, Bool, true, false, Option, Some, None, refl, sym, ap, ap₂, ◌∙◌, subst, arith}
use Rattle.std.specs.Prelude.{◌||◌}
use Rattle.c_syntax.specs.declared.text.Text.{Text}
use Rattle.c_syntax.specs.declared.token.Key.TheVariants as k
use Rattle.c_syntax.specs.declared.token.TokenKind.{TokenKind}
use Rattle.c_syntax.specs.declared.token.TokenKind.TheVariants as kind
use Rattle.c_syntax.specs.declared.tree.Named.{Named}
use Rattle.c_syntax.specs.Forms.{kinds}
use Rattle.c_syntax.specs.Grammar.{param_list_form}
use Rattle.c_syntax.specs.Shape.{DeclShape, decl, DeclShapes, no_decls, more_decls, DeclaratorShape, declarator, DeclaratorShapes, no_declarators, more_declarators, arrays, function, empty, void, params, no_init, one_init, InitShape, one, listed, StmtShape, stmt, FormShape, compound, simply, when, either, while, do_while, for, switch, break, continue, return, CompoundShape, braces, ItemShapes, no_items, more_items, ExternalShape, defined, declared}
use Rattle.c_syntax.specs.Levels.{decls_height, decl_height, declarators_height, declarator_height, init_height, item_height, stmt_height, form_height, compound_height, items_height, external_height, externals_height}
use Rattle.c_syntax.specs.Shaped.{Standing, in_names, in_params, name_fits, ShapedDecls, ShapedDecl, ShapedDeclarators, ShapedDeclarator, ShapedParams, ShapedParamList, ShapedParam, ShapedInit, Closed, ClosedForm, ShapedStmt, ShapedForm, ShapedCompound, ShapedItems, ShapedExternal, ShapedExternals, ShapedUnit}
use Rattle.c_tables.specs.Tables.{TablesShape}
use Rattle.c_tables.specs.Rows.{text_of}
use Rattle.c_tree.specs.Unnoted.{bare_decl, bare_decls, bare_name, bare_names, bare_params, bare_init, bare_label, bare_stmt, bare_body, bare_compound, bare_items, bare_external, bare_unit}
use Rattle.c_walk.specs.declared.around.Around.{Around}
use Rattle.c_walk.specs.declared.around.Taken.TheVariants.{Read}
use Rattle.c_walk.specs.Walked.{Walked, with_block, with_block_if}
use Rattle.c_walk.specs.Walking.{walk_test, walk_maybe, walk_loop_test, walk_maybe_test, walk_step}
use Rattle.c_walk.specs.Stating.{with_variable, with_whole_def, walk_declarator, walk_decl, walk_decls, pos_of_stmt, splits, is_labelled, walk_choice, walk_stmt, walk_part}
use Rattle.c_walk.specs.Units.{define_declarator, define_decl, define_decls, function_of, in_function, walk_external, walk_externals, no_items as nothing_yet}
use Rattle.c_sites_probes.specs.Marked.{first, name_mark, mark_among, node_mark, maybe_mark, lengths_mark, specs_mark, decls_mark, decl_mark, declarators_mark, declarator_mark, maybe_init_mark, init_mark, labels_mark, stmt_mark, body_mark, compound_mark, items_mark, external_mark, externals_mark, line_mark}
use Rattle.c_meaning.specs.Calls.{Source}
use Rattle.c_meaning.proofs.Walks.{compound_on, block_on, externals_on}
use Rattle.probe_rules.specs.Marks.{defined_name}
use Rattle.probe_rules.specs.ProbedStatements.{probed_init, probed_declarator, probed_declarators, probed_decl, probed_decls, probed_stmt, probed_body, probed_compound, probed_items}
use Rattle.probe_rules.specs.Instrumented.{defined_declarator, defined_declarators, defined_decl, defined_decls, probed_external, probed_externals, instrumented}
use Rattle.probe_rules.specs.Fitting.{HasFewItems}
use Rattle.probe_rules.specs.Simulation.{IsPlain, all_walked}
use Rattle.probe_rules.proofs.ReadyUnits.{none_first, none_second}
use Rattle.probe_rules.proofs.Few.{few_before}
use Rattle.probe_parsed.proofs.Woven.{Origin, old, put, all_kinds, old_kinds, IsPut, ArePut, Woven}
use Rattle.probe_parsed.proofs.WovenUnits.{param_list_woven}
use Rattle.c_tree.proofs.BareForms.{param_list_same}
use Rattle.probe_parsed.proofs.Firm.{node_firm, tested_firm, right_firm, maybe_firm, maybe_test_firm, step_firm, choice_firm}

-- ---- names

names_fit : (x : Option Named) (w : Walked) → name_fits in_names x ≡ true → name_fits in_names (defined_name x w) ≡ true
names_fit None w fits = fits
names_fit (Some x) w fits = refl

params_fit : (x : Option Named) (w : Walked) → name_fits in_params x ≡ true → name_fits in_params (defined_name x w) ≡ true
params_fit None w fits = fits
params_fit (Some x) w fits = refl

-- ---- local declarations

init_firm : (c : Around) (i : InitShape) (w : Walked) → init_mark i ≡ None → ShapedInit (bare_init i) → ShapedInit (bare_init (probed_init c i w)) × (init_height (bare_init (probed_init c i w)) ≡ init_height (bare_init i))
init_firm c (one a) w none s = let j = node_firm c Read a w none s.1 in ((omega (arith, s.0, j.level), j.shaped), omega (arith, j.height))
init_firm c (listed p items last) w none s = (s, refl)

declarator_firm : (t : TablesShape) (c : Around) (d : DeclaratorShape) (w : Walked) → declarator_mark d ≡ None → ShapedDeclarator in_names (bare_name d) → ShapedDeclarator in_names (bare_name (probed_declarator t c d w)) × (declarator_height (bare_name (probed_declarator t c d w)) ≡ declarator_height (bare_name d))
declarator_firm t c (declarator stars x (arrays ls) no_init) w none s = (s, refl)
declarator_firm t c (declarator stars x (arrays ls) (one_init i)) w none s =
    let v = with_variable w in
    let j = init_firm c i (with_whole_def t c.function x v) (none_second (lengths_mark ls) (init_mark i) (none_second (name_mark x) (first (lengths_mark ls) (init_mark i)) none)) s.2.1 in
    ((names_fit x v s.0, s.1, (s.2.0, j.0)), omega (arith, j.1))
declarator_firm t c (declarator stars x (function ps) i) w none s = (s, refl)

names_firm : (t : TablesShape) (c : Around) (ds : DeclaratorShapes) (w : Walked) → declarators_mark ds ≡ None → ShapedDeclarators in_names (bare_names ds) → ShapedDeclarators in_names (bare_names (probed_declarators t c ds w)) × (declarators_height (bare_names (probed_declarators t c ds w)) ≡ declarators_height (bare_names ds))
names_firm t c no_declarators w none s = (tt, refl)
names_firm t c (more_declarators d rest) w none s =
    let i = declarator_firm t c d w (none_first (declarator_mark d) (declarators_mark rest) none) s.0 in
    let j = names_firm t c rest (walk_declarator t c d w) (none_second (declarator_mark d) (declarators_mark rest) none) s.1 in
    ((i.0, j.0), ap₂ max i.1 j.1)

decl_firm : (t : TablesShape) (c : Around) (d : DeclShape) (w : Walked) → decl_mark d ≡ None → ShapedDecl in_names (bare_decl d) → ShapedDecl in_names (bare_decl (probed_decl t c d w)) × (decl_height (bare_decl (probed_decl t c d w)) ≡ decl_height (bare_decl d))
decl_firm t c (decl p specs no_declarators) w none s = (s, refl)
decl_firm t c (decl p specs (more_declarators d rest)) w none s =
    let here = none_second (specs_mark specs) (first (declarator_mark d) (declarators_mark rest)) none in
    let i = declarator_firm t c d w (none_first (declarator_mark d) (declarators_mark rest) here) s.1 in
    let j = names_firm t c rest (walk_declarator t c d w) (none_second (declarator_mark d) (declarators_mark rest) here) s.2 in
    ((s.0, i.0, j.0), omega (arith, i.1, j.1))

decls_firm : (t : TablesShape) (c : Around) (ds : DeclShapes) (w : Walked) → decls_mark ds ≡ None → ShapedDecls in_names (bare_decls ds) → ShapedDecls in_names (bare_decls (probed_decls t c ds w)) × (decls_height (bare_decls (probed_decls t c ds w)) ≡ decls_height (bare_decls ds))
decls_firm t c no_decls w none s = (tt, refl)
decls_firm t c (more_decls d rest) w none s =
    let i = decl_firm t c d w (none_first (decl_mark d) (decls_mark rest) none) s.0 in
    let j = decls_firm t c rest (walk_decl t c d w) (none_second (decl_mark d) (decls_mark rest) none) s.1 in
    ((i.0, j.0), ap₂ max i.1 j.1)

-- ---- statements

record FirmStmt (a b : StmtShape) : Type 0 where
  pub shaped : ShapedStmt (bare_stmt b)
  pub height : stmt_height (bare_stmt b) ≡ stmt_height (bare_stmt a)
  pub closed : Closed (bare_stmt a) → Closed (bare_stmt b)

record FirmBody (f g : FormShape) : Type 0 where
  pub shaped : ShapedForm (bare_body g)
  pub height : form_height (bare_body g) ≡ form_height (bare_body f)
  pub closed : ClosedForm (bare_body f) → ClosedForm (bare_body g)

mutual
  stmt_firm : (t : TablesShape) (c : Around) (b : Bool) (a : StmtShape) (w : Walked) → stmt_mark a ≡ None → ShapedStmt (bare_stmt a) → FirmStmt a (probed_stmt t c b a w)
  stmt_firm t c b (stmt p ms q f) w none s =
      let i = body_firm t c f (with_block_if b p w) (none_second (mark_among ms) (body_mark f) none) s in
      record { shaped = i.shaped; height = omega (arith, i.height); closed = i.closed }

  body_firm : (t : TablesShape) (c : Around) (f : FormShape) (w : Walked) → body_mark f ≡ None → ShapedForm (bare_body f) → FirmBody f (probed_body t c f w)
  body_firm t c (compound d) w none s = let i = compound_firm t c d w none s in record { shaped = i.0; height = i.1; closed = λ x. x }
  body_firm t c (simply e) w none s = let i = maybe_firm c e w none s in record { shaped = i.shaped; height = i.height; closed = λ x. x }
  body_firm t c (when e a) w none s =
      let i = tested_firm c e w (none_first (node_mark e) (stmt_mark a) none) s.0 in
      let j = stmt_firm t c true a (walk_test c e w) (none_second (node_mark e) (stmt_mark a) none) s.1 in
      record { shaped = (i.shaped, j.shaped); height = ap₂ max i.height j.height; closed = λ x. x }
  body_firm t c (either e a b) w none s =
      let v = walk_test c e w in
      let rest = none_second (node_mark e) (first (stmt_mark a) (stmt_mark b)) none in
      let i = tested_firm c e w (none_first (node_mark e) (first (stmt_mark a) (stmt_mark b)) none) s.0 in
      let j = stmt_firm t c true a v (none_first (stmt_mark a) (stmt_mark b) rest) s.1 in
      let l = stmt_firm t c true b (walk_part t c a v) (none_second (stmt_mark a) (stmt_mark b) rest) s.3 in
      record { shaped = (i.shaped, j.shaped, j.closed s.2, l.shaped); height = ap₂ max i.height (ap₂ max j.height l.height); closed = l.closed }
  body_firm t c (while e a) w none s =
      let i = right_firm c e w (none_first (node_mark e) (stmt_mark a) none) s.0 in
      let j = stmt_firm t c true a (walk_loop_test c e w) (none_second (node_mark e) (stmt_mark a) none) s.1 in
      record { shaped = (i.shaped, j.shaped); height = ap₂ max i.height j.height; closed = j.closed }
  body_firm t c (do_while a e) w none s =
      let i = stmt_firm t c true a w (none_first (stmt_mark a) (node_mark e) none) s.0 in
      let j = right_firm c e (walk_part t c a w) (none_second (stmt_mark a) (node_mark e) none) s.1 in
      record { shaped = (i.shaped, j.shaped); height = ap₂ max i.height j.height; closed = λ x. x }
  body_firm t c (for e f g a) w none s =
      let u = walk_maybe c e w in
      let v = walk_maybe_test c f u in
      let rest = none_second (maybe_mark e) (first (maybe_mark f) (first (maybe_mark g) (stmt_mark a))) none in
      let more = none_second (maybe_mark f) (first (maybe_mark g) (stmt_mark a)) rest in
      let i = maybe_firm c e w (none_first (maybe_mark e) (first (maybe_mark f) (first (maybe_mark g) (stmt_mark a))) none) s.0 in
      let j = maybe_test_firm c f u (none_first (maybe_mark f) (first (maybe_mark g) (stmt_mark a)) rest) s.1 in
      let l = step_firm c g v (none_first (maybe_mark g) (stmt_mark a) more) s.2 in
      let m = stmt_firm t c true a (walk_step c g v) (none_second (maybe_mark g) (stmt_mark a) more) s.3 in
      record { shaped = (i.shaped, j.shaped, l.shaped, m.shaped); height = ap₂ max i.height (ap₂ max j.height (ap₂ max l.height m.height)); closed = m.closed }
  body_firm t c (switch e items) w none s =
      let i = choice_firm c e items w (none_first (node_mark e) (items_mark items) none) s.0 in
      let j = items_firm t c false items (walk_choice c e items w) (none_second (node_mark e) (items_mark items) none) s.1 in
      record { shaped = (i.shaped, j.0); height = omega (arith, i.height, j.1); closed = λ x. x }
  body_firm t c break w none s = record { shaped = tt; height = refl; closed = λ x. x }
  body_firm t c continue w none s = record { shaped = tt; height = refl; closed = λ x. x }
  body_firm t c (return e) w none s = let i = maybe_firm c e w none s in record { shaped = i.shaped; height = i.height; closed = λ x. x }

  compound_firm : (t : TablesShape) (c : Around) (d : CompoundShape) (w : Walked) → compound_mark d ≡ None → ShapedCompound (bare_compound d) → ShapedCompound (bare_compound (probed_compound t c d w)) × (compound_height (bare_compound (probed_compound t c d w)) ≡ compound_height (bare_compound d))
  compound_firm t c (braces p ds items) w none s =
      let i = decls_firm t c ds w (none_first (decls_mark ds) (items_mark items) none) s.0 in
      let j = items_firm t c false items (walk_decls t c ds w) (none_second (decls_mark ds) (items_mark items) none) s.1 in
      ((i.0, j.0), omega (arith, i.1, j.1))

  items_firm : (t : TablesShape) (c : Around) (after : Bool) (items : ItemShapes) (w : Walked) → items_mark items ≡ None → ShapedItems (bare_items items) → ShapedItems (bare_items (probed_items t c after items w)) × (items_height (bare_items (probed_items t c after items w)) ≡ items_height (bare_items items))
  items_firm t c after no_items w none s = (tt, refl)
  items_firm t c after (more_items labels a rest) w none s =
      let b = after || is_labelled labels in
      let v = walk_stmt t c a (with_block_if b (pos_of_stmt a) w) in
      let more = none_second (labels_mark labels) (first (stmt_mark a) (items_mark rest)) none in
      let i = stmt_firm t c b a w (none_first (stmt_mark a) (items_mark rest) more) s.1 in
      let j = items_firm t c (splits a) rest v (none_second (stmt_mark a) (items_mark rest) more) s.2 in
      ((s.0, i.shaped, j.0), ap₂ max (ap (item_height (map bare_label labels)) i.height) j.1)

-- ---- what is defined at its name

defined_firm : (in' : Standing) → ((x : Option Named) (w : Walked) → name_fits in' x ≡ true → name_fits in' (defined_name x w) ≡ true) → (t : TablesShape) (f : ℕ) (d : DeclaratorShape) (w : Walked) → ShapedDeclarator in' (bare_name d) → ShapedDeclarator in' (bare_name (defined_declarator t f d w)) × (declarator_height (bare_name (defined_declarator t f d w)) ≡ declarator_height (bare_name d))
defined_firm in' fit t f (declarator stars x (arrays ls) i) w s = ((fit x (with_variable w) s.0, s.1, s.2), refl)
defined_firm in' fit t f (declarator stars x (function ps) i) w s = (s, refl)

all_defined_firm : (t : TablesShape) (f : ℕ) (ds : DeclaratorShapes) (w : Walked) → ShapedDeclarators in_names (bare_names ds) → ShapedDeclarators in_names (bare_names (defined_declarators t f ds w)) × (declarators_height (bare_names (defined_declarators t f ds w)) ≡ declarators_height (bare_names ds))
all_defined_firm t f no_declarators w s = (tt, refl)
all_defined_firm t f (more_declarators d rest) w s =
    let i = defined_firm in_names names_fit t f d w s.0 in
    let j = all_defined_firm t f rest (define_declarator t f d w) s.1 in
    ((i.0, j.0), ap₂ max i.1 j.1)

defining_firm : (t : TablesShape) (f : ℕ) (d : DeclShape) (w : Walked) → ShapedDecl in_names (bare_decl d) → ShapedDecl in_names (bare_decl (defined_decl t f d w)) × (decl_height (bare_decl (defined_decl t f d w)) ≡ decl_height (bare_decl d))
defining_firm t f (decl p specs no_declarators) w s = (s, refl)
defining_firm t f (decl p specs (more_declarators d rest)) w s =
    let i = defined_firm in_names names_fit t f d w s.1 in
    let j = all_defined_firm t f rest (define_declarator t f d w) s.2 in
    ((s.0, i.0, j.0), omega (arith, i.1, j.1))

param_firm : (t : TablesShape) (f : ℕ) (d : DeclShape) (w : Walked) → ShapedParam (bare_decl d) → ShapedParam (bare_decl (defined_decl t f d w)) × (decl_height (bare_decl (defined_decl t f d w)) ≡ decl_height (bare_decl d))
param_firm t f (decl p specs no_declarators) w s = absurd s
param_firm t f (decl p specs (more_declarators d no_declarators)) w s = let i = defined_firm in_params params_fit t f d w s.1 in ((s.0, i.0), omega (arith, i.1))
param_firm t f (decl p specs (more_declarators d (more_declarators e rest))) w s = absurd s

param_list_firm : (t : TablesShape) (f : ℕ) (ds : DeclShapes) (w : Walked) → ShapedParamList (bare_decls ds) → ShapedParamList (bare_decls (defined_decls t f ds w)) × (decls_height (bare_decls (defined_decls t f ds w)) ≡ decls_height (bare_decls ds))
param_list_firm t f no_decls w s = (tt, refl)
param_list_firm t f (more_decls d rest) w s =
    let i = param_firm t f d w s.0 in
    let j = param_list_firm t f rest (define_decl t f d w) s.1 in
    ((i.0, j.0), ap₂ max i.1 j.1)

-- ---- a list of parameters is no `void`

abbrev Nil : List TokenKind → Type 0
Nil [] = Unit {0}
Nil (k ∷ ks) = ⊥

abbrev first_kind : List TokenKind → TokenKind
first_kind [] = kind.Key k.Void
first_kind (x ∷ xs) = x

abbrev others : List TokenKind → List TokenKind
others [] = []
others (x ∷ xs) = xs

none_left : (os : List Origin) → all_kinds os ≡ [] → old_kinds os ≡ []
none_left [] e = refl
none_left (old x ∷ os) e = absurd (subst Nil (sym e) tt)
none_left (put x ∷ os) e = absurd (subst Nil (sym e) tt)

lone_void : (os : List Origin) → ArePut os → all_kinds os ≡ kind.Key k.Void ∷ [] → old_kinds os ≡ kind.Key k.Void ∷ []
lone_void [] f e = absurd (subst Nil e tt)
lone_void (old x ∷ os) f e = ap₂ (λ y ys. y ∷ ys) (ap first_kind e) (none_left os (ap others e))
lone_void (put x ∷ os) f e = absurd (subst IsPut (ap first_kind e) f.0)

void_before : (ks ls : List TokenKind) → Woven ks ls → ls ≡ kind.Key k.Void ∷ [] → ks ≡ kind.Key k.Void ∷ []
void_before ks ls a e = sym a.was ∙ lone_void a.origins a.fine (a.is ∙ e)

no_void : (t : TablesShape) (f : ℕ) (ds : DeclShapes) (w : Walked) → decls_mark ds ≡ None → HasFewItems (define_decls t f ds w) → kinds (param_list_form (bare_decls ds)) ≢ kind.Key k.Void ∷ [] → kinds (param_list_form (bare_decls (defined_decls t f ds w))) ≢ kind.Key k.Void ∷ []
no_void t f ds w none few other e =
    other (ap kinds (param_list_same ds) ∙ void_before (kinds (param_list_form ds)) (kinds (param_list_form (defined_decls t f ds w))) (param_list_woven t f ds w none few) (sym (ap kinds (param_list_same (defined_decls t f ds w))) ∙ e))

params_firm : (t : TablesShape) (f : ℕ) (ds : DeclShapes) (w : Walked) → decls_mark ds ≡ None → HasFewItems (define_decls t f ds w) → ShapedParams (bare_params (params ds)) → ShapedParams (bare_params (params (defined_decls t f ds w))) × (decls_height (bare_decls (defined_decls t f ds w)) ≡ decls_height (bare_decls ds))
params_firm t f no_decls w none few s = absurd s
params_firm t f (more_decls d rest) w none few s =
    let i = param_firm t f d w s.0 in
    let j = param_list_firm t f rest (define_decl t f d w) s.1 in
    ((i.0, j.0, no_void t f (more_decls d rest) w none few s.2), ap₂ max i.1 j.1)

-- ---- programs

external_firm : (t : TablesShape) (e : ExternalShape) (w : Walked) → external_mark e ≡ None → HasFewItems (walk_external t e w) → ShapedExternal (bare_external e) → ShapedExternal (bare_external (probed_external t e w)) × (external_height (bare_external (probed_external t e w)) ≡ external_height (bare_external e))
external_firm t (declared d) w none few s = let i = defining_firm t 0 d w s in (i.0, omega (arith, i.1))
external_firm t (defined specs (declarator stars x (arrays ls) i) ms (braces p ds items)) w none few s = absurd s.1
external_firm t (defined specs (declarator stars x (function empty) i) ms (braces p ds items)) w none few s =
    let f = function_of t (text_of x) in
    let b = braces p ds items in
    let rest = none_second (specs_mark specs) (first (declarator_mark (declarator stars x (function empty) i)) (first (mark_among ms) (compound_mark b))) none in
    let body = none_second (mark_among ms) (compound_mark b) (none_second (declarator_mark (declarator stars x (function empty) i)) (first (mark_among ms) (compound_mark b)) rest) in
    let j = compound_firm t (in_function f) b (with_block p w) body s.3 in
    ((s.0, tt, s.2, j.0), omega (arith, j.1))
external_firm t (defined specs (declarator stars x (function void) i) ms (braces p ds items)) w none few s =
    let f = function_of t (text_of x) in
    let b = braces p ds items in
    let rest = none_second (specs_mark specs) (first (declarator_mark (declarator stars x (function void) i)) (first (mark_among ms) (compound_mark b))) none in
    let body = none_second (mark_among ms) (compound_mark b) (none_second (declarator_mark (declarator stars x (function void) i)) (first (mark_among ms) (compound_mark b)) rest) in
    let j = compound_firm t (in_function f) b (with_block p w) body s.3 in
    ((s.0, tt, s.2, j.0), omega (arith, j.1))
external_firm t (defined specs (declarator stars x (function (params ps)) i) ms (braces p ds items)) w none few s =
    let f = function_of t (text_of x) in
    let b = braces p ds items in
    let v = define_decls t f ps w in
    let name = declarator_mark (declarator stars x (function (params ps)) i) in
    let rest = none_second (specs_mark specs) (first name (first (mark_among ms) (compound_mark b))) none in
    let body = none_second (mark_among ms) (compound_mark b) (none_second name (first (mark_among ms) (compound_mark b)) rest) in
    let here = none_first name (first (mark_among ms) (compound_mark b)) rest in
    let list = none_first (decls_mark ps) (maybe_init_mark i) (none_second (name_mark x) (first (decls_mark ps) (maybe_init_mark i)) here) in
    let few_v : HasFewItems v = few_before (block_on p v) (few_before (compound_on t (in_function f) b (with_block p v)) few) in
    let l = params_firm t f ps w list few_v s.2.1.1 in
    let j = compound_firm t (in_function f) b (with_block p v) body s.3 in
    ((s.0, tt, (s.2.0, (s.2.1.0, l.0), s.2.2), j.0), omega (arith, j.1, l.1))

externals_firm : (t : TablesShape) (es : List ExternalShape) (w : Walked) → externals_mark es ≡ None → HasFewItems (walk_externals t es w) → ShapedExternals (map bare_external es) → ShapedExternals (map bare_external (probed_externals t es w)) × (externals_height (map bare_external (probed_externals t es w)) ≡ externals_height (map bare_external es))
externals_firm t [] w none few s = (tt, refl)
externals_firm t (e ∷ rest) w none few s =
    let v = walk_external t e w in
    let i = external_firm t e w (none_first (external_mark e) (externals_mark rest) none) (few_before (externals_on t rest v) few) s.0 in
    let j = externals_firm t rest v (none_second (external_mark e) (externals_mark rest) none) few s.1 in
    ((i.0, j.0), ap₂ max i.1 j.1)

abbrev Empty : List ExternalShape → Type 0
Empty [] = Unit {0}
Empty (e ∷ es) = ⊥

some_still : (t : TablesShape) (es : List ExternalShape) (w : Walked) → map bare_external es ≢ [] → map bare_external (probed_externals t es w) ≢ []
some_still t [] w some e = some e
some_still t (x ∷ es) w some e = absurd (subst Empty (sym e) tt)

pub instrumented_is_shaped : (digest : Text) (P : Source) → IsPlain P → HasFewItems (all_walked P) → ShapedUnit (bare_unit P.unit) → ShapedUnit (bare_unit (instrumented digest P).unit)
instrumented_is_shaped digest P plain few shaped =
    let es = P.unit.externals in
    let i = externals_firm P.tables es nothing_yet (none_second (line_mark P.unit.line) (externals_mark es) plain) few shaped.all in
    record { some = some_still P.tables es nothing_yet shaped.some; all = i.0; low = omega (arith, i.1, shaped.low) }
