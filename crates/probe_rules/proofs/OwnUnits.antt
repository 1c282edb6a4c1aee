-- In a program with its probes the innermost test or select round a use is that of the decision that holds the use.
use Rattle.std.proofs.Common.{◌≡◌, ℕ, List, [], ◌∷◌, Option, None, Bool, true, false, ◌∙◌, refl, sym, ap, subst}
use Rattle.std.specs.Prelude.{◌||◌}
use Rattle.c_base.specs.declared.place.Pos.{Pos}
use Rattle.c_syntax.specs.declared.tree.Named.{Named}
use Rattle.c_syntax.specs.declared.tree.Star.{Star}
use Rattle.c_syntax.specs.Shape.{LengthShapes, DeclShape, decl, DeclShapes, no_decls, more_decls, DeclaratorShape, declarator, DeclaratorShapes, no_declarators, more_declarators, DeclFormShape, arrays, function, empty, void, params, MaybeInit, no_init, one_init, InitShape, one, listed, StmtShape, stmt, FormShape, compound, simply, when, either, while, do_while, for, switch, break, continue, return, CompoundShape, braces, ItemShapes, no_items, more_items, ExternalShape, defined, declared}
use Rattle.c_tables.specs.Tables.{TablesShape}
use Rattle.c_tables.specs.Rows.{first_place, name_pos, text_of}
use Rattle.c_walk.specs.declared.around.Taken.TheVariants.{Read}
use Rattle.c_walk.specs.Walked.{Walked, with_block, with_block_if}
use Rattle.c_walk.specs.Walking.{walk_test, walk_maybe, walk_loop_test, walk_maybe_test, walk_step}
use Rattle.c_walk.specs.Stating.{whole, with_variable, with_whole_def, walk_init, walk_maybe_init, walk_declarator, walk_declarators, walk_decl, walk_decls, pos_of_stmt, splits, is_labelled, walk_choice, walk_stmt, walk_body, walk_part, walk_compound, walk_items}
use Rattle.c_walk.specs.Units.{define_declarator, define_declarators, define_decl, define_decls, define_parameters, function_of, in_function, walk_external, walk_externals, no_items as nothing_yet}
use Rattle.c_sites_probes.specs.Marked.{first, name_mark, mark_among, node_mark, maybe_mark, lengths_mark, specs_mark, decls_mark, decl_mark, declarators_mark, declarator_mark, behind_mark, maybe_init_mark, init_mark, labels_mark, stmt_mark, body_mark, compound_mark, items_mark, external_mark, externals_mark, line_mark}
use Rattle.c_sites_probes.specs.Owned.{own_node, own_maybe, own_specs, own_decls, own_decl, own_declarators, own_declarator, own_behind, own_maybe_init, own_init, own_stmt, own_body, own_compound, own_items, own_external, own_externals}
use Rattle.c_meaning.proofs.Walks.{maybe_test_on, loop_test_on, step_on, decls_on, part_on, items_on, externals_on}
use Rattle.probe_rules.specs.ProbedExpressions.{probed_node, probed_loop_test, probed_maybe_test, probed_step}
use Rattle.probe_rules.specs.ProbedStatements.{probed_init, probed_variable, probed_declarator, probed_declarators, probed_decl, probed_decls, probed_stmt, probed_body, probed_compound, probed_items}
use Rattle.probe_rules.specs.Instrumented.{defined_declarator, defined_declarators, defined_decl, defined_decls, defined_signature, probed_external, probed_externals}
use Rattle.probe_rules.specs.Fitting.{HasFewItems}
use Rattle.probe_rules.specs.Owning.{InstrumentedOwns}
use Rattle.probe_rules.proofs.ReadyUnits.{none_first, none_second}
use Rattle.probe_rules.proofs.Few.{few_before}
use Rattle.probe_rules.proofs.SameCounts.{part_is}
use Rattle.probe_rules.proofs.SimDecls.{declarators_before}
use Rattle.probe_rules.proofs.OwnPlain.{lengths_none, specs_none, declarator_none, decls_none, decl_none, maybe_init_none, inits_none, labels_none}
use Rattle.probe_rules.proofs.OwnProbed.{found, found_block, found_def, node_own, test_node_own, maybe_own, loop_test_own, maybe_test_own, step_own, choice_own}

found_if : (b : Bool) (p : Pos) (w : Walked) → found w ≡ found (with_block_if b p w)
found_if true p w = found_block p w
found_if false p w = refl

found_whole : (t : TablesShape) (f : ℕ) (x : Option Named) (w : Walked) → found w ≡ found (with_whole_def t f x w)
found_whole t f x w = found_def (name_pos first_place x) f (whole t w.variables) w

-- ---- local declarations

init_own : (t : TablesShape) (f : ℕ) (x : Option Named) (i : InitShape) (w : Walked) → init_mark i ≡ None → HasFewItems (walk_init (in_function f) i (with_whole_def t f x w)) → own_init None (probed_init (in_function f) i (with_whole_def t f x w)) (found w) ≡ found (walk_init (in_function f) i (with_whole_def t f x w))
init_own t f x (one a) w none few = let v = with_whole_def t f x w in ap (own_node None (probed_node (in_function f) Read a v)) (found_whole t f x w) ∙ node_own (in_function f) Read a v none few
init_own t f x (listed p items last) w none few = inits_none None (found w) items none ∙ found_whole t f x w

variable_own : (t : TablesShape) (f : ℕ) (stars : List Star) (x : Option Named) (ls : LengthShapes) (i : MaybeInit) (w : Walked) → lengths_mark ls ≡ None → maybe_init_mark i ≡ None → HasFewItems (walk_maybe_init t (in_function f) x i w) → own_declarator None (probed_variable t (in_function f) stars x ls i w) (found w) ≡ found (walk_maybe_init t (in_function f) x i w)
variable_own t f stars x ls no_init w lengths none few = lengths_none None (found w) ls lengths
variable_own t f stars x ls (one_init i) w lengths none few = ap (own_init None (probed_init (in_function f) i (with_whole_def t f x w))) (lengths_none None (found w) ls lengths) ∙ init_own t f x i w none few

declarator_own : (t : TablesShape) (f : ℕ) (d : DeclaratorShape) (w : Walked) → declarator_mark d ≡ None → HasFewItems (walk_declarator t (in_function f) d w) → own_declarator None (probed_declarator t (in_function f) d w) (found w) ≡ found (walk_declarator t (in_function f) d w)
declarator_own t f (declarator stars x (arrays ls) i) w none few =
    let rest = none_second (name_mark x) (first (lengths_mark ls) (maybe_init_mark i)) none in
    variable_own t f stars x ls i (with_variable w) (none_first (lengths_mark ls) (maybe_init_mark i) rest) (none_second (lengths_mark ls) (maybe_init_mark i) rest) few
declarator_own t f (declarator stars x (function ps) i) w none few = declarator_none None (found w) (declarator stars x (function ps) i) none

declarators_own : (t : TablesShape) (f : ℕ) (ds : DeclaratorShapes) (w : Walked) → declarators_mark ds ≡ None → HasFewItems (walk_declarators t (in_function f) ds w) → own_declarators None (probed_declarators t (in_function f) ds w) (found w) ≡ found (walk_declarators t (in_function f) ds w)
declarators_own t f no_declarators w none few = refl
declarators_own t f (more_declarators d rest) w none few =
    let v = walk_declarator t (in_function f) d w in
    ap (own_declarators None (probed_declarators t (in_function f) rest v)) (declarator_own t f d w (none_first (declarator_mark d) (declarators_mark rest) none) (few_before (declarators_before t (in_function f) rest v) few))
    ∙ declarators_own t f rest v (none_second (declarator_mark d) (declarators_mark rest) none) few

decl_own : (t : TablesShape) (f : ℕ) (d : DeclShape) (w : Walked) → decl_mark d ≡ None → HasFewItems (walk_decl t (in_function f) d w) → own_decl None (probed_decl t (in_function f) d w) (found w) ≡ found (walk_decl t (in_function f) d w)
decl_own t f (decl p specs names) w none few =
    ap (own_declarators None (probed_declarators t (in_function f) names w)) (specs_none None (found w) specs (none_first (specs_mark specs) (declarators_mark names) none)) ∙ declarators_own t f names w (none_second (specs_mark specs) (declarators_mark names) none) few

decls_own : (t : TablesShape) (f : ℕ) (ds : DeclShapes) (w : Walked) → decls_mark ds ≡ None → HasFewItems (walk_decls t (in_function f) ds w) → own_decls None (probed_decls t (in_function f) ds w) (found w) ≡ found (walk_decls t (in_function f) ds w)
decls_own t f no_decls w none few = refl
decls_own t f (more_decls d rest) w none few =
    let v = walk_decl t (in_function f) d w in
    ap (own_decls None (probed_decls t (in_function f) rest v)) (decl_own t f d w (none_first (decl_mark d) (decls_mark rest) none) (few_before (decls_on t (in_function f) rest v) few)) ∙ decls_own t f rest v (none_second (decl_mark d) (decls_mark rest) none) few

-- ---- statements

-- a substatement that is a block, with what the walk has behind it
few_part : (t : TablesShape) (f : ℕ) (a : StmtShape) (w : Walked) → HasFewItems (walk_part t (in_function f) a w) → HasFewItems (walk_stmt t (in_function f) a (with_block (pos_of_stmt a) w))
few_part t f a w few = subst HasFewItems (part_is t (in_function f) a w) few

mutual
  stmt_own : (t : TablesShape) (f : ℕ) (b : Bool) (a : StmtShape) (w : Walked) → stmt_mark a ≡ None → HasFewItems (walk_stmt t (in_function f) a (with_block_if b (pos_of_stmt a) w)) → own_stmt (probed_stmt t (in_function f) b a w) (found w) ≡ found (walk_stmt t (in_function f) a (with_block_if b (pos_of_stmt a) w))
  stmt_own t f b (stmt p ms q g) w none few =
      let v = with_block_if b p w in
      ap (own_body (probed_body t (in_function f) g v)) (found_if b p w) ∙ body_own t f g v (none_second (mark_among ms) (body_mark g) none) few

  body_own : (t : TablesShape) (f : ℕ) (g : FormShape) (w : Walked) → body_mark g ≡ None → HasFewItems (walk_body t (in_function f) g w) → own_body (probed_body t (in_function f) g w) (found w) ≡ found (walk_body t (in_function f) g w)
  body_own t f (compound d) w none few = compound_own t f d w none few
  body_own t f (simply e) w none few = maybe_own (in_function f) e w none few
  body_own t f (when e a) w none few =
      let c = in_function f in
      let v = walk_test c e w in
      ap (own_stmt (probed_stmt t c true a v)) (test_node_own c e w (none_first (node_mark e) (stmt_mark a) none) (few_before (part_on t c a v) few))
      ∙ (stmt_own t f true a v (none_second (node_mark e) (stmt_mark a) none) (few_part t f a v few) ∙ ap found (sym (part_is t c a v)))
  body_own t f (either e a b) w none few =
      let c = in_function f in
      let v = walk_test c e w in
      let u = walk_part t c a v in
      let few_u = few_before (part_on t c b u) few in
      let rest = none_second (node_mark e) (first (stmt_mark a) (stmt_mark b)) none in
      ap (λ z. own_stmt (probed_stmt t c true b u) (own_stmt (probed_stmt t c true a v) z)) (test_node_own c e w (none_first (node_mark e) (first (stmt_mark a) (stmt_mark b)) none) (few_before (part_on t c a v) few_u))
      ∙ (ap (own_stmt (probed_stmt t c true b u)) (stmt_own t f true a v (none_first (stmt_mark a) (stmt_mark b) rest) (few_part t f a v few_u) ∙ ap found (sym (part_is t c a v)))
      ∙ (stmt_own t f true b u (none_second (stmt_mark a) (stmt_mark b) rest) (few_part t f b u few) ∙ ap found (sym (part_is t c b u))))
  body_own t f (while e a) w none few =
      let c = in_function f in
      let v = walk_loop_test c e w in
      ap (own_stmt (probed_stmt t c true a v)) (loop_test_own c e w (none_first (node_mark e) (stmt_mark a) none) (few_before (part_on t c a v) few))
      ∙ (stmt_own t f true a v (none_second (node_mark e) (stmt_mark a) none) (few_part t f a v few) ∙ ap found (sym (part_is t c a v)))
  body_own t f (do_while a e) w none few =
      let c = in_function f in
      let v = walk_part t c a w in
      ap (own_node None (probed_loop_test c e v)) (stmt_own t f true a w (none_first (stmt_mark a) (node_mark e) none) (few_part t f a w (few_before (loop_test_on c e v) few)) ∙ ap found (sym (part_is t c a w)))
      ∙ loop_test_own c e v (none_second (stmt_mark a) (node_mark e) none) few
  body_own t f (for e g h a) w none few =
      let c = in_function f in
      let u = walk_maybe c e w in
      let v = walk_maybe_test c g u in
      let x = walk_step c h v in
      let few_x = few_before (part_on t c a x) few in
      let few_v = few_before (step_on c h v) few_x in
      let rest = none_second (maybe_mark e) (first (maybe_mark g) (first (maybe_mark h) (stmt_mark a))) none in
      let last = none_second (maybe_mark g) (first (maybe_mark h) (stmt_mark a)) rest in
      ap (λ z. own_stmt (probed_stmt t c true a x) (own_maybe None (probed_step c h v) (own_maybe None (probed_maybe_test c g u) z))) (maybe_own c e w (none_first (maybe_mark e) (first (maybe_mark g) (first (maybe_mark h) (stmt_mark a))) none) (few_before (maybe_test_on c g u) few_v))
      ∙ (ap (λ z. own_stmt (probed_stmt t c true a x) (own_maybe None (probed_step c h v) z)) (maybe_test_own c g u (none_first (maybe_mark g) (first (maybe_mark h) (stmt_mark a)) rest) few_v)
      ∙ (ap (own_stmt (probed_stmt t c true a x)) (step_own c h v (none_first (maybe_mark h) (stmt_mark a) last) few_x)
      ∙ (stmt_own t f true a x (none_second (maybe_mark h) (stmt_mark a) last) (few_part t f a x few) ∙ ap found (sym (part_is t c a x)))))
  body_own t f (switch e items) w none few =
      let c = in_function f in
      let v = walk_choice c e items w in
      ap (own_items (probed_items t c false items v)) (choice_own c e items w (none_first (node_mark e) (items_mark items) none) (few_before (items_on t c false items v) few)) ∙ items_own t f false items v (none_second (node_mark e) (items_mark items) none) few
  body_own t f break w none few = refl
  body_own t f continue w none few = refl
  body_own t f (return e) w none few = maybe_own (in_function f) e w none few

  compound_own : (t : TablesShape) (f : ℕ) (d : CompoundShape) (w : Walked) → compound_mark d ≡ None → HasFewItems (walk_compound t (in_function f) d w) → own_compound (probed_compound t (in_function f) d w) (found w) ≡ found (walk_compound t (in_function f) d w)
  compound_own t f (braces p ds items) w none few =
      let c = in_function f in
      let v = walk_decls t c ds w in
      ap (own_items (probed_items t c false items v)) (decls_own t f ds w (none_first (decls_mark ds) (items_mark items) none) (few_before (items_on t c false items v) few)) ∙ items_own t f false items v (none_second (decls_mark ds) (items_mark items) none) few

  items_own : (t : TablesShape) (f : ℕ) (after : Bool) (items : ItemShapes) (w : Walked) → items_mark items ≡ None → HasFewItems (walk_items t (in_function f) after items w) → own_items (probed_items t (in_function f) after items w) (found w) ≡ found (walk_items t (in_function f) after items w)
  items_own t f after no_items w none few = refl
  items_own t f after (more_items labels a rest) w none few =
      let c = in_function f in
      let b = after || is_labelled labels in
      let v = walk_stmt t c a (with_block_if b (pos_of_stmt a) w) in
      let more = none_second (labels_mark labels) (first (stmt_mark a) (items_mark rest)) none in
      ap (λ z. own_items (probed_items t c (splits a) rest v) (own_stmt (probed_stmt t c b a w) z)) (labels_none labels (found w) (none_first (labels_mark labels) (first (stmt_mark a) (items_mark rest)) none))
      ∙ (ap (own_items (probed_items t c (splits a) rest v)) (stmt_own t f b a w (none_first (stmt_mark a) (items_mark rest) more) (few_before (items_on t c (splits a) rest v) few))
      ∙ items_own t f (splits a) rest v (none_second (stmt_mark a) (items_mark rest) more) few)

-- ---- what is defined at its name holds no use

defined_own : (t : TablesShape) (f : ℕ) (d : DeclaratorShape) (w : Walked) (s : List (ℕ × ℕ)) → own_declarator None (defined_declarator t f d w) s ≡ own_declarator None d s
defined_own t f (declarator stars x (arrays ls) i) w s = refl
defined_own t f (declarator stars x (function ps) i) w s = refl

all_defined_own : (t : TablesShape) (f : ℕ) (ds : DeclaratorShapes) (w : Walked) (s : List (ℕ × ℕ)) → own_declarators None (defined_declarators t f ds w) s ≡ own_declarators None ds s
all_defined_own t f no_declarators w s = refl
all_defined_own t f (more_declarators d rest) w s = ap (own_declarators None (defined_declarators t f rest (define_declarator t f d w))) (defined_own t f d w s) ∙ all_defined_own t f rest (define_declarator t f d w) (own_declarator None d s)

defining_own : (t : TablesShape) (f : ℕ) (d : DeclShape) (w : Walked) (s : List (ℕ × ℕ)) → own_decl None (defined_decl t f d w) s ≡ own_decl None d s
defining_own t f (decl p specs names) w s = all_defined_own t f names w (own_specs None specs s)

all_defining_own : (t : TablesShape) (f : ℕ) (ds : DeclShapes) (w : Walked) (s : List (ℕ × ℕ)) → own_decls None (defined_decls t f ds w) s ≡ own_decls None ds s
all_defining_own t f no_decls w s = refl
all_defining_own t f (more_decls d rest) w s = ap (own_decls None (defined_decls t f rest (define_decl t f d w))) (defining_own t f d w s) ∙ all_defining_own t f rest (define_decl t f d w) (own_decl None d s)

signature_own : (t : TablesShape) (f : ℕ) (d : DeclFormShape) (w : Walked) (s : List (ℕ × ℕ)) → behind_mark d ≡ None → own_behind None (defined_signature t f d w) s ≡ s
signature_own t f (function (params ds)) w s none = all_defining_own t f ds w s ∙ decls_none None s ds none
signature_own t f (function empty) w s none = refl
signature_own t f (function void) w s none = refl
signature_own t f (arrays ls) w s none = lengths_none None s ls none

found_defined : (t : TablesShape) (f : ℕ) (d : DeclaratorShape) (w : Walked) → found w ≡ found (define_declarator t f d w)
found_defined t f (declarator stars x (arrays ls) i) w = found_whole t f x (with_variable w)
found_defined t f (declarator stars x (function ps) i) w = refl

found_all : (t : TablesShape) (f : ℕ) (ds : DeclaratorShapes) (w : Walked) → found w ≡ found (define_declarators t f ds w)
found_all t f no_declarators w = refl
found_all t f (more_declarators d rest) w = found_defined t f d w ∙ found_all t f rest (define_declarator t f d w)

found_defining : (t : TablesShape) (f : ℕ) (d : DeclShape) (w : Walked) → found w ≡ found (define_decl t f d w)
found_defining t f (decl p specs names) w = found_all t f names w

found_params : (t : TablesShape) (f : ℕ) (ds : DeclShapes) (w : Walked) → found w ≡ found (define_decls t f ds w)
found_params t f no_decls w = refl
found_params t f (more_decls d rest) w = found_defining t f d w ∙ found_params t f rest (define_decl t f d w)

found_signature : (t : TablesShape) (f : ℕ) (d : DeclFormShape) (w : Walked) → found w ≡ found (define_parameters t f d w)
found_signature t f (function (params ds)) w = found_params t f ds w
found_signature t f (function empty) w = refl
found_signature t f (function void) w = refl
found_signature t f (arrays ls) w = refl

-- ---- programs

external_own : (t : TablesShape) (e : ExternalShape) (w : Walked) → external_mark e ≡ None → HasFewItems (walk_external t e w) → own_external (probed_external t e w) (found w) ≡ found (walk_external t e w)
external_own t (declared d) w none few = defining_own t 0 d w (found w) ∙ (decl_none None (found w) d none ∙ found_defining t 0 d w)
external_own t (defined specs (declarator stars x d i) ms (braces p ds items)) w none few =
    let f = function_of t (text_of x) in
    let v = define_parameters t f d w in
    let b = braces p ds items in
    let m = declarator_mark (declarator stars x d i) in
    let more = none_second (specs_mark specs) (first m (first (mark_among ms) (compound_mark b))) none in
    let name = none_second (name_mark x) (first (behind_mark d) (maybe_init_mark i)) (none_first m (first (mark_among ms) (compound_mark b)) more) in
    let body = none_second (mark_among ms) (compound_mark b) (none_second m (first (mark_among ms) (compound_mark b)) more) in
    let c = probed_compound t (in_function f) b (with_block p v) in
    ap (λ z. own_compound c (own_maybe_init None i (own_behind None (defined_signature t f d w) z))) (specs_none None (found w) specs (none_first (specs_mark specs) (first m (first (mark_among ms) (compound_mark b))) none))
    ∙ (ap (λ z. own_compound c (own_maybe_init None i z)) (signature_own t f d w (found w) (none_first (behind_mark d) (maybe_init_mark i) name))
    ∙ (ap (own_compound c) (maybe_init_none None (found w) i (none_second (behind_mark d) (maybe_init_mark i) name) ∙ (found_signature t f d w ∙ found_block p v)) ∙ compound_own t f b (with_block p v) body few))

externals_own : (t : TablesShape) (es : List ExternalShape) (w : Walked) → externals_mark es ≡ None → HasFewItems (walk_externals t es w) → own_externals (probed_externals t es w) (found w) ≡ found (walk_externals t es w)
externals_own t [] w none few = refl
externals_own t (e ∷ rest) w none few =
    let v = walk_external t e w in
    ap (own_externals (probed_externals t rest v)) (external_own t e w (none_first (external_mark e) (externals_mark rest) none) (few_before (externals_on t rest v) few)) ∙ externals_own t rest v (none_second (external_mark e) (externals_mark rest) none) few

pub owns : InstrumentedOwns
owns digest P plain few = externals_own P.tables P.unit.externals nothing_yet (none_second (line_mark P.unit.line) (externals_mark P.unit.externals) plain) few
