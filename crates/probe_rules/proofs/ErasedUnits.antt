-- A program with its probes, without its probes and its line, is the program.
use Rattle.std.proofs.Common.{◌≡◌, ℕ, List, [], ◌∷◌, map, Option, Some, None, Bool, true, false, refl, ap}
use Rattle.std.specs.Prelude.{◌||◌, option_map}
use Rattle.c_syntax.specs.declared.text.Text.{Text}
use Rattle.c_syntax.specs.declared.tree.Named.{Named}
use Rattle.c_syntax.specs.declared.tree.ProbeMark.{ProbeMark}
use Rattle.c_syntax.specs.declared.tree.Star.{Star}
use Rattle.c_syntax.specs.Shape.{LengthShapes, DeclShape, decl, DeclShapes, no_decls, more_decls, DeclaratorShape, declarator, DeclaratorShapes, no_declarators, more_declarators, DeclFormShape, arrays, function, empty, void, params, MaybeInit, no_init, one_init, InitShape, one, listed, StmtShape, stmt, FormShape, compound, simply, when, either, while, do_while, for, switch, break, continue, return, CompoundShape, braces, ItemShapes, no_items, more_items, MaybeNode, ExternalShape, defined, declared}
use Rattle.c_tables.specs.Tables.{TablesShape}
use Rattle.c_tables.specs.Rows.{text_of}
use Rattle.c_tree.specs.Erased.{erased_name, erased_decl, erased_decls, erased_declarator, erased_declarators, erased_behind, erased_init, erased_stmt, erased_body, erased_compound, erased_items, erased_external, erased_unit}
use Rattle.c_walk.specs.declared.around.Around.{Around}
use Rattle.c_walk.specs.declared.around.Taken.TheVariants.{Read}
use Rattle.c_walk.specs.Walked.{Walked, with_block, with_block_if}
use Rattle.c_walk.specs.Walking.{walk_test, walk_maybe, walk_loop_test, walk_maybe_test, walk_step}
use Rattle.c_walk.specs.Stating.{with_variable, with_whole_def, walk_declarator, walk_decl, walk_decls, pos_of_stmt, splits, is_labelled, walk_choice, walk_stmt, walk_part}
use Rattle.c_walk.specs.Units.{define_declarator, define_decl, define_parameters, function_of, in_function, walk_external, no_items as nothing_yet}
use Rattle.c_sites_probes.specs.Marked.{first, name_mark, mark_among, node_mark, maybe_mark, lengths_mark, specs_mark, decls_mark, decl_mark, declarators_mark, declarator_mark, behind_mark, maybe_init_mark, init_mark, labels_mark, stmt_mark, body_mark, compound_mark, items_mark, external_mark, externals_mark, line_mark}
use Rattle.c_meaning.specs.Calls.{Source}
use Rattle.probe_rules.specs.Marks.{defined_name}
use Rattle.probe_rules.specs.ProbedStatements.{probed_init, probed_variable, probed_declarator, probed_declarators, probed_decl, probed_decls, probed_stmt, probed_body, probed_compound, probed_items}
use Rattle.probe_rules.specs.Instrumented.{defined_declarator, defined_declarators, defined_decl, defined_decls, defined_signature, probed_external, probed_externals, instrumented}
use Rattle.probe_rules.specs.Simulation.{IsPlain}
use Rattle.probe_rules.proofs.ErasedPlain.{both_plain, name_plain, among_none, line_none, lengths_plain, specs_plain, declarator_plain, maybe_init_plain, inits_plain, labels_plain}
use Rattle.probe_rules.proofs.ErasedProbed.{node_erased, test_node_erased, maybe_erased, loop_test_erased, maybe_test_erased, step_erased, choice_erased}

-- what is defined at its name has its probe there alone
name_erased : (x : Option Named) (w : Walked) → name_mark x ≡ None → option_map erased_name (defined_name x w) ≡ x
name_erased None w none = refl
name_erased (Some x) w none = name_plain (Some x) none

-- ---- local declarations

init_erased : (c : Around) (i : InitShape) (w : Walked) → init_mark i ≡ None → erased_init (probed_init c i w) ≡ i
init_erased c (one a) w none = ap one (node_erased c Read a w none)
init_erased c (listed p items last) w none = ap (λ x. listed p x last) (inits_plain items none)

variable_erased : (t : TablesShape) (c : Around) (stars : List Star) (x : Option Named) (ls : LengthShapes) (i : MaybeInit) (w : Walked) → declarator_mark (declarator stars x (arrays ls) i) ≡ None → erased_declarator (probed_variable t c stars x ls i w) ≡ declarator stars x (arrays ls) i
variable_erased t c stars x ls no_init w none = declarator_plain (declarator stars x (arrays ls) no_init) none
variable_erased t c stars x ls (one_init i) w none =
    both_plain (λ x (y : DeclFormShape × MaybeInit). declarator stars x y.0 y.1) (name_mark x) (first (lengths_mark ls) (init_mark i)) none (name_erased x w) (λ e.
    both_plain (λ y z. (arrays y, one_init z)) (lengths_mark ls) (init_mark i) e (lengths_plain ls) (init_erased c i (with_whole_def t c.function x w)))

declarator_erased : (t : TablesShape) (c : Around) (d : DeclaratorShape) (w : Walked) → declarator_mark d ≡ None → erased_declarator (probed_declarator t c d w) ≡ d
declarator_erased t c (declarator stars x (arrays ls) i) w none = variable_erased t c stars x ls i (with_variable w) none
declarator_erased t c (declarator stars x (function ps) i) w none = declarator_plain (declarator stars x (function ps) i) none

declarators_erased : (t : TablesShape) (c : Around) (ds : DeclaratorShapes) (w : Walked) → declarators_mark ds ≡ None → erased_declarators (probed_declarators t c ds w) ≡ ds
declarators_erased t c no_declarators w none = refl
declarators_erased t c (more_declarators d rest) w none = both_plain more_declarators (declarator_mark d) (declarators_mark rest) none (declarator_erased t c d w) (λ e. declarators_erased t c rest (walk_declarator t c d w) e)

decl_erased : (t : TablesShape) (c : Around) (d : DeclShape) (w : Walked) → decl_mark d ≡ None → erased_decl (probed_decl t c d w) ≡ d
decl_erased t c (decl p specs names) w none = both_plain (decl p) (specs_mark specs) (declarators_mark names) none (specs_plain specs) (declarators_erased t c names w)

decls_erased : (t : TablesShape) (c : Around) (ds : DeclShapes) (w : Walked) → decls_mark ds ≡ None → erased_decls (probed_decls t c ds w) ≡ ds
decls_erased t c no_decls w none = refl
decls_erased t c (more_decls d rest) w none = both_plain more_decls (decl_mark d) (decls_mark rest) none (decl_erased t c d w) (λ e. decls_erased t c rest (walk_decl t c d w) e)

-- ---- statements

mutual
  stmt_erased : (t : TablesShape) (c : Around) (b : Bool) (a : StmtShape) (w : Walked) → stmt_mark a ≡ None → erased_stmt (probed_stmt t c b a w) ≡ a
  stmt_erased t c b (stmt p ms q f) w none = both_plain (λ x y. stmt p x q y) (mark_among ms) (body_mark f) none (among_none ms) (λ e. body_erased t c f (with_block_if b p w) e)

  body_erased : (t : TablesShape) (c : Around) (f : FormShape) (w : Walked) → body_mark f ≡ None → erased_body (probed_body t c f w) ≡ f
  body_erased t c (compound d) w none = ap compound (compound_erased t c d w none)
  body_erased t c (simply e) w none = ap simply (maybe_erased c e w none)
  body_erased t c (when e a) w none = both_plain when (node_mark e) (stmt_mark a) none (test_node_erased c e w) (λ none. stmt_erased t c true a (walk_test c e w) none)
  body_erased t c (either e a b) w none =
      let v = walk_test c e w in
      both_plain (λ x (y : StmtShape × StmtShape). either x y.0 y.1) (node_mark e) (first (stmt_mark a) (stmt_mark b)) none (test_node_erased c e w) (λ none.
      both_plain (λ y z. (y, z)) (stmt_mark a) (stmt_mark b) none (λ none. stmt_erased t c true a v none) (λ none. stmt_erased t c true b (walk_part t c a v) none))
  body_erased t c (while e a) w none = both_plain while (node_mark e) (stmt_mark a) none (loop_test_erased c e w) (λ none. stmt_erased t c true a (walk_loop_test c e w) none)
  body_erased t c (do_while a e) w none = both_plain do_while (stmt_mark a) (node_mark e) none (λ none. stmt_erased t c true a w none) (loop_test_erased c e (walk_part t c a w))
  body_erased t c (for e f g a) w none =
      let u = walk_maybe c e w in
      let v = walk_maybe_test c f u in
      both_plain (λ x (y : MaybeNode × MaybeNode × StmtShape). for x y.0 y.1 y.2) (maybe_mark e) (first (maybe_mark f) (first (maybe_mark g) (stmt_mark a))) none (maybe_erased c e w) (λ none.
      both_plain (λ y (z : MaybeNode × StmtShape). (y, z.0, z.1)) (maybe_mark f) (first (maybe_mark g) (stmt_mark a)) none (maybe_test_erased c f u) (λ none.
      both_plain (λ y z. (y, z)) (maybe_mark g) (stmt_mark a) none (step_erased c g v) (λ none. stmt_erased t c true a (walk_step c g v) none)))
  body_erased t c (switch e items) w none = both_plain switch (node_mark e) (items_mark items) none (choice_erased c e items w) (λ none. items_erased t c false items (walk_choice c e items w) none)
  body_erased t c break w none = refl
  body_erased t c continue w none = refl
  body_erased t c (return e) w none = ap return (maybe_erased c e w none)

  compound_erased : (t : TablesShape) (c : Around) (d : CompoundShape) (w : Walked) → compound_mark d ≡ None → erased_compound (probed_compound t c d w) ≡ d
  compound_erased t c (braces p ds items) w none = both_plain (braces p) (decls_mark ds) (items_mark items) none (decls_erased t c ds w) (λ e. items_erased t c false items (walk_decls t c ds w) e)

  items_erased : (t : TablesShape) (c : Around) (after : Bool) (items : ItemShapes) (w : Walked) → items_mark items ≡ None → erased_items (probed_items t c after items w) ≡ items
  items_erased t c after no_items w none = refl
  items_erased t c after (more_items labels a rest) w none =
      let b = after || is_labelled labels in
      let v = walk_stmt t c a (with_block_if b (pos_of_stmt a) w) in
      both_plain (λ x (y : StmtShape × ItemShapes). more_items x y.0 y.1) (labels_mark labels) (first (stmt_mark a) (items_mark rest)) none (labels_plain labels) (λ e.
      both_plain (λ y z. (y, z)) (stmt_mark a) (items_mark rest) e (λ e. stmt_erased t c b a w e) (λ e. items_erased t c (splits a) rest v e))

-- ---- what is defined at its name: variables of file scope, and parameters

defined_erased : (t : TablesShape) (f : ℕ) (d : DeclaratorShape) (w : Walked) → declarator_mark d ≡ None → erased_declarator (defined_declarator t f d w) ≡ d
defined_erased t f (declarator stars x (arrays ls) i) w none =
    both_plain (λ x (y : DeclFormShape × MaybeInit). declarator stars x y.0 y.1) (name_mark x) (first (lengths_mark ls) (maybe_init_mark i)) none (name_erased x (with_variable w)) (λ e.
    both_plain (λ y z. (arrays y, z)) (lengths_mark ls) (maybe_init_mark i) e (lengths_plain ls) (maybe_init_plain i))
defined_erased t f (declarator stars x (function ps) i) w none = declarator_plain (declarator stars x (function ps) i) none

all_defined_erased : (t : TablesShape) (f : ℕ) (ds : DeclaratorShapes) (w : Walked) → declarators_mark ds ≡ None → erased_declarators (defined_declarators t f ds w) ≡ ds
all_defined_erased t f no_declarators w none = refl
all_defined_erased t f (more_declarators d rest) w none = both_plain more_declarators (declarator_mark d) (declarators_mark rest) none (defined_erased t f d w) (λ e. all_defined_erased t f rest (define_declarator t f d w) e)

defining_erased : (t : TablesShape) (f : ℕ) (d : DeclShape) (w : Walked) → decl_mark d ≡ None → erased_decl (defined_decl t f d w) ≡ d
defining_erased t f (decl p specs names) w none = both_plain (decl p) (specs_mark specs) (declarators_mark names) none (specs_plain specs) (all_defined_erased t f names w)

all_defining_erased : (t : TablesShape) (f : ℕ) (ds : DeclShapes) (w : Walked) → decls_mark ds ≡ None → erased_decls (defined_decls t f ds w) ≡ ds
all_defining_erased t f no_decls w none = refl
all_defining_erased t f (more_decls d rest) w none = both_plain more_decls (decl_mark d) (decls_mark rest) none (defining_erased t f d w) (λ e. all_defining_erased t f rest (define_decl t f d w) e)

signature_erased : (t : TablesShape) (f : ℕ) (d : DeclFormShape) (w : Walked) → behind_mark d ≡ None → erased_behind (defined_signature t f d w) ≡ d
signature_erased t f (function (params ds)) w none = ap (λ x. function (params x)) (all_defining_erased t f ds w none)
signature_erased t f (function empty) w none = refl
signature_erased t f (function void) w none = refl
signature_erased t f (arrays ls) w none = ap arrays (lengths_plain ls none)

-- ---- programs

external_erased : (t : TablesShape) (e : ExternalShape) (w : Walked) → external_mark e ≡ None → erased_external (probed_external t e w) ≡ e
external_erased t (declared d) w none = ap declared (defining_erased t 0 d w none)
external_erased t (defined specs (declarator stars x d i) ms (braces p ds items)) w none =
    let f = function_of t (text_of x) in
    let v = define_parameters t f d w in
    let b = braces p ds items in
    both_plain (λ x (y : DeclaratorShape × List ProbeMark × CompoundShape). defined x y.0 y.1 y.2) (specs_mark specs) (first (declarator_mark (declarator stars x d i)) (first (mark_among ms) (compound_mark b))) none (specs_plain specs) (λ none.
    both_plain (λ y (z : List ProbeMark × CompoundShape). (y, z.0, z.1)) (declarator_mark (declarator stars x d i)) (first (mark_among ms) (compound_mark b)) none (λ none.
    both_plain (λ x (y : DeclFormShape × MaybeInit). declarator stars x y.0 y.1) (name_mark x) (first (behind_mark d) (maybe_init_mark i)) none (name_plain x) (λ none.
    both_plain (λ y z. (y, z)) (behind_mark d) (maybe_init_mark i) none (signature_erased t f d w) (maybe_init_plain i))) (λ none.
    both_plain (λ y z. (y, z)) (mark_among ms) (compound_mark b) none (among_none ms) (compound_erased t (in_function f) b (with_block p v))))

externals_erased : (t : TablesShape) (es : List ExternalShape) (w : Walked) → externals_mark es ≡ None → map erased_external (probed_externals t es w) ≡ es
externals_erased t [] w none = refl
externals_erased t (e ∷ rest) w none = both_plain (λ x xs. x ∷ xs) (external_mark e) (externals_mark rest) none (external_erased t e w) (λ none. externals_erased t rest (walk_external t e w) none)

-- so it is of every plain program, whatever the digest
pub instrumented_erased : (digest : Text) (P : Source) → IsPlain P → erased_unit (instrumented digest P).unit ≡ P.unit
instrumented_erased digest P plain =
    both_plain (λ l es. record P.unit { line = l; externals = es }) (line_mark P.unit.line) (externals_mark P.unit.externals) plain (line_none P.unit.line) (externals_erased P.tables P.unit.externals nothing_yet)
