-- The tokens of a program with its probes are those of the program, with tokens of probes between them.
use Rattle.std.proofs.Common.{◌≡◌, ℕ, List, [], ◌∷◌, ◌++◌, Bool, true, false, Option, Some, None, arith}
use Rattle.std.specs.Prelude.{◌||◌}
use Rattle.std.specs.Fmt.{decimal}
use Rattle.c_base.specs.declared.place.Pos.{Pos}
use Rattle.c_syntax.specs.declared.text.Text.{Text}
use Rattle.c_syntax.specs.declared.token.Key.TheVariants as k
use Rattle.c_syntax.specs.declared.token.Mark.TheVariants as m
use Rattle.c_syntax.specs.declared.token.ProbeWord.TheVariants as word
use Rattle.c_syntax.specs.declared.token.TokenKind.{TokenKind}
use Rattle.c_syntax.specs.declared.token.TokenKind.TheVariants as kind
use Rattle.c_syntax.specs.declared.tree.Named.{Named}
use Rattle.c_syntax.specs.declared.tree.ProbeMark.{ProbeMark}
use Rattle.c_syntax.specs.declared.tree.Star.{Star}
use Rattle.c_syntax.specs.Forms.{kinds}
use Rattle.c_syntax.specs.Grammar.{named_as, maybe_named_form, stars_form, lengths_form, specs_form, behind_form, maybe_init_form, init_form, declarator_form, declarators_form, led_declarators_form, decl_form, decls_form, param_form, param_list_form, led_params_form, marks_form, labels_form, stmt_form, body_form, compound_form, items_form, external_form, externals_form}
use Rattle.c_syntax.specs.Shape.{LengthShapes, DeclShape, decl, DeclShapes, no_decls, more_decls, DeclaratorShape, declarator, DeclaratorShapes, no_declarators, more_declarators, DeclFormShape, arrays, function, empty, void, params, MaybeInit, no_init, one_init, InitShape, one, listed, StmtShape, stmt, FormShape, compound, simply, when, either, while, do_while, for, switch, break, continue, return, CompoundShape, braces, ItemShapes, no_items, more_items, ExternalShape, defined, declared}
use Rattle.c_tables.specs.Tables.{TablesShape}
use Rattle.c_tables.specs.Rows.{first_place}
use Rattle.c_tables.specs.Rows.{name_pos, text_of}
use Rattle.c_walk.specs.declared.around.Around.{Around}
use Rattle.c_walk.specs.declared.around.Taken.TheVariants.{Read}
use Rattle.c_walk.specs.Walked.{Walked, with_block, with_block_if}
use Rattle.c_walk.specs.Walking.{walk_test, walk_maybe, walk_loop_test, walk_maybe_test, walk_step}
use Rattle.c_walk.specs.Stating.{whole, with_variable, with_whole_def, walk_init, walk_maybe_init, walk_declarator, walk_declarators, walk_decl, walk_decls, pos_of_stmt, splits, is_labelled, walk_choice, walk_stmt, walk_body, walk_part, walk_compound, walk_items}
use Rattle.c_walk.specs.Units.{define_declarator, define_declarators, define_decl, define_decls, define_parameters, function_of, in_function, walk_external, walk_externals}
use Rattle.c_sites_probes.specs.Marked.{first, mark_in, name_mark, mark_among, node_mark, maybe_mark, lengths_mark, specs_mark, decls_mark, decl_mark, declarators_mark, declarator_mark, behind_mark, maybe_init_mark, init_mark, labels_mark, stmt_mark, body_mark, compound_mark, items_mark, external_mark, externals_mark}
use Rattle.c_meaning.specs.Counts.{IsBefore}
use Rattle.c_meaning.proofs.Walks.{on_further, node_on, loop_test_on, maybe_test_on, step_on, declarator_on, decls_on, stmt_on, part_on, compound_on, items_on, defined_on, param_on, externals_on, block_on}
use Rattle.c_walk.specs.Counted.{next_block, next_def}
use Rattle.probe_rules.specs.Marks.{block_marks, defined_name}
use Rattle.probe_rules.specs.ProbedStatements.{probed_init, probed_variable, probed_declarator, probed_declarators, probed_decl, probed_decls, probed_stmt, probed_body, probed_compound, probed_items}
use Rattle.probe_rules.specs.Instrumented.{defined_declarator, defined_declarators, defined_decl, defined_decls, defined_signature, probed_external, probed_externals}
use Rattle.probe_rules.specs.Fitting.{HasFewItems}
use Rattle.probe_rules.proofs.ReadyUnits.{some_none, none_first, none_second}
use Rattle.probe_rules.proofs.Few.{few_before, few_blocks, few_defs, same_before}
use Rattle.probe_parsed.proofs.Woven.{Woven, both, nothing_put, kept, before as put_before, same, number_right}
use Rattle.probe_parsed.proofs.WovenNodes.{Small, round, node_woven, tested_woven, right_woven, maybe_woven, maybe_test_woven, step_woven, choice_woven}

-- ---- names

named_woven : (p : Pos) (x : Text) (o : Option ProbeMark) (n : ℕ) → mark_in o ≡ None → Small n → Woven (kinds (named_as p x o)) (kind.Probe word.Def ∷ kind.Mark m.LeftParen ∷ kind.Number (decimal n) ∷ kind.Mark m.Comma ∷ (kind.Word x ∷ [] ++ kind.Mark m.RightParen ∷ []))
named_woven p x None n none small = round word.Def n small (same (kind.Word x ∷ []))
named_woven p x (Some d) n none small = absurd (some_none d.pos none)

name_woven : (x : Option Named) (w : Walked) → name_mark x ≡ None → Small (next_def w) → Woven (kinds (maybe_named_form x)) (kinds (maybe_named_form (defined_name x w)))
name_woven None w none small = nothing_put
name_woven (Some x) w none small = named_woven x.pos x.text x.probe (next_def w) none small

whole_small : (t : TablesShape) (f : ℕ) (x : Option Named) (w : Walked) → HasFewItems (with_whole_def t f x w) → Small (next_def w)
whole_small t f x w few = omega (arith, few_defs (name_pos first_place x) f (whole t w.variables) w few)

-- ---- local declarations

init_before : (c : Around) (i : InitShape) (w : Walked) → IsBefore w (walk_init c i w)
init_before c (one a) w = node_on c Read a w
init_before c (listed p items last) w = same_before w

init_woven : (c : Around) (i : InitShape) (w : Walked) → init_mark i ≡ None → HasFewItems (walk_init c i w) → Woven (kinds (init_form i)) (kinds (init_form (probed_init c i w)))
init_woven c (one a) w none few = node_woven c Read a w none few
init_woven c (listed p items last) w none few = same (kinds (init_form (listed p items last)))

variable_woven : (t : TablesShape) (c : Around) (stars : List Star) (x : Option Named) (ls : LengthShapes) (i : MaybeInit) (w : Walked) → declarator_mark (declarator stars x (arrays ls) i) ≡ None → HasFewItems (walk_maybe_init t c x i w) → Woven (kinds (declarator_form (declarator stars x (arrays ls) i))) (kinds (declarator_form (probed_variable t c stars x ls i w)))
variable_woven t c stars x ls no_init w none few = same (kinds (declarator_form (declarator stars x (arrays ls) no_init)))
variable_woven t c stars x ls (one_init i) w none few =
    let v = with_whole_def t c.function x w in
    let rest = none_second (name_mark x) (first (lengths_mark ls) (init_mark i)) none in
    both (same (kinds (stars_form stars))) (both (name_woven x w (none_first (name_mark x) (first (lengths_mark ls) (init_mark i)) none) (whole_small t c.function x w (few_before (init_before c i v) few)))
    (both (same (kinds (lengths_form ls))) (kept (kind.Mark m.Equal) (init_woven c i v (none_second (lengths_mark ls) (init_mark i) rest) few))))

declarator_woven : (t : TablesShape) (c : Around) (d : DeclaratorShape) (w : Walked) → declarator_mark d ≡ None → HasFewItems (walk_declarator t c d w) → Woven (kinds (declarator_form d)) (kinds (declarator_form (probed_declarator t c d w)))
declarator_woven t c (declarator stars x (arrays ls) i) w none few = variable_woven t c stars x ls i (with_variable w) none few
declarator_woven t c (declarator stars x (function ps) i) w none few = same (kinds (declarator_form (declarator stars x (function ps) i)))

names_before : (t : TablesShape) (c : Around) (ds : DeclaratorShapes) (w : Walked) → IsBefore w (walk_declarators t c ds w)
names_before t c no_declarators w = same_before w
names_before t c (more_declarators d rest) w = let v = walk_declarator t c d w in on_further w v (walk_declarators t c rest v) (declarator_on t c d w) (names_before t c rest v)

led_names_woven : (t : TablesShape) (c : Around) (ds : DeclaratorShapes) (w : Walked) → declarators_mark ds ≡ None → HasFewItems (walk_declarators t c ds w) → Woven (kinds (led_declarators_form ds)) (kinds (led_declarators_form (probed_declarators t c ds w)))
led_names_woven t c no_declarators w none few = nothing_put
led_names_woven t c (more_declarators d rest) w none few =
    let v = walk_declarator t c d w in
    kept (kind.Mark m.Comma) (both (declarator_woven t c d w (none_first (declarator_mark d) (declarators_mark rest) none) (few_before (names_before t c rest v) few)) (led_names_woven t c rest v (none_second (declarator_mark d) (declarators_mark rest) none) few))

names_woven : (t : TablesShape) (c : Around) (ds : DeclaratorShapes) (w : Walked) → declarators_mark ds ≡ None → HasFewItems (walk_declarators t c ds w) → Woven (kinds (declarators_form ds)) (kinds (declarators_form (probed_declarators t c ds w)))
names_woven t c no_declarators w none few = nothing_put
names_woven t c (more_declarators d rest) w none few =
    let v = walk_declarator t c d w in
    both (declarator_woven t c d w (none_first (declarator_mark d) (declarators_mark rest) none) (few_before (names_before t c rest v) few)) (led_names_woven t c rest v (none_second (declarator_mark d) (declarators_mark rest) none) few)

decl_woven : (t : TablesShape) (c : Around) (d : DeclShape) (w : Walked) → decl_mark d ≡ None → HasFewItems (walk_decl t c d w) → Woven (kinds (decl_form d)) (kinds (decl_form (probed_decl t c d w)))
decl_woven t c (decl p specs names) w none few = both (same (kinds (specs_form specs))) (both (names_woven t c names w (none_second (specs_mark specs) (declarators_mark names) none) few) (same (kind.Mark m.Semicolon ∷ [])))

decls_woven : (t : TablesShape) (c : Around) (ds : DeclShapes) (w : Walked) → decls_mark ds ≡ None → HasFewItems (walk_decls t c ds w) → Woven (kinds (decls_form ds)) (kinds (decls_form (probed_decls t c ds w)))
decls_woven t c no_decls w none few = nothing_put
decls_woven t c (more_decls d rest) w none few =
    let v = walk_decl t c d w in
    both (decl_woven t c d w (none_first (decl_mark d) (decls_mark rest) none) (few_before (decls_on t c rest v) few)) (decls_woven t c rest v (none_second (decl_mark d) (decls_mark rest) none) few)

-- ---- statements

marks_woven : (b : Bool) (p : Pos) (w : Walked) {ks ls : List TokenKind} → HasFewItems (with_block_if b p w) → Woven ks ls → Woven ks (kinds (marks_form (block_marks b p w)) ++ ls)
marks_woven false p w few i = i
marks_woven true p w few i =
    let small : Small (next_block w) = omega (arith, few_blocks p w few) in
    put_before (kind.Probe word.Block) tt (put_before (kind.Mark m.LeftParen) tt (put_before (kind.Number (decimal (next_block w))) (number_right (next_block w) small) (put_before (kind.Mark m.RightParen) tt (put_before (kind.Mark m.Colon) tt i))))

few_part : (t : TablesShape) (c : Around) (a : StmtShape) (w : Walked) → HasFewItems (walk_part t c a w) → HasFewItems (walk_stmt t c a (with_block (pos_of_stmt a) w))
few_part t c (stmt p ms q f) w few = few

-- an expression in parentheses, and what stands behind it
in_parens : {ks ls js ms : List TokenKind} → Woven ks ls → Woven js ms → Woven (kind.Mark m.LeftParen ∷ ((ks ++ kind.Mark m.RightParen ∷ []) ++ js)) (kind.Mark m.LeftParen ∷ ((ls ++ kind.Mark m.RightParen ∷ []) ++ ms))
in_parens {ks} {ls} {js} {ms} i j = kept (kind.Mark m.LeftParen) (both (both i (same (kind.Mark m.RightParen ∷ []))) j)

ended : {ks ls : List TokenKind} → Woven ks ls → Woven (ks ++ kind.Mark m.Semicolon ∷ []) (ls ++ kind.Mark m.Semicolon ∷ [])
ended {ks} {ls} i = both i (same (kind.Mark m.Semicolon ∷ []))

mutual
  stmt_woven : (t : TablesShape) (c : Around) (b : Bool) (a : StmtShape) (w : Walked) → stmt_mark a ≡ None → HasFewItems (walk_stmt t c a (with_block_if b (pos_of_stmt a) w)) → Woven (kinds (stmt_form a)) (kinds (stmt_form (probed_stmt t c b a w)))
  stmt_woven t c b (stmt p (d ∷ ms) q f) w none few = absurd (some_none d.pos none)
  stmt_woven t c b (stmt p [] q f) w none few =
      let v = with_block_if b p w in
      marks_woven b p w (few_before (stmt_on t c (stmt p [] q f) v) few) (body_woven t c f v none few)

  body_woven : (t : TablesShape) (c : Around) (f : FormShape) (w : Walked) → body_mark f ≡ None → HasFewItems (walk_body t c f w) → Woven (kinds (body_form f)) (kinds (body_form (probed_body t c f w)))
  body_woven t c (compound d) w none few = compound_woven t c d w none few
  body_woven t c (simply e) w none few = ended (maybe_woven c e w none few)
  body_woven t c (when e a) w none few =
      let v = walk_test c e w in
      kept (kind.Key k.If) (in_parens (tested_woven c e w (none_first (node_mark e) (stmt_mark a) none) (few_before (part_on t c a v) few)) (stmt_woven t c true a v (none_second (node_mark e) (stmt_mark a) none) (few_part t c a v few)))
  body_woven t c (either e a b) w none few =
      let v = walk_test c e w in
      let u = walk_part t c a v in
      let rest = none_second (node_mark e) (first (stmt_mark a) (stmt_mark b)) none in
      let few_u = few_before (part_on t c b u) few in
      kept (kind.Key k.If) (in_parens (tested_woven c e w (none_first (node_mark e) (first (stmt_mark a) (stmt_mark b)) none) (few_before (part_on t c a v) few_u))
      (both (stmt_woven t c true a v (none_first (stmt_mark a) (stmt_mark b) rest) (few_part t c a v few_u)) (kept (kind.Key k.Else) (stmt_woven t c true b u (none_second (stmt_mark a) (stmt_mark b) rest) (few_part t c b u few)))))
  body_woven t c (while e a) w none few =
      let v = walk_loop_test c e w in
      kept (kind.Key k.While) (in_parens (right_woven c e w (none_first (node_mark e) (stmt_mark a) none) (few_before (part_on t c a v) few)) (stmt_woven t c true a v (none_second (node_mark e) (stmt_mark a) none) (few_part t c a v few)))
  body_woven t c (do_while a e) w none few =
      let v = walk_part t c a w in
      kept (kind.Key k.Do) (both (stmt_woven t c true a w (none_first (stmt_mark a) (node_mark e) none) (few_part t c a w (few_before (loop_test_on c e v) few)))
      (kept (kind.Key k.While) (in_parens (right_woven c e v (none_second (stmt_mark a) (node_mark e) none) few) (same (kind.Mark m.Semicolon ∷ [])))))
  body_woven t c (for e f g a) w none few =
      let u = walk_maybe c e w in
      let v = walk_maybe_test c f u in
      let x = walk_step c g v in
      let few_x = few_before (part_on t c a x) few in
      let few_v = few_before (step_on c g v) few_x in
      let few_u = few_before (maybe_test_on c f u) few_v in
      let rest = none_second (maybe_mark e) (first (maybe_mark f) (first (maybe_mark g) (stmt_mark a))) none in
      let more = none_second (maybe_mark f) (first (maybe_mark g) (stmt_mark a)) rest in
      kept (kind.Key k.For) (in_parens (both (ended (maybe_woven c e w (none_first (maybe_mark e) (first (maybe_mark f) (first (maybe_mark g) (stmt_mark a))) none) few_u))
      (both (ended (maybe_test_woven c f u (none_first (maybe_mark f) (first (maybe_mark g) (stmt_mark a)) rest) few_v)) (step_woven c g v (none_first (maybe_mark g) (stmt_mark a) more) few_x)))
      (stmt_woven t c true a x (none_second (maybe_mark g) (stmt_mark a) more) (few_part t c a x few)))
  body_woven t c (switch e items) w none few =
      let v = walk_choice c e items w in
      kept (kind.Key k.Switch) (in_parens (choice_woven c e items w (none_first (node_mark e) (items_mark items) none) (few_before (items_on t c false items v) few))
      (kept (kind.Mark m.LeftBrace) (both (items_woven t c false items v (none_second (node_mark e) (items_mark items) none) few) (same (kind.Mark m.RightBrace ∷ [])))))
  body_woven t c break w none few = same (kinds (body_form break))
  body_woven t c continue w none few = same (kinds (body_form continue))
  body_woven t c (return e) w none few = kept (kind.Key k.Return) (ended (maybe_woven c e w none few))

  compound_woven : (t : TablesShape) (c : Around) (d : CompoundShape) (w : Walked) → compound_mark d ≡ None → HasFewItems (walk_compound t c d w) → Woven (kinds (compound_form d)) (kinds (compound_form (probed_compound t c d w)))
  compound_woven t c (braces p ds items) w none few =
      let v = walk_decls t c ds w in
      kept (kind.Mark m.LeftBrace) (both (decls_woven t c ds w (none_first (decls_mark ds) (items_mark items) none) (few_before (items_on t c false items v) few))
      (both (items_woven t c false items v (none_second (decls_mark ds) (items_mark items) none) few) (same (kind.Mark m.RightBrace ∷ []))))

  items_woven : (t : TablesShape) (c : Around) (after : Bool) (items : ItemShapes) (w : Walked) → items_mark items ≡ None → HasFewItems (walk_items t c after items w) → Woven (kinds (items_form items)) (kinds (items_form (probed_items t c after items w)))
  items_woven t c after no_items w none few = nothing_put
  items_woven t c after (more_items labels a rest) w none few =
      let b = after || is_labelled labels in
      let v = walk_stmt t c a (with_block_if b (pos_of_stmt a) w) in
      let more = none_second (labels_mark labels) (first (stmt_mark a) (items_mark rest)) none in
      both (same (kinds (labels_form labels))) (both (stmt_woven t c b a w (none_first (stmt_mark a) (items_mark rest) more) (few_before (items_on t c (splits a) rest v) few))
      (items_woven t c (splits a) rest v (none_second (stmt_mark a) (items_mark rest) more) few))

-- ---- what is defined at its name: variables of file scope, and parameters

defined_woven : (t : TablesShape) (f : ℕ) (d : DeclaratorShape) (w : Walked) → declarator_mark d ≡ None → HasFewItems (define_declarator t f d w) → Woven (kinds (declarator_form d)) (kinds (declarator_form (defined_declarator t f d w)))
defined_woven t f (declarator stars x (arrays ls) i) w none few =
    both (same (kinds (stars_form stars))) (both (name_woven x (with_variable w) (none_first (name_mark x) (first (lengths_mark ls) (maybe_init_mark i)) none) (whole_small t f x (with_variable w) few))
    (same (kinds (lengths_form ls) ++ kinds (maybe_init_form i))))
defined_woven t f (declarator stars x (function ps) i) w none few = same (kinds (declarator_form (declarator stars x (function ps) i)))

defines_before : (t : TablesShape) (f : ℕ) (ds : DeclaratorShapes) (w : Walked) → IsBefore w (define_declarators t f ds w)
defines_before t f no_declarators w = same_before w
defines_before t f (more_declarators d rest) w = let v = define_declarator t f d w in on_further w v (define_declarators t f rest v) (defined_on t f d w) (defines_before t f rest v)

led_defined_woven : (t : TablesShape) (f : ℕ) (ds : DeclaratorShapes) (w : Walked) → declarators_mark ds ≡ None → HasFewItems (define_declarators t f ds w) → Woven (kinds (led_declarators_form ds)) (kinds (led_declarators_form (defined_declarators t f ds w)))
led_defined_woven t f no_declarators w none few = nothing_put
led_defined_woven t f (more_declarators d rest) w none few =
    let v = define_declarator t f d w in
    kept (kind.Mark m.Comma) (both (defined_woven t f d w (none_first (declarator_mark d) (declarators_mark rest) none) (few_before (defines_before t f rest v) few)) (led_defined_woven t f rest v (none_second (declarator_mark d) (declarators_mark rest) none) few))

all_defined_woven : (t : TablesShape) (f : ℕ) (ds : DeclaratorShapes) (w : Walked) → declarators_mark ds ≡ None → HasFewItems (define_declarators t f ds w) → Woven (kinds (declarators_form ds)) (kinds (declarators_form (defined_declarators t f ds w)))
all_defined_woven t f no_declarators w none few = nothing_put
all_defined_woven t f (more_declarators d rest) w none few =
    let v = define_declarator t f d w in
    both (defined_woven t f d w (none_first (declarator_mark d) (declarators_mark rest) none) (few_before (defines_before t f rest v) few)) (led_defined_woven t f rest v (none_second (declarator_mark d) (declarators_mark rest) none) few)

defining_woven : (t : TablesShape) (f : ℕ) (d : DeclShape) (w : Walked) → decl_mark d ≡ None → HasFewItems (define_decl t f d w) → Woven (kinds (decl_form d)) (kinds (decl_form (defined_decl t f d w)))
defining_woven t f (decl p specs names) w none few = both (same (kinds (specs_form specs))) (both (all_defined_woven t f names w (none_second (specs_mark specs) (declarators_mark names) none) few) (same (kind.Mark m.Semicolon ∷ [])))

param_woven : (t : TablesShape) (f : ℕ) (d : DeclShape) (w : Walked) → decl_mark d ≡ None → HasFewItems (define_decl t f d w) → Woven (kinds (param_form d)) (kinds (param_form (defined_decl t f d w)))
param_woven t f (decl p specs names) w none few = both (same (kinds (specs_form specs))) (all_defined_woven t f names w (none_second (specs_mark specs) (declarators_mark names) none) few)

params_before : (t : TablesShape) (f : ℕ) (ds : DeclShapes) (w : Walked) → IsBefore w (define_decls t f ds w)
params_before t f no_decls w = same_before w
params_before t f (more_decls d rest) w = let v = define_decl t f d w in on_further w v (define_decls t f rest v) (param_on t f d w) (params_before t f rest v)

led_params_woven : (t : TablesShape) (f : ℕ) (ds : DeclShapes) (w : Walked) → decls_mark ds ≡ None → HasFewItems (define_decls t f ds w) → Woven (kinds (led_params_form ds)) (kinds (led_params_form (defined_decls t f ds w)))
led_params_woven t f no_decls w none few = nothing_put
led_params_woven t f (more_decls d rest) w none few =
    let v = define_decl t f d w in
    kept (kind.Mark m.Comma) (both (param_woven t f d w (none_first (decl_mark d) (decls_mark rest) none) (few_before (params_before t f rest v) few)) (led_params_woven t f rest v (none_second (decl_mark d) (decls_mark rest) none) few))

pub param_list_woven : (t : TablesShape) (f : ℕ) (ds : DeclShapes) (w : Walked) → decls_mark ds ≡ None → HasFewItems (define_decls t f ds w) → Woven (kinds (param_list_form ds)) (kinds (param_list_form (defined_decls t f ds w)))
param_list_woven t f no_decls w none few = nothing_put
param_list_woven t f (more_decls d rest) w none few =
    let v = define_decl t f d w in
    both (param_woven t f d w (none_first (decl_mark d) (decls_mark rest) none) (few_before (params_before t f rest v) few)) (led_params_woven t f rest v (none_second (decl_mark d) (decls_mark rest) none) few)

signature_woven : (t : TablesShape) (f : ℕ) (d : DeclFormShape) (w : Walked) → behind_mark d ≡ None → HasFewItems (define_parameters t f d w) → Woven (kinds (behind_form d)) (kinds (behind_form (defined_signature t f d w)))
signature_woven t f (function (params ds)) w none few = kept (kind.Mark m.LeftParen) (both (param_list_woven t f ds w none few) (same (kind.Mark m.RightParen ∷ [])))
signature_woven t f (function empty) w none few = same (kinds (behind_form (function empty)))
signature_woven t f (function void) w none few = same (kinds (behind_form (function void)))
signature_woven t f (arrays ls) w none few = same (kinds (behind_form (arrays ls)))

-- ---- programs

external_woven : (t : TablesShape) (e : ExternalShape) (w : Walked) → external_mark e ≡ None → HasFewItems (walk_external t e w) → Woven (kinds (external_form e)) (kinds (external_form (probed_external t e w)))
external_woven t (declared d) w none few = defining_woven t 0 d w none few
external_woven t (defined specs (declarator stars x d i) (z ∷ ms) (braces p ds items)) w none few =
    let rest = none_second (specs_mark specs) (first (declarator_mark (declarator stars x d i)) (first (mark_among (z ∷ ms)) (compound_mark (braces p ds items)))) none in
    absurd (some_none z.pos (none_first (mark_among (z ∷ ms)) (compound_mark (braces p ds items)) (none_second (declarator_mark (declarator stars x d i)) (first (mark_among (z ∷ ms)) (compound_mark (braces p ds items))) rest)))
external_woven t (defined specs (declarator stars x d i) [] (braces p ds items)) w none few =
    let f = function_of t (text_of x) in
    let v = define_parameters t f d w in
    let b = braces p ds items in
    let u = with_block p v in
    let rest = none_second (specs_mark specs) (first (declarator_mark (declarator stars x d i)) (compound_mark b)) none in
    let name = none_first (declarator_mark (declarator stars x d i)) (compound_mark b) rest in
    let few_u : HasFewItems u = few_before (compound_on t (in_function f) b u) few in
    both (same (kinds (specs_form specs))) (both (both (same (kinds (stars_form stars))) (both (same (kinds (maybe_named_form x))) (both (signature_woven t f d w (none_first (behind_mark d) (maybe_init_mark i) (none_second (name_mark x) (first (behind_mark d) (maybe_init_mark i)) name)) (few_before (block_on p v) few_u)) (same (kinds (maybe_init_form i))))))
    (marks_woven true p v few_u (compound_woven t (in_function f) b u (none_second (declarator_mark (declarator stars x d i)) (compound_mark b) rest) few)))

pub externals_woven : (t : TablesShape) (es : List ExternalShape) (w : Walked) → externals_mark es ≡ None → HasFewItems (walk_externals t es w) → Woven (kinds (externals_form es)) (kinds (externals_form (probed_externals t es w)))
externals_woven t [] w none few = nothing_put
externals_woven t (e ∷ rest) w none few =
    let v = walk_external t e w in
    both (external_woven t e w (none_first (external_mark e) (externals_mark rest) none) (few_before (externals_on t rest v) few)) (externals_woven t rest v (none_second (external_mark e) (externals_mark rest) none) few)
