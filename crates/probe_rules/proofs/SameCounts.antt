-- What stays the same with probes: how many variables are declared, what splits a list of statements, and what a switch chooses by.
use Rattle.std.proofs.Common.{◌≡◌, ℤ, ◌+◌, List, ◌++◌, Option, Bool, true, false, ◌∙◌, refl, sym, ap, ap₂}
use Rattle.std.specs.Prelude.{◌||◌, if◌then◌else◌}
use Rattle.c_base.specs.declared.place.Pos.{Pos}
use Rattle.c_base.specs.declared.place.IntKind.{IntKind}
use Rattle.c_syntax.specs.declared.tree.Named.{Named}
use Rattle.c_syntax.specs.declared.tree.Star.{Star}
use Rattle.c_syntax.specs.Shape.{int, pointer, array, structure, nothing, NoteShape, bare, typed, known, NodeShape, node, ExprShape, DeclShape, decl, DeclShapes, no_decls, more_decls, DeclaratorShape, declarator, DeclaratorShapes, no_declarators, more_declarators, LengthShapes, arrays, function, MaybeInit, no_init, one_init, StmtShape, stmt, FormShape, compound, simply, when, either, while, do_while, for, switch, break, continue, return, CompoundShape, braces, ItemShapes, no_items, more_items}
use Rattle.c_tables.specs.Tables.{TablesShape}
use Rattle.c_walk.specs.declared.around.Around.{Around}
use Rattle.c_walk.specs.declared.around.Taken.{Taken}
use Rattle.c_walk.specs.Places.{is_place}
use Rattle.c_walk.specs.Tests.{choosing}
use Rattle.c_walk.specs.Walked.{Walked, is_used, is_written, with_block, with_block_if, with_site}
use Rattle.c_walk.specs.Walking.{walk_test, walk_maybe, walk_maybe_test, walk_loop_test, walk_step}
use Rattle.c_walk.specs.Stating.{with_variable, walk_declarator, walk_decl, walk_decls, pos_of_stmt, splits, is_labelled, walk_choice, walk_stmt, walk_part}
use Rattle.c_meaning.specs.Constants.{label_constants, case_constants}
use Rattle.c_meaning.specs.Counts.{variables_of, variables_among, decl_variables, decls_variables, stmt_variables, form_variables, compound_variables, items_variables}
use Rattle.probe_rules.specs.Marks.{value_note, place_note, in_use, in_def, in_select}
use Rattle.probe_rules.specs.ProbedExpressions.{in_sites, probed_node, probed_form}
use Rattle.probe_rules.specs.ProbedStatements.{probed_variable, probed_declarator, probed_declarators, probed_decl, probed_decls, probed_stmt, probed_body, probed_compound, probed_items}

-- ---- what a switch chooses by

place_choosing : (p o : Pos) (n : NoteShape) (f g : ExprShape) → choosing (node p o (place_note n) f) ≡ choosing (node p o n g)
place_choosing p o (typed (int k) j) f g = refl
place_choosing p o (typed (pointer k) j) f g = refl
place_choosing p o (typed (array k m) j) f g = refl
place_choosing p o (typed (structure m) j) f g = refl
place_choosing p o (typed nothing j) f g = refl
place_choosing p o (known (int k) v) f g = refl
place_choosing p o (known (pointer k) v) f g = refl
place_choosing p o (known (array k m) v) f g = refl
place_choosing p o (known (structure m) v) f g = refl
place_choosing p o (known nothing v) f g = refl
place_choosing p o bare f g = refl

value_choosing : (p o : Pos) (n : NoteShape) (f g : ExprShape) → choosing (node p o (value_note n) f) ≡ choosing (node p o n g)
value_choosing p o (typed (int k) j) f g = refl
value_choosing p o (typed (pointer k) j) f g = refl
value_choosing p o (typed (array k m) j) f g = refl
value_choosing p o (typed (structure m) j) f g = refl
value_choosing p o (typed nothing j) f g = refl
value_choosing p o (known (int k) v) f g = refl
value_choosing p o (known (pointer k) v) f g = refl
value_choosing p o (known (array k m) v) f g = refl
value_choosing p o (known (structure m) v) f g = refl
value_choosing p o (known nothing v) f g = refl
value_choosing p o bare f g = refl

note_choosing : (p o : Pos) (n : NoteShape) (f g : ExprShape) → choosing (node p o n f) ≡ choosing (node p o n g)
note_choosing p o n f g = sym (place_choosing p o n f f) ∙ place_choosing p o n f g

use_choosing : (b : Bool) (w : Walked) (a : NodeShape) → choosing (in_use b w a) ≡ choosing a
use_choosing true w (node p o n f) = place_choosing p o n _ f
use_choosing false w a = refl

def_choosing : (b : Bool) (w : Walked) (a : NodeShape) → choosing (in_def b w a) ≡ choosing a
def_choosing true w (node p o n f) = place_choosing p o n _ f
def_choosing false w a = refl

pick_choosing : (b : Bool) (a d : NodeShape) → choosing a ≡ choosing d → choosing (if b then a else d) ≡ choosing d
pick_choosing true a d e = e
pick_choosing false a d e = refl

pub same_choosing : (c : Around) (r : Taken) (a : NodeShape) (w : Walked) → choosing (probed_node c r a w) ≡ choosing a
same_choosing c r (node p o n f) w =
    let b = is_used r n in
    let g = probed_form c r f (with_site c r p n f w) in
    let d = node p o n g in
    pick_choosing (is_place f) (in_sites r (is_used r n) w d) d (def_choosing (is_written r) w (in_use b w d) ∙ use_choosing b w d) ∙ note_choosing p o n g f

pub select_choosing : (vs : List ℤ) (w : Walked) (a : NodeShape) → choosing (in_select vs w a) ≡ choosing a
select_choosing vs w (node p o n f) = value_choosing p o n _ f

-- ---- variables

variable_same : (t : TablesShape) (c : Around) (stars : List Star) (x : Option Named) (ls : LengthShapes) (i : MaybeInit) (w : Walked) → variables_of (probed_variable t c stars x ls i w) ≡ 1
variable_same t c stars x ls no_init w = refl
variable_same t c stars x ls (one_init i) w = refl

pub declarator_same : (t : TablesShape) (c : Around) (d : DeclaratorShape) (w : Walked) → variables_of (probed_declarator t c d w) ≡ variables_of d
declarator_same t c (declarator stars x (arrays ls) i) w = variable_same t c stars x ls i (with_variable w)
declarator_same t c (declarator stars x (function ps) i) w = refl

declarators_same : (t : TablesShape) (c : Around) (ds : DeclaratorShapes) (w : Walked) → variables_among (probed_declarators t c ds w) ≡ variables_among ds
declarators_same t c no_declarators w = refl
declarators_same t c (more_declarators d rest) w = ap₂ (λ m n. m + n) (declarator_same t c d w) (declarators_same t c rest (walk_declarator t c d w))

pub decl_same : (t : TablesShape) (c : Around) (d : DeclShape) (w : Walked) → decl_variables (probed_decl t c d w) ≡ decl_variables d
decl_same t c (decl p specs names) w = declarators_same t c names w

pub decls_same : (t : TablesShape) (c : Around) (ds : DeclShapes) (w : Walked) → decls_variables (probed_decls t c ds w) ≡ decls_variables ds
decls_same t c no_decls w = refl
decls_same t c (more_decls d rest) w = ap₂ (λ m n. m + n) (decl_same t c d w) (decls_same t c rest (walk_decl t c d w))

mutual
  pub stmt_same : (t : TablesShape) (c : Around) (b : Bool) (a : StmtShape) (w : Walked) → stmt_variables (probed_stmt t c b a w) ≡ stmt_variables a
  stmt_same t c b (stmt p ms q f) w = body_same t c f (with_block_if b p w)

  body_same : (t : TablesShape) (c : Around) (f : FormShape) (w : Walked) → form_variables (probed_body t c f w) ≡ form_variables f
  body_same t c (compound d) w = compound_same t c d w
  body_same t c (simply e) w = refl
  body_same t c (when e a) w = stmt_same t c true a (walk_test c e w)
  body_same t c (either e a b) w = ap₂ (λ m n. m + n) (stmt_same t c true a (walk_test c e w)) (stmt_same t c true b (walk_part t c a (walk_test c e w)))
  body_same t c (while e a) w = stmt_same t c true a (walk_loop_test c e w)
  body_same t c (do_while a e) w = stmt_same t c true a w
  body_same t c (for e f g a) w = stmt_same t c true a (walk_step c g (walk_maybe_test c f (walk_maybe c e w)))
  body_same t c (switch e items) w = items_same t c false items (walk_choice c e items w)
  body_same t c break w = refl
  body_same t c continue w = refl
  body_same t c (return e) w = refl

  pub compound_same : (t : TablesShape) (c : Around) (d : CompoundShape) (w : Walked) → compound_variables (probed_compound t c d w) ≡ compound_variables d
  compound_same t c (braces p ds items) w = ap₂ (λ m n. m + n) (decls_same t c ds w) (items_same t c false items (walk_decls t c ds w))

  items_same : (t : TablesShape) (c : Around) (after : Bool) (items : ItemShapes) (w : Walked) → items_variables (probed_items t c after items w) ≡ items_variables items
  items_same t c after no_items w = refl
  items_same t c after (more_items labels a rest) w =
      let b = after || is_labelled labels in
      ap₂ (λ m n. m + n) (stmt_same t c b a w) (items_same t c (splits a) rest (walk_stmt t c a (with_block_if b (pos_of_stmt a) w)))

-- ---- lists of statements

pub same_splits : (t : TablesShape) (c : Around) (b : Bool) (a : StmtShape) (w : Walked) → splits (probed_stmt t c b a w) ≡ splits a
same_splits t c b (stmt p ms q (compound d)) w = refl
same_splits t c b (stmt p ms q (simply e)) w = refl
same_splits t c b (stmt p ms q (when e a)) w = refl
same_splits t c b (stmt p ms q (either e a d)) w = refl
same_splits t c b (stmt p ms q (while e a)) w = refl
same_splits t c b (stmt p ms q (do_while a e)) w = refl
same_splits t c b (stmt p ms q (for e f g a)) w = refl
same_splits t c b (stmt p ms q (switch e items)) w = refl
same_splits t c b (stmt p ms q break) w = refl
same_splits t c b (stmt p ms q continue) w = refl
same_splits t c b (stmt p ms q (return e)) w = refl

pub same_cases : (k : Option IntKind) (t : TablesShape) (c : Around) (after : Bool) (items : ItemShapes) (w : Walked) → case_constants k (probed_items t c after items w) ≡ case_constants k items
same_cases k t c after no_items w = refl
same_cases k t c after (more_items labels a rest) w =
    let b = after || is_labelled labels in
    ap (λ z. label_constants k labels ++ z) (same_cases k t c (splits a) rest (walk_stmt t c a (with_block_if b (pos_of_stmt a) w)))

-- a substatement of `if`, `else` or a loop is a statement that is a block
pub part_is : (t : TablesShape) (c : Around) (a : StmtShape) (w : Walked) → walk_part t c a w ≡ walk_stmt t c a (with_block (pos_of_stmt a) w)
part_is t c (stmt p ms q f) w = refl
