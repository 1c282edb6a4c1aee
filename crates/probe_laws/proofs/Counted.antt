-- The walk counts the decisions among its items.
use Rattle.std.proofs.Common.{◌≡◌, ℕ, ◌+◌, ◌++◌, List, [], ◌∷◌, Option, Bool, true, false, arith}
use Rattle.std.specs.Prelude.{◌||◌, if◌then◌else◌}
use Rattle.c_base.specs.declared.place.Pos.{Pos}
use Rattle.c_syntax.specs.declared.tree.Named.{Named}
use Rattle.c_syntax.specs.Shape.{NoteShape, unary, before, size_of, plain, and, or, assign, comma, NodeShape, node, ExprShape, leaf, paren, call, prefix, size_of_type, cast, suffix, two, choose, probe, index, field, behind, NodeShapes, no_nodes, more_nodes, MaybeNode, no_node, one_node, decl, DeclShapes, no_decls, more_decls, DeclaratorShape, declarator, DeclaratorShapes, no_declarators, more_declarators, DeclFormShape, arrays, function, empty, void, params, MaybeInit, no_init, one_init, InitShape, one, listed, StmtShape, stmt, FormShape, compound, simply, when, either, while, do_while, for, switch, break, continue, return, CompoundShape, braces, ItemShapes, no_items, more_items, ExternalShape, defined, declared}
use Rattle.c_tables.specs.Tables.{TablesShape}
use Rattle.c_tables.specs.Rows.{first_place, name_pos, text_of}
use Rattle.c_walk.specs.Items.{Direct, Item, Outcomes, block, decision, def, used, cases}
use Rattle.c_walk.specs.declared.around.Around.{Around}
use Rattle.c_walk.specs.declared.around.Taken.{Taken}
use Rattle.c_walk.specs.declared.around.Taken.TheVariants.{Read, Changed}
use Rattle.c_walk.specs.Places.{is_place, direct_form}
use Rattle.c_walk.specs.Sound.{decision_count}
use Rattle.c_walk.specs.Tests.{is_logical_form, outcomes_of_form, choosing, case_values}
use Rattle.c_walk.specs.Walked.{Walked, is_written, operand_taken, left_taken, with_block, with_block_if, with_decision, with_test, with_def, with_use, with_sites, inside, inside_test, with_site, pos_of, right_taken, is_used}
use Rattle.c_walk.specs.Walking.{walk_node, walk_form, walk_test, walk_arm, walk_nodes, walk_maybe, walk_loop_test, walk_maybe_test, walk_step}
use Rattle.c_walk.specs.Stating.{whole, with_variable, with_whole_def, walk_init, walk_maybe_init, walk_declarator, walk_declarators, walk_decls, pos_of_stmt, splits, is_labelled, walk_choice, walk_stmt, walk_body, walk_part, walk_compound, walk_items}
use Rattle.c_walk.specs.Units.{define_declarator, define_declarators, define_decls, define_parameters, function_of, in_function, walk_external, walk_externals}

abbrev pub IsCounted : Walked → Type 0
IsCounted w = decision_count w.items ≡ w.decisions

-- ---- one more item

counted_then : (items : List Item) (i : Item) → decision_count (items ++ i ∷ []) ≡ decision_count items + decision_count (i ∷ [])
counted_then [] i = omega arith
counted_then (block p ∷ items) i = counted_then items i
counted_then (decision p o ∷ items) i = let h = counted_then items i in omega (arith, h)
counted_then (def p f d ∷ items) i = counted_then items i
counted_then (used p f d o ∷ items) i = counted_then items i

block_counted : (p : Pos) (w : Walked) → IsCounted w → IsCounted (with_block p w)
block_counted p w h = let e = counted_then w.items (block p) in omega (arith, e, h)

block_if_counted : (b : Bool) (p : Pos) (w : Walked) → IsCounted w → IsCounted (with_block_if b p w)
block_if_counted true p w h = block_counted p w h
block_if_counted false p w h = h

decision_counted : (p : Pos) (o : Outcomes) (w : Walked) → IsCounted w → IsCounted (with_decision p o w)
decision_counted p o w h = let e = counted_then w.items (decision p o) in omega (arith, e, h)

def_counted : (b : Bool) (c : Around) (p : Pos) (d : Option Direct) (w : Walked) → IsCounted w → IsCounted (with_def b c p d w)
def_counted false c p d w h = h
def_counted true c p d w h = let e = counted_then w.items (def p c.function d) in omega (arith, e, h)

use_counted : (b : Bool) (c : Around) (p : Pos) (d : Option Direct) (w : Walked) → IsCounted w → IsCounted (with_use b c p d w)
use_counted false c p d w h = h
use_counted true c p d w h = let e = counted_then w.items (used p c.function d c.owner) in omega (arith, e, h)

site_counted : (c : Around) (r : Taken) (p : Pos) (n : NoteShape) (f : ExprShape) (w : Walked) → IsCounted w → IsCounted (with_site c r p n f w)
site_counted c r p n f w h = by (is_place f)
  where
    by : (b : Bool) → IsCounted (if b then with_sites c r p (direct_form n f) (is_used r n) w else w)
    by true = use_counted (is_used r n) c p (direct_form n f) (with_def (is_written r) c p (direct_form n f) w) (def_counted (is_written r) c p (direct_form n f) w h)
    by false = h

test_counted : (p : Pos) (f : ExprShape) (w : Walked) → IsCounted w → IsCounted (with_test p f w)
test_counted p f w h = by (is_logical_form f)
  where
    by : (b : Bool) → IsCounted (if b then w else with_decision p (outcomes_of_form f) w)
    by true = h
    by false = decision_counted p (outcomes_of_form f) w h

-- ---- expressions

mutual
  node_walked : (c : Around) (r : Taken) (a : NodeShape) (w : Walked) → IsCounted w → IsCounted (walk_node c r a w)
  node_walked c r (node p o n f) w h = form_walked c r f _ (site_counted c r p n f w h)

  form_walked : (c : Around) (r : Taken) (f : ExprShape) (w : Walked) → IsCounted w → IsCounted (walk_form c r f w)
  form_walked c r (leaf l) w h = h
  form_walked c r (paren a) w h = node_walked c r a w h
  form_walked c r (call x args) w h = nodes_walked c args w h
  form_walked c r (prefix (unary u) a) w h = node_walked c (operand_taken u) a w h
  form_walked c r (prefix (before u) a) w h = node_walked c Changed a w h
  form_walked c r (prefix size_of a) w h = h
  form_walked c r (size_of_type y) w h = h
  form_walked c r (cast y a) w h = node_walked c Read a w h
  form_walked c r (suffix a (index b)) w h = node_walked c Read b (walk_node c Read a w) (node_walked c Read a w h)
  form_walked c r (suffix a (field g x q)) w h = node_walked c Read a w h
  form_walked c r (suffix a (behind u)) w h = node_walked c Changed a w h
  form_walked c r (two and a b) w h = let v = walk_test c a w in tests_walked c b (with_block (pos_of b) v) (block_counted (pos_of b) v (tests_walked c a w h))
  form_walked c r (two or a b) w h = let v = walk_test c a w in tests_walked c b (with_block (pos_of b) v) (block_counted (pos_of b) v (tests_walked c a w h))
  form_walked c r (two (assign u) a b) w h = node_walked c (right_taken u a) b (walk_node c (left_taken u) a w) (node_walked c (left_taken u) a w h)
  form_walked c r (two (plain u) a b) w h = node_walked c Read b (walk_node c Read a w) (node_walked c Read a w h)
  form_walked c r (two comma a b) w h = node_walked c Read b (walk_node c Read a w) (node_walked c Read a w h)
  form_walked c r (choose a b d) w h = let v = walk_test c a w in arm_walked c d (walk_arm c b v) (arm_walked c b v (tests_walked c a w h))
  form_walked c r (probe u a) w h = node_walked c r a w h

  tests_walked : (c : Around) (a : NodeShape) (w : Walked) → IsCounted w → IsCounted (walk_test c a w)
  tests_walked c (node p o n f) w h = let d = inside_test c f w in form_walked d Read f (with_site d Read p n f (with_test p f w)) (site_counted d Read p n f (with_test p f w) (test_counted p f w h))

  arm_walked : (c : Around) (a : NodeShape) (w : Walked) → IsCounted w → IsCounted (walk_arm c a w)
  arm_walked c (node p o n f) w h = form_walked c Read f (with_site c Read p n f (with_block p w)) (site_counted c Read p n f (with_block p w) (block_counted p w h))

  nodes_walked : (c : Around) (l : NodeShapes) (w : Walked) → IsCounted w → IsCounted (walk_nodes c l w)
  nodes_walked c no_nodes w h = h
  nodes_walked c (more_nodes a rest) w h = nodes_walked c rest (walk_node c Read a w) (node_walked c Read a w h)

maybe_walked : (c : Around) (e : MaybeNode) (w : Walked) → IsCounted w → IsCounted (walk_maybe c e w)
maybe_walked c no_node w h = h
maybe_walked c (one_node a) w h = node_walked c Read a w h

loop_test_walked : (c : Around) (a : NodeShape) (w : Walked) → IsCounted w → IsCounted (walk_loop_test c a w)
loop_test_walked c a w h = tests_walked c a (with_block (pos_of a) w) (block_counted (pos_of a) w h)

maybe_test_walked : (c : Around) (e : MaybeNode) (w : Walked) → IsCounted w → IsCounted (walk_maybe_test c e w)
maybe_test_walked c no_node w h = h
maybe_test_walked c (one_node a) w h = loop_test_walked c a w h

step_walked : (c : Around) (e : MaybeNode) (w : Walked) → IsCounted w → IsCounted (walk_step c e w)
step_walked c no_node w h = h
step_walked c (one_node a) w h = arm_walked c a w h

-- ---- declarations

whole_walked : (t : TablesShape) (f : ℕ) (x : Option Named) (w : Walked) → IsCounted w → IsCounted (with_whole_def t f x w)
whole_walked t f x w h = def_counted true (in_function f) (name_pos first_place x) (whole t w.variables) w h

init_walked : (c : Around) (i : InitShape) (w : Walked) → IsCounted w → IsCounted (walk_init c i w)
init_walked c (one a) w h = node_walked c Read a w h
init_walked c (listed p items last) w h = h

maybe_init_walked : (t : TablesShape) (c : Around) (x : Option Named) (i : MaybeInit) (w : Walked) → IsCounted w → IsCounted (walk_maybe_init t c x i w)
maybe_init_walked t c x no_init w h = h
maybe_init_walked t c x (one_init i) w h = init_walked c i (with_whole_def t c.function x w) (whole_walked t c.function x w h)

declarator_walked : (t : TablesShape) (c : Around) (d : DeclaratorShape) (w : Walked) → IsCounted w → IsCounted (walk_declarator t c d w)
declarator_walked t c (declarator stars x (arrays ls) i) w h = maybe_init_walked t c x i (with_variable w) h
declarator_walked t c (declarator stars x (function ps) i) w h = h

declarators_walked : (t : TablesShape) (c : Around) (ds : DeclaratorShapes) (w : Walked) → IsCounted w → IsCounted (walk_declarators t c ds w)
declarators_walked t c no_declarators w h = h
declarators_walked t c (more_declarators d rest) w h = declarators_walked t c rest (walk_declarator t c d w) (declarator_walked t c d w h)

decls_walked : (t : TablesShape) (c : Around) (ds : DeclShapes) (w : Walked) → IsCounted w → IsCounted (walk_decls t c ds w)
decls_walked t c no_decls w h = h
decls_walked t c (more_decls (decl p specs names) rest) w h = decls_walked t c rest (walk_declarators t c names w) (declarators_walked t c names w h)

-- ---- statements

choice_walked : (c : Around) (e : NodeShape) (items : ItemShapes) (w : Walked) → IsCounted w → IsCounted (walk_choice c e items w)
choice_walked c e items w h = let o = cases (case_values (choosing e) items) in node_walked (inside c w) Read e (with_decision (pos_of e) o w) (decision_counted (pos_of e) o w h)

mutual
  stmt_walked : (t : TablesShape) (c : Around) (a : StmtShape) (w : Walked) → IsCounted w → IsCounted (walk_stmt t c a w)
  stmt_walked t c (stmt p marks q f) w h = body_walked t c f w h

  body_walked : (t : TablesShape) (c : Around) (f : FormShape) (w : Walked) → IsCounted w → IsCounted (walk_body t c f w)
  body_walked t c (compound b) w h = compound_walked t c b w h
  body_walked t c (simply e) w h = maybe_walked c e w h
  body_walked t c (when e a) w h = part_walked t c a (walk_test c e w) (tests_walked c e w h)
  body_walked t c (either e a b) w h = let v = walk_test c e w in part_walked t c b (walk_part t c a v) (part_walked t c a v (tests_walked c e w h))
  body_walked t c (while e a) w h = part_walked t c a (walk_loop_test c e w) (loop_test_walked c e w h)
  body_walked t c (do_while a e) w h = loop_test_walked c e (walk_part t c a w) (part_walked t c a w h)
  body_walked t c (for e f g a) w h =
      let u = walk_maybe c e w in
      let v = walk_maybe_test c f u in
      part_walked t c a (walk_step c g v) (step_walked c g v (maybe_test_walked c f u (maybe_walked c e w h)))
  body_walked t c (switch e items) w h = items_walked t c false items (walk_choice c e items w) (choice_walked c e items w h)
  body_walked t c break w h = h
  body_walked t c continue w h = h
  body_walked t c (return e) w h = maybe_walked c e w h

  part_walked : (t : TablesShape) (c : Around) (a : StmtShape) (w : Walked) → IsCounted w → IsCounted (walk_part t c a w)
  part_walked t c (stmt p marks q f) w h = body_walked t c f (with_block p w) (block_counted p w h)

  compound_walked : (t : TablesShape) (c : Around) (b : CompoundShape) (w : Walked) → IsCounted w → IsCounted (walk_compound t c b w)
  compound_walked t c (braces p ds items) w h = items_walked t c false items (walk_decls t c ds w) (decls_walked t c ds w h)

  items_walked : (t : TablesShape) (c : Around) (after : Bool) (l : ItemShapes) (w : Walked) → IsCounted w → IsCounted (walk_items t c after l w)
  items_walked t c after no_items w h = h
  items_walked t c after (more_items labels a rest) w h =
      let b = after || is_labelled labels in
      let u = with_block_if b (pos_of_stmt a) w in
      items_walked t c (splits a) rest (walk_stmt t c a u) (stmt_walked t c a u (block_if_counted b (pos_of_stmt a) w h))

-- ---- units

define_walked : (t : TablesShape) (f : ℕ) (d : DeclaratorShape) (w : Walked) → IsCounted w → IsCounted (define_declarator t f d w)
define_walked t f (declarator stars x (arrays ls) i) w h = whole_walked t f x (with_variable w) h
define_walked t f (declarator stars x (function ps) i) w h = h

defines_walked : (t : TablesShape) (f : ℕ) (ds : DeclaratorShapes) (w : Walked) → IsCounted w → IsCounted (define_declarators t f ds w)
defines_walked t f no_declarators w h = h
defines_walked t f (more_declarators d rest) w h = defines_walked t f rest (define_declarator t f d w) (define_walked t f d w h)

define_decls_walked : (t : TablesShape) (f : ℕ) (ds : DeclShapes) (w : Walked) → IsCounted w → IsCounted (define_decls t f ds w)
define_decls_walked t f no_decls w h = h
define_decls_walked t f (more_decls (decl p specs names) rest) w h = define_decls_walked t f rest (define_declarators t f names w) (defines_walked t f names w h)

parameters_walked : (t : TablesShape) (f : ℕ) (d : DeclFormShape) (w : Walked) → IsCounted w → IsCounted (define_parameters t f d w)
parameters_walked t f (function (params ds)) w h = define_decls_walked t f ds w h
parameters_walked t f (function empty) w h = h
parameters_walked t f (function void) w h = h
parameters_walked t f (arrays ls) w h = h

external_walked : (t : TablesShape) (e : ExternalShape) (w : Walked) → IsCounted w → IsCounted (walk_external t e w)
external_walked t (declared (decl p specs names)) w h = defines_walked t 0 names w h
external_walked t (defined specs (declarator stars x d i) marks (braces p ds items)) w h =
    let f = function_of t (text_of x) in
    let v = define_parameters t f d w in
    compound_walked t (in_function f) (braces p ds items) (with_block p v) (block_counted p v (parameters_walked t f d w h))

pub externals_walked : (t : TablesShape) (es : List ExternalShape) (w : Walked) → IsCounted w → IsCounted (walk_externals t es w)
externals_walked t [] w h = h
externals_walked t (e ∷ rest) w h = externals_walked t rest (walk_external t e w) (external_walked t e w h)
