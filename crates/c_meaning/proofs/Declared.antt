-- How many variables the walk over a program counts: an expression declares none, a declaration and a statement as many as their declarators do.
use Rattle.std.proofs.Common.{◌≡◌, ℕ, ◌+◌, Option, Bool, true, false, ◌∙◌, refl, arith}
use Rattle.std.specs.Prelude.{◌||◌, if◌then◌else◌}
use Rattle.c_base.specs.declared.place.Pos.{Pos}
use Rattle.c_syntax.specs.declared.tree.Named.{Named}
use Rattle.c_syntax.specs.Shape.{NoteShape, unary, before, size_of, plain, and, or, assign, comma, NodeShape, node, ExprShape, leaf, paren, call, prefix, size_of_type, cast, suffix, two, choose, probe, index, field, behind, NodeShapes, no_nodes, more_nodes, MaybeNode, no_node, one_node, DeclShape, decl, DeclShapes, no_decls, more_decls, DeclaratorShape, declarator, DeclaratorShapes, no_declarators, more_declarators, DeclFormShape, arrays, function, ParamsShape, empty, void, params, MaybeInit, no_init, one_init, one, listed, StmtShape, stmt, FormShape, compound, simply, when, either, while, do_while, for, switch, break, continue, return, CompoundShape, braces, ItemShapes, no_items, more_items, ExternalShape, defined, declared}
use Rattle.c_tables.specs.Tables.{TablesShape}
use Rattle.c_walk.specs.declared.around.Around.{Around}
use Rattle.c_walk.specs.declared.around.Taken.{Taken}
use Rattle.c_walk.specs.declared.around.Taken.TheVariants.{Read, Changed}
use Rattle.c_tables.specs.Rows.{text_of}
use Rattle.c_walk.specs.Items.{Direct, cases}
use Rattle.c_walk.specs.Places.{is_place, direct_form}
use Rattle.c_walk.specs.Tests.{is_logical_form, outcomes_of_form, choosing, case_values}
use Rattle.c_walk.specs.Walked.{Walked, is_used, is_written, operand_taken, left_taken, right_taken, with_block, with_block_if, pos_of, inside, inside_test, with_decision, with_test, with_def, with_use, with_sites, with_site}
use Rattle.c_walk.specs.Walking.{walk_node, walk_form, walk_test, walk_arm, walk_nodes, walk_maybe, walk_loop_test, walk_maybe_test, walk_step}
use Rattle.c_walk.specs.Stating.{with_variable, with_whole_def, walk_maybe_init, walk_declarator, walk_declarators, walk_decl, walk_decls, pos_of_stmt, splits, is_labelled, walk_choice, walk_stmt, walk_body, walk_part, walk_compound, walk_items}
use Rattle.c_walk.specs.Units.{define_declarator, define_declarators, define_decl, define_decls, define_params, define_parameters, function_of, in_function, walk_function, walk_external}
use Rattle.c_meaning.specs.Counts.{variables_of, variables_among, decl_variables, decls_variables, stmt_variables, form_variables, compound_variables, items_variables, params_variables, signature_variables, external_variables}

-- ---- expressions

pick_same : (b : Bool) (v w : Walked) → v.variables ≡ w.variables → (if b then v else w).variables ≡ w.variables
pick_same true v w e = e
pick_same false v w e = refl

pick_other : (b : Bool) (v w : Walked) → v.variables ≡ w.variables → (if b then w else v).variables ≡ w.variables
pick_other true v w e = refl
pick_other false v w e = e

def_count : (b : Bool) (c : Around) (p : Pos) (d : Option Direct) (w : Walked) → (with_def b c p d w).variables ≡ w.variables
def_count true c p d w = refl
def_count false c p d w = refl

use_count : (b : Bool) (c : Around) (p : Pos) (d : Option Direct) (w : Walked) → (with_use b c p d w).variables ≡ w.variables
use_count true c p d w = refl
use_count false c p d w = refl

sites_count : (c : Around) (r : Taken) (p : Pos) (d : Option Direct) (value : Bool) (w : Walked) → (with_sites c r p d value w).variables ≡ w.variables
sites_count c r p d value w = use_count value c p d (with_def (is_written r) c p d w) ∙ def_count (is_written r) c p d w

site_count : (c : Around) (r : Taken) (p : Pos) (n : NoteShape) (f : ExprShape) (w : Walked) → (with_site c r p n f w).variables ≡ w.variables
site_count c r p n f w = pick_same (is_place f) (with_sites c r p (direct_form n f) (is_used r n) w) w (sites_count c r p (direct_form n f) (is_used r n) w)

test_count : (p : Pos) (f : ExprShape) (w : Walked) → (with_test p f w).variables ≡ w.variables
test_count p f w = pick_other (is_logical_form f) (with_decision p (outcomes_of_form f) w) w refl

pub block_count : (b : Bool) (p : Pos) (w : Walked) → (with_block_if b p w).variables ≡ w.variables
block_count true p w = refl
block_count false p w = refl

mutual
  pub node_count : (c : Around) (r : Taken) (a : NodeShape) (w : Walked) → (walk_node c r a w).variables ≡ w.variables
  node_count c r (node p o n f) w = form_count c r f (with_site c r p n f w) ∙ site_count c r p n f w

  form_count : (c : Around) (r : Taken) (f : ExprShape) (w : Walked) → (walk_form c r f w).variables ≡ w.variables
  form_count c r (leaf l) w = refl
  form_count c r (paren a) w = node_count c r a w
  form_count c r (call x args) w = nodes_count c args w
  form_count c r (prefix (unary u) a) w = node_count c (operand_taken u) a w
  form_count c r (prefix (before u) a) w = node_count c Changed a w
  form_count c r (prefix size_of a) w = refl
  form_count c r (size_of_type y) w = refl
  form_count c r (cast y a) w = node_count c Read a w
  form_count c r (suffix a (index b)) w = node_count c Read b (walk_node c Read a w) ∙ node_count c Read a w
  form_count c r (suffix a (field h x q)) w = node_count c Read a w
  form_count c r (suffix a (behind u)) w = node_count c Changed a w
  form_count c r (two and a b) w = test_node_count c b (with_block (pos_of b) (walk_test c a w)) ∙ test_node_count c a w
  form_count c r (two or a b) w = test_node_count c b (with_block (pos_of b) (walk_test c a w)) ∙ test_node_count c a w
  form_count c r (two (assign u) a b) w = node_count c (right_taken u a) b (walk_node c (left_taken u) a w) ∙ node_count c (left_taken u) a w
  form_count c r (two (plain u) a b) w = node_count c Read b (walk_node c Read a w) ∙ node_count c Read a w
  form_count c r (two comma a b) w = node_count c Read b (walk_node c Read a w) ∙ node_count c Read a w
  form_count c r (choose a b d) w = arm_count c d (walk_arm c b (walk_test c a w)) ∙ (arm_count c b (walk_test c a w) ∙ test_node_count c a w)
  form_count c r (probe u a) w = node_count c r a w

  pub test_node_count : (c : Around) (a : NodeShape) (w : Walked) → (walk_test c a w).variables ≡ w.variables
  test_node_count c (node p o n f) w =
      form_count (inside_test c f w) Read f (with_site (inside_test c f w) Read p n f (with_test p f w)) ∙ (site_count (inside_test c f w) Read p n f (with_test p f w) ∙ test_count p f w)

  pub arm_count : (c : Around) (a : NodeShape) (w : Walked) → (walk_arm c a w).variables ≡ w.variables
  arm_count c (node p o n f) w = form_count c Read f (with_site c Read p n f (with_block p w)) ∙ site_count c Read p n f (with_block p w)

  nodes_count : (c : Around) (es : NodeShapes) (w : Walked) → (walk_nodes c es w).variables ≡ w.variables
  nodes_count c no_nodes w = refl
  nodes_count c (more_nodes a rest) w = nodes_count c rest (walk_node c Read a w) ∙ node_count c Read a w

pub maybe_count : (c : Around) (e : MaybeNode) (w : Walked) → (walk_maybe c e w).variables ≡ w.variables
maybe_count c no_node w = refl
maybe_count c (one_node a) w = node_count c Read a w

pub maybe_test_count : (c : Around) (e : MaybeNode) (w : Walked) → (walk_maybe_test c e w).variables ≡ w.variables
maybe_test_count c no_node w = refl
maybe_test_count c (one_node a) w = test_node_count c a (with_block (pos_of a) w)

pub step_count : (c : Around) (e : MaybeNode) (w : Walked) → (walk_step c e w).variables ≡ w.variables
step_count c no_node w = refl
step_count c (one_node a) w = arm_count c a w

pub choice_count : (c : Around) (e : NodeShape) (items : ItemShapes) (w : Walked) → (walk_choice c e items w).variables ≡ w.variables
choice_count c e items w = node_count (inside c w) Read e (with_decision (pos_of e) (cases (case_values (choosing e) items)) w)

-- ---- declarations

init_count : (t : TablesShape) (c : Around) (x : Option Named) (i : MaybeInit) (w : Walked) → (walk_maybe_init t c x i w).variables ≡ w.variables
init_count t c x no_init w = refl
init_count t c x (one_init (one a)) w = node_count c Read a (with_whole_def t c.function x w)
init_count t c x (one_init (listed p items last)) w = refl

pub declarator_count : (t : TablesShape) (c : Around) (d : DeclaratorShape) (w : Walked) → (walk_declarator t c d w).variables ≡ w.variables + variables_of d
declarator_count t c (declarator stars x (arrays ls) i) w = init_count t c x i (with_variable w)
declarator_count t c (declarator stars x (function ps) i) w = omega arith

declarators_count : (t : TablesShape) (c : Around) (ds : DeclaratorShapes) (w : Walked) → (walk_declarators t c ds w).variables ≡ w.variables + variables_among ds
declarators_count t c no_declarators w = omega arith
declarators_count t c (more_declarators d rest) w = omega (arith, declarators_count t c rest (walk_declarator t c d w), declarator_count t c d w)

pub decl_count : (t : TablesShape) (c : Around) (d : DeclShape) (w : Walked) → (walk_decl t c d w).variables ≡ w.variables + decl_variables d
decl_count t c (decl p specs names) w = declarators_count t c names w

pub decls_count : (t : TablesShape) (c : Around) (ds : DeclShapes) (w : Walked) → (walk_decls t c ds w).variables ≡ w.variables + decls_variables ds
decls_count t c no_decls w = omega arith
decls_count t c (more_decls d rest) w = omega (arith, decls_count t c rest (walk_decl t c d w), decl_count t c d w)

-- ---- statements

mutual
  pub stmt_count : (t : TablesShape) (c : Around) (a : StmtShape) (w : Walked) → (walk_stmt t c a w).variables ≡ w.variables + stmt_variables a
  stmt_count t c (stmt p ms q f) w = body_count t c f w

  body_count : (t : TablesShape) (c : Around) (f : FormShape) (w : Walked) → (walk_body t c f w).variables ≡ w.variables + form_variables f
  body_count t c (compound b) w = compound_count t c b w
  body_count t c (simply e) w = omega (arith, maybe_count c e w)
  body_count t c (when e a) w = omega (arith, part_count t c a (walk_test c e w), test_node_count c e w)
  body_count t c (either e a b) w = omega (arith, part_count t c b (walk_part t c a (walk_test c e w)), part_count t c a (walk_test c e w), test_node_count c e w)
  body_count t c (while e a) w = omega (arith, part_count t c a (walk_loop_test c e w), maybe_test_count c (one_node e) w)
  body_count t c (do_while a e) w = omega (arith, maybe_test_count c (one_node e) (walk_part t c a w), part_count t c a w)
  body_count t c (for e f g a) w =
      omega (arith, part_count t c a (walk_step c g (walk_maybe_test c f (walk_maybe c e w))), step_count c g (walk_maybe_test c f (walk_maybe c e w)), maybe_test_count c f (walk_maybe c e w), maybe_count c e w)
  body_count t c (switch e items) w = omega (arith, items_count t c false items (walk_choice c e items w), choice_count c e items w)
  body_count t c break w = omega arith
  body_count t c continue w = omega arith
  body_count t c (return e) w = omega (arith, maybe_count c e w)

  part_count : (t : TablesShape) (c : Around) (a : StmtShape) (w : Walked) → (walk_part t c a w).variables ≡ w.variables + stmt_variables a
  part_count t c (stmt p ms q f) w = body_count t c f (with_block p w)

  pub compound_count : (t : TablesShape) (c : Around) (b : CompoundShape) (w : Walked) → (walk_compound t c b w).variables ≡ w.variables + compound_variables b
  compound_count t c (braces p ds items) w = omega (arith, items_count t c false items (walk_decls t c ds w), decls_count t c ds w)

  items_count : (t : TablesShape) (c : Around) (after : Bool) (items : ItemShapes) (w : Walked) → (walk_items t c after items w).variables ≡ w.variables + items_variables items
  items_count t c after no_items w = omega arith
  items_count t c after (more_items labels a rest) w =
      let b = after || is_labelled labels in
      omega (arith, items_count t c (splits a) rest (walk_stmt t c a (with_block_if b (pos_of_stmt a) w)), stmt_count t c a (with_block_if b (pos_of_stmt a) w), block_count b (pos_of_stmt a) w)

-- ---- file scope and functions

pub defined_count : (t : TablesShape) (f : ℕ) (d : DeclaratorShape) (w : Walked) → (define_declarator t f d w).variables ≡ w.variables + variables_of d
defined_count t f (declarator stars x (arrays ls) i) w = refl
defined_count t f (declarator stars x (function ps) i) w = omega arith

all_defined_count : (t : TablesShape) (f : ℕ) (ds : DeclaratorShapes) (w : Walked) → (define_declarators t f ds w).variables ≡ w.variables + variables_among ds
all_defined_count t f no_declarators w = omega arith
all_defined_count t f (more_declarators d rest) w = omega (arith, all_defined_count t f rest (define_declarator t f d w), defined_count t f d w)

pub param_count : (t : TablesShape) (f : ℕ) (d : DeclShape) (w : Walked) → (define_decl t f d w).variables ≡ w.variables + decl_variables d
param_count t f (decl p specs names) w = all_defined_count t f names w

given_count : (t : TablesShape) (f : ℕ) (ds : DeclShapes) (w : Walked) → (define_decls t f ds w).variables ≡ w.variables + decls_variables ds
given_count t f no_decls w = omega arith
given_count t f (more_decls d rest) w = omega (arith, given_count t f rest (define_decl t f d w), param_count t f d w)

pub params_count : (t : TablesShape) (f : ℕ) (ps : ParamsShape) (w : Walked) → (define_params t f ps w).variables ≡ w.variables + params_variables ps
params_count t f (params ds) w = given_count t f ds w
params_count t f empty w = omega arith
params_count t f void w = omega arith

signature_count : (t : TablesShape) (f : ℕ) (d : DeclFormShape) (w : Walked) → (define_parameters t f d w).variables ≡ w.variables + signature_variables d
signature_count t f (function ps) w = params_count t f ps w
signature_count t f (arrays ls) w = omega arith

function_count : (t : TablesShape) (f : ℕ) (d : DeclFormShape) (b : CompoundShape) (w : Walked) → (walk_function t f d b w).variables ≡ w.variables + (signature_variables d + compound_variables b)
function_count t f d (braces p ds items) w =
    omega (arith, compound_count t (in_function f) (braces p ds items) (with_block p (define_parameters t f d w)), signature_count t f d w)

pub external_count : (t : TablesShape) (e : ExternalShape) (w : Walked) → (walk_external t e w).variables ≡ w.variables + external_variables e
external_count t (declared d) w = param_count t 0 d w
external_count t (defined specs (declarator stars x d i) ms b) w = function_count t (function_of t (text_of x)) d b w
