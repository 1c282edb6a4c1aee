-- What the walk over a program has counted stands in front of what it counts further on.
use Rattle.std.proofs.Common.{ℕ, ◌+◌, ◌≤◌, ◌++◌, ◌≡◌, List, [], ◌∷◌, refl, sym, ap, ◌∙◌, append-nil, append_assoc, Option, Bool, true, false, arith}
use Rattle.std.specs.Prelude.{◌||◌, if◌then◌else◌}
use Rattle.c_base.specs.declared.place.Pos.{Pos}
use Rattle.c_syntax.specs.declared.tree.Named.{Named}
use Rattle.c_syntax.specs.Shape.{NoteShape, unary, before, size_of, plain, and, or, assign, comma, NodeShape, node, ExprShape, leaf, paren, call, prefix, size_of_type, cast, suffix, two, choose, probe, index, field, behind, NodeShapes, no_nodes, more_nodes, MaybeNode, no_node, one_node, DeclShape, decl, DeclShapes, no_decls, more_decls, DeclaratorShape, declarator, DeclaratorShapes, no_declarators, more_declarators, DeclFormShape, arrays, function, ParamsShape, empty, void, params, MaybeInit, no_init, one_init, one, listed, StmtShape, stmt, FormShape, compound, simply, when, either, while, do_while, for, switch, break, continue, return, CompoundShape, braces, ItemShapes, no_items, more_items, ExternalShape, defined, declared}
use Rattle.c_tables.specs.Tables.{TablesShape}
use Rattle.c_walk.specs.declared.around.Around.{Around}
use Rattle.c_walk.specs.declared.around.Taken.{Taken}
use Rattle.c_walk.specs.declared.around.Taken.TheVariants.{Read, Changed}
use Rattle.c_tables.specs.Rows.{first_place, name_pos, text_of}
use Rattle.c_walk.specs.Items.{Direct, Item, Outcomes, block, decision, def, used, cases}
use Rattle.c_walk.specs.Places.{is_place, direct_form}
use Rattle.c_walk.specs.Tests.{is_logical_form, outcomes_of_form, choosing, case_values}
use Rattle.c_walk.specs.Walked.{Walked, with_item, is_used, is_written, operand_taken, left_taken, right_taken, with_block, with_block_if, pos_of, inside, inside_test, with_decision, with_test, with_def, with_use, with_sites, with_site}
use Rattle.c_walk.specs.Walking.{walk_node, walk_form, walk_test, walk_arm, walk_nodes, walk_maybe, walk_loop_test, walk_maybe_test, walk_step}
use Rattle.c_walk.specs.Stating.{whole, with_variable, with_whole_def, walk_maybe_init, walk_declarator, walk_declarators, walk_decl, walk_decls, pos_of_stmt, splits, is_labelled, walk_choice, walk_stmt, walk_body, walk_part, walk_compound, walk_items}
use Rattle.c_walk.specs.Units.{define_declarator, define_declarators, define_decl, define_decls, define_params, define_parameters, function_of, in_function, walk_function, walk_external, walk_externals}
use Rattle.c_walk.specs.Counted.{def_count}

-- ---- in general

-- the items of the second are those of the first, and then these
pub record More (v w : Walked) : Type 0 where
  pub rest : List Item
  pub is : w.items ≡ v.items ++ rest

pub on_same : (w : Walked) → More w w
on_same w = record { rest = []; is = sym (append-nil w.items) }

pub on_further : (u v w : Walked) → More u v → More v w → More u w
on_further u v w p q = record { rest = p.rest ++ q.rest; is = q.is ∙ ap (λ l. l ++ q.rest) p.is ∙ append_assoc u.items p.rest q.rest }

pub if_on : (w : Walked) (b : Bool) (u v : Walked) → More w u → More w v → More w (if b then u else v)
if_on w true u v p q = p
if_on w false u v p q = q

pub item_on : (i : Item) (w : Walked) → More w (with_item i w)
item_on i w = record { rest = i ∷ []; is = refl }

pub decision_on : (p : Pos) (o : Outcomes) (w : Walked) → More w (with_decision p o w)
decision_on p o w = record { rest = decision p o ∷ []; is = refl }

pub variable_on : (w : Walked) → More w (with_variable w)
variable_on w = record { rest = []; is = sym (append-nil w.items) }

-- ---- how many there are

pub defs_both : (xs ys : List Item) → def_count (xs ++ ys) ≡ def_count xs + def_count ys
defs_both [] ys = omega arith
defs_both (block p ∷ xs) ys = defs_both xs ys
defs_both (decision p o ∷ xs) ys = defs_both xs ys
defs_both (used p f d k ∷ xs) ys = defs_both xs ys
defs_both (def p f d ∷ xs) ys = let e = defs_both xs ys in omega (arith, e)

pub more_defs : (v w : Walked) → More v w → def_count v.items ≤ def_count w.items
more_defs v w m = let e = ap def_count m.is in let f = defs_both v.items m.rest in omega (arith, e, f)

-- ---- expressions

pub def_on : (b : Bool) (c : Around) (p : Pos) (d : Option Direct) (w : Walked) → More w (with_def b c p d w)
def_on true c p d w = item_on (def p c.function d) w
def_on false c p d w = on_same w

pub use_on : (b : Bool) (c : Around) (p : Pos) (d : Option Direct) (w : Walked) → More w (with_use b c p d w)
use_on true c p d w = item_on (used p c.function d c.owner) w
use_on false c p d w = on_same w

pub sites_on : (c : Around) (r : Taken) (p : Pos) (d : Option Direct) (value : Bool) (w : Walked) → More w (with_sites c r p d value w)
sites_on c r p d value w =
    let v = with_def (is_written r) c p d w in
    on_further w v (with_use value c p d v) (def_on (is_written r) c p d w) (use_on value c p d v)

pub site_on : (c : Around) (r : Taken) (p : Pos) (n : NoteShape) (f : ExprShape) (w : Walked) → More w (with_site c r p n f w)
site_on c r p n f w = if_on w (is_place f) (with_sites c r p (direct_form n f) (is_used r n) w) w (sites_on c r p (direct_form n f) (is_used r n) w) (on_same w)

pub test_on : (p : Pos) (f : ExprShape) (w : Walked) → More w (with_test p f w)
test_on p f w = if_on w (is_logical_form f) w (with_decision p (outcomes_of_form f) w) (on_same w) (decision_on p (outcomes_of_form f) w)

pub block_on : (p : Pos) (w : Walked) → More w (with_block p w)
block_on p w = item_on (block p) w

pub block_if_on : (b : Bool) (p : Pos) (w : Walked) → More w (with_block_if b p w)
block_if_on true p w = block_on p w
block_if_on false p w = on_same w

mutual
  pub node_on : (c : Around) (r : Taken) (a : NodeShape) (w : Walked) → More w (walk_node c r a w)
  node_on c r (node p o n f) w =
      let v = with_site c r p n f w in
      on_further w v (walk_form c r f v) (site_on c r p n f w) (form_on c r f v)

  pub form_on : (c : Around) (r : Taken) (f : ExprShape) (w : Walked) → More w (walk_form c r f w)
  form_on c r (leaf l) w = on_same w
  form_on c r (paren a) w = node_on c r a w
  form_on c r (call x args) w = nodes_on c args w
  form_on c r (prefix (unary u) a) w = node_on c (operand_taken u) a w
  form_on c r (prefix (before u) a) w = node_on c Changed a w
  form_on c r (prefix size_of a) w = on_same w
  form_on c r (size_of_type y) w = on_same w
  form_on c r (cast y a) w = node_on c Read a w
  form_on c r (suffix a (index b)) w = let v = walk_node c Read a w in on_further w v (walk_node c Read b v) (node_on c Read a w) (node_on c Read b v)
  form_on c r (suffix a (field h x q)) w = node_on c Read a w
  form_on c r (suffix a (behind u)) w = node_on c Changed a w
  form_on c r (two and a b) w =
      let u = walk_test c a w in
      let v = with_block (pos_of b) u in
      on_further w u (walk_test c b v) (test_node_on c a w) (on_further u v (walk_test c b v) (block_on (pos_of b) u) (test_node_on c b v))
  form_on c r (two or a b) w =
      let u = walk_test c a w in
      let v = with_block (pos_of b) u in
      on_further w u (walk_test c b v) (test_node_on c a w) (on_further u v (walk_test c b v) (block_on (pos_of b) u) (test_node_on c b v))
  form_on c r (two (assign u) a b) w = let v = walk_node c (left_taken u) a w in on_further w v (walk_node c (right_taken u a) b v) (node_on c (left_taken u) a w) (node_on c (right_taken u a) b v)
  form_on c r (two (plain u) a b) w = let v = walk_node c Read a w in on_further w v (walk_node c Read b v) (node_on c Read a w) (node_on c Read b v)
  form_on c r (two comma a b) w = let v = walk_node c Read a w in on_further w v (walk_node c Read b v) (node_on c Read a w) (node_on c Read b v)
  form_on c r (choose a b d) w =
      let u = walk_test c a w in
      let v = walk_arm c b u in
      on_further w u (walk_arm c d v) (test_node_on c a w) (on_further u v (walk_arm c d v) (arm_on c b u) (arm_on c d v))
  form_on c r (probe u a) w = node_on c r a w

  pub test_node_on : (c : Around) (a : NodeShape) (w : Walked) → More w (walk_test c a w)
  test_node_on c (node p o n f) w =
      let k = inside_test c f w in
      let u = with_test p f w in
      let v = with_site k Read p n f u in
      on_further w u (walk_form k Read f v) (test_on p f w) (on_further u v (walk_form k Read f v) (site_on k Read p n f u) (form_on k Read f v))

  pub arm_on : (c : Around) (a : NodeShape) (w : Walked) → More w (walk_arm c a w)
  arm_on c (node p o n f) w =
      let u = with_block p w in
      let v = with_site c Read p n f u in
      on_further w u (walk_form c Read f v) (block_on p w) (on_further u v (walk_form c Read f v) (site_on c Read p n f u) (form_on c Read f v))

  pub nodes_on : (c : Around) (es : NodeShapes) (w : Walked) → More w (walk_nodes c es w)
  nodes_on c no_nodes w = on_same w
  nodes_on c (more_nodes a rest) w = let v = walk_node c Read a w in on_further w v (walk_nodes c rest v) (node_on c Read a w) (nodes_on c rest v)

pub maybe_on : (c : Around) (e : MaybeNode) (w : Walked) → More w (walk_maybe c e w)
maybe_on c no_node w = on_same w
maybe_on c (one_node a) w = node_on c Read a w

pub loop_test_on : (c : Around) (e : NodeShape) (w : Walked) → More w (walk_loop_test c e w)
loop_test_on c a w = let v = with_block (pos_of a) w in on_further w v (walk_test c a v) (block_on (pos_of a) w) (test_node_on c a v)

pub maybe_test_on : (c : Around) (e : MaybeNode) (w : Walked) → More w (walk_maybe_test c e w)
maybe_test_on c no_node w = on_same w
maybe_test_on c (one_node a) w = loop_test_on c a w

pub step_on : (c : Around) (e : MaybeNode) (w : Walked) → More w (walk_step c e w)
step_on c no_node w = on_same w
step_on c (one_node a) w = arm_on c a w

pub choice_on : (c : Around) (e : NodeShape) (items : ItemShapes) (w : Walked) → More w (walk_choice c e items w)
choice_on c e items w =
    let v = with_decision (pos_of e) (cases (case_values (choosing e) items)) w in
    on_further w v (walk_node (inside c w) Read e v) (decision_on (pos_of e) (cases (case_values (choosing e) items)) w) (node_on (inside c w) Read e v)

-- ---- declarations

pub whole_on : (t : TablesShape) (f : ℕ) (x : Option Named) (w : Walked) → More w (with_whole_def t f x w)
whole_on t f x w = item_on (def (name_pos first_place x) f (whole t w.variables)) w

pub init_on : (t : TablesShape) (c : Around) (x : Option Named) (i : MaybeInit) (w : Walked) → More w (walk_maybe_init t c x i w)
init_on t c x no_init w = on_same w
init_on t c x (one_init (one a)) w = let v = with_whole_def t c.function x w in on_further w v (walk_node c Read a v) (whole_on t c.function x w) (node_on c Read a v)
init_on t c x (one_init (listed p items last)) w = whole_on t c.function x w

pub declarator_on : (t : TablesShape) (c : Around) (d : DeclaratorShape) (w : Walked) → More w (walk_declarator t c d w)
declarator_on t c (declarator stars x (arrays ls) i) w = on_further w (with_variable w) (walk_maybe_init t c x i (with_variable w)) (variable_on w) (init_on t c x i (with_variable w))
declarator_on t c (declarator stars x (function ps) i) w = on_same w

pub declarators_on : (t : TablesShape) (c : Around) (ds : DeclaratorShapes) (w : Walked) → More w (walk_declarators t c ds w)
declarators_on t c no_declarators w = on_same w
declarators_on t c (more_declarators d rest) w = let v = walk_declarator t c d w in on_further w v (walk_declarators t c rest v) (declarator_on t c d w) (declarators_on t c rest v)

pub decl_on : (t : TablesShape) (c : Around) (d : DeclShape) (w : Walked) → More w (walk_decl t c d w)
decl_on t c (decl p specs names) w = declarators_on t c names w

pub decls_on : (t : TablesShape) (c : Around) (ds : DeclShapes) (w : Walked) → More w (walk_decls t c ds w)
decls_on t c no_decls w = on_same w
decls_on t c (more_decls d rest) w = let v = walk_decl t c d w in on_further w v (walk_decls t c rest v) (decl_on t c d w) (decls_on t c rest v)

-- ---- statements

mutual
  pub stmt_on : (t : TablesShape) (c : Around) (a : StmtShape) (w : Walked) → More w (walk_stmt t c a w)
  stmt_on t c (stmt p ms q f) w = body_on t c f w

  pub body_on : (t : TablesShape) (c : Around) (f : FormShape) (w : Walked) → More w (walk_body t c f w)
  body_on t c (compound b) w = compound_on t c b w
  body_on t c (simply e) w = maybe_on c e w
  body_on t c (when e a) w = let v = walk_test c e w in on_further w v (walk_part t c a v) (test_node_on c e w) (part_on t c a v)
  body_on t c (either e a b) w =
      let u = walk_test c e w in
      let v = walk_part t c a u in
      on_further w u (walk_part t c b v) (test_node_on c e w) (on_further u v (walk_part t c b v) (part_on t c a u) (part_on t c b v))
  body_on t c (while e a) w = let v = walk_loop_test c e w in on_further w v (walk_part t c a v) (loop_test_on c e w) (part_on t c a v)
  body_on t c (do_while a e) w = let v = walk_part t c a w in on_further w v (walk_loop_test c e v) (part_on t c a w) (loop_test_on c e v)
  body_on t c (for e f g a) w =
      let s = walk_maybe c e w in
      let u = walk_maybe_test c f s in
      let v = walk_step c g u in
      on_further w s (walk_part t c a v) (maybe_on c e w) (on_further s u (walk_part t c a v) (maybe_test_on c f s) (on_further u v (walk_part t c a v) (step_on c g u) (part_on t c a v)))
  body_on t c (switch e items) w = let v = walk_choice c e items w in on_further w v (walk_items t c false items v) (choice_on c e items w) (items_on t c false items v)
  body_on t c break w = on_same w
  body_on t c continue w = on_same w
  body_on t c (return e) w = maybe_on c e w

  pub part_on : (t : TablesShape) (c : Around) (a : StmtShape) (w : Walked) → More w (walk_part t c a w)
  part_on t c (stmt p ms q f) w = let v = with_block p w in on_further w v (walk_body t c f v) (block_on p w) (body_on t c f v)

  pub compound_on : (t : TablesShape) (c : Around) (b : CompoundShape) (w : Walked) → More w (walk_compound t c b w)
  compound_on t c (braces p ds items) w = let v = walk_decls t c ds w in on_further w v (walk_items t c false items v) (decls_on t c ds w) (items_on t c false items v)

  pub items_on : (t : TablesShape) (c : Around) (after : Bool) (items : ItemShapes) (w : Walked) → More w (walk_items t c after items w)
  items_on t c after no_items w = on_same w
  items_on t c after (more_items labels a rest) w =
      let u = with_block_if (after || is_labelled labels) (pos_of_stmt a) w in
      let v = walk_stmt t c a u in
      on_further w u (walk_items t c (splits a) rest v) (block_if_on (after || is_labelled labels) (pos_of_stmt a) w)
      (on_further u v (walk_items t c (splits a) rest v) (stmt_on t c a u) (items_on t c (splits a) rest v))

-- ---- file scope and functions

pub defined_on : (t : TablesShape) (f : ℕ) (d : DeclaratorShape) (w : Walked) → More w (define_declarator t f d w)
defined_on t f (declarator stars x (arrays ls) i) w = on_further w (with_variable w) (with_whole_def t f x (with_variable w)) (variable_on w) (whole_on t f x (with_variable w))
defined_on t f (declarator stars x (function ps) i) w = on_same w

pub all_defined_on : (t : TablesShape) (f : ℕ) (ds : DeclaratorShapes) (w : Walked) → More w (define_declarators t f ds w)
all_defined_on t f no_declarators w = on_same w
all_defined_on t f (more_declarators d rest) w = let v = define_declarator t f d w in on_further w v (define_declarators t f rest v) (defined_on t f d w) (all_defined_on t f rest v)

pub param_on : (t : TablesShape) (f : ℕ) (d : DeclShape) (w : Walked) → More w (define_decl t f d w)
param_on t f (decl p specs names) w = all_defined_on t f names w

pub given_on : (t : TablesShape) (f : ℕ) (ds : DeclShapes) (w : Walked) → More w (define_decls t f ds w)
given_on t f no_decls w = on_same w
given_on t f (more_decls d rest) w = let v = define_decl t f d w in on_further w v (define_decls t f rest v) (param_on t f d w) (given_on t f rest v)

pub params_on : (t : TablesShape) (f : ℕ) (ps : ParamsShape) (w : Walked) → More w (define_params t f ps w)
params_on t f (params ds) w = given_on t f ds w
params_on t f empty w = on_same w
params_on t f void w = on_same w

pub signature_on : (t : TablesShape) (f : ℕ) (d : DeclFormShape) (w : Walked) → More w (define_parameters t f d w)
signature_on t f (function ps) w = params_on t f ps w
signature_on t f (arrays ls) w = on_same w

pub function_on : (t : TablesShape) (f : ℕ) (d : DeclFormShape) (b : CompoundShape) (w : Walked) → More w (walk_function t f d b w)
function_on t f d (braces p ds items) w =
    let u = define_parameters t f d w in
    let v = with_block p u in
    on_further w u (walk_compound t (in_function f) (braces p ds items) v) (signature_on t f d w)
    (on_further u v (walk_compound t (in_function f) (braces p ds items) v) (block_on p u) (compound_on t (in_function f) (braces p ds items) v))

pub external_on : (t : TablesShape) (e : ExternalShape) (w : Walked) → More w (walk_external t e w)
external_on t (declared d) w = param_on t 0 d w
external_on t (defined specs (declarator stars x d i) ms b) w = function_on t (function_of t (text_of x)) d b w

pub externals_on : (t : TablesShape) (es : List ExternalShape) (w : Walked) → More w (walk_externals t es w)
externals_on t [] w = on_same w
externals_on t (e ∷ rest) w = let v = walk_external t e w in on_further w v (walk_externals t rest v) (external_on t e w) (externals_on t rest v)
