-- The items of a program are sound: of expressions, declarations, statements and units in turn.
use Rattle.std.proofs.Common.{ℕ, ◌||◌, List, [], ◌∷◌, Bool, true, false, Option, refl, sym, subst, arith}
use Rattle.std.specs.List.{AllByRecursion}
use Rattle.c_syntax.specs.declared.tree.Named.{Named}
use Rattle.c_syntax.specs.Shape.{unary, before, size_of, plain, and, or, assign, comma, NodeShape, node, ExprShape, leaf, paren, call, prefix, size_of_type, cast, suffix, two, choose, probe, index, field, behind, NodeShapes, no_nodes, more_nodes, MaybeNode, no_node, one_node, DeclShape, decl, DeclShapes, no_decls, more_decls, DeclaratorShape, declarator, DeclaratorShapes, no_declarators, more_declarators, DeclFormShape, arrays, function, empty, void, params, MaybeInit, no_init, one_init, InitShape, one, listed, StmtShape, stmt, FormShape, compound, simply, when, either, while, do_while, for, switch, break, continue, return, CompoundShape, braces, ItemShapes, no_items, more_items, ExternalShape, defined, declared, UnitShape}
use Rattle.c_tables.specs.Tables.{TablesShape}
use Rattle.c_tables.specs.Rows.{first_place, name_pos, text_of}
use Rattle.c_walk.specs.Items.{cases}
use Rattle.c_walk.specs.declared.around.Around.{Around}
use Rattle.c_walk.specs.declared.around.Taken.{Taken}
use Rattle.c_walk.specs.declared.around.Taken.TheVariants.{Read, Changed}
use Rattle.c_walk.specs.Sound.{IsOwner, IsSound, AreSound}
use Rattle.c_walk.specs.Tests.{choosing, case_values}
use Rattle.c_walk.specs.Walked.{Walked, operand_taken, left_taken, right_taken, with_block, with_block_if, with_decision, with_test, inside, inside_test, with_site, pos_of}
use Rattle.c_walk.specs.Walking.{walk_node, walk_form, walk_test, walk_arm, walk_nodes, walk_maybe, walk_loop_test, walk_maybe_test, walk_step}
use Rattle.c_walk.specs.Stating.{whole, with_variable, with_whole_def, walk_init, walk_maybe_init, walk_declarator, walk_declarators, walk_decl, walk_decls, pos_of_stmt, splits, is_labelled, walk_choice, walk_stmt, walk_body, walk_part, walk_compound, walk_items}
use Rattle.c_walk.specs.Units.{define_declarator, define_declarators, define_decl, define_decls, define_parameters, function_of, in_function, walk_function, walk_external, walk_externals, no_items as nothing, items_of}
use Rattle.c_walk.proofs.Kept.{Sound, Goes, goes_nowhere, goes_on, owner_on, goes_block, goes_block_if, goes_decision, goes_def, goes_site, goes_test, owner_inside, owner_test}

-- one part behind another, in the same surroundings
onward : (c : Around) (s t u : Walked) → IsOwner s.decisions c.owner → Goes s t → (Sound t → IsOwner t.decisions c.owner → Goes t u) → Goes s u
onward c s t u o a b = goes_on s t u a (b a.sound (owner_on s.decisions t.decisions c.owner a.more o))

-- ---- expressions

mutual
  node_goes : (c : Around) (r : Taken) (a : NodeShape) (s : Walked) → Sound s → IsOwner s.decisions c.owner → Goes s (walk_node c r a s)
  node_goes c r (node p q n f) s h o = onward c s (with_site c r p n f s) (walk_node c r (node p q n f) s) o (goes_site c r p n f s h o) (form_goes c r f (with_site c r p n f s))

  form_goes : (c : Around) (r : Taken) (f : ExprShape) (s : Walked) → Sound s → IsOwner s.decisions c.owner → Goes s (walk_form c r f s)
  form_goes c r (leaf l) s h o = goes_nowhere s h
  form_goes c r (paren a) s h o = node_goes c r a s h o
  form_goes c r (call x args) s h o = nodes_goes c args s h o
  form_goes c r (prefix (unary u) a) s h o = node_goes c (operand_taken u) a s h o
  form_goes c r (prefix (before u) a) s h o = node_goes c Changed a s h o
  form_goes c r (prefix size_of a) s h o = goes_nowhere s h
  form_goes c r (size_of_type t) s h o = goes_nowhere s h
  form_goes c r (cast t a) s h o = node_goes c Read a s h o
  form_goes c r (suffix a (index b)) s h o = let t = walk_node c Read a s in onward c s t (walk_node c Read b t) o (node_goes c Read a s h o) (node_goes c Read b t)
  form_goes c r (suffix a (field g x q)) s h o = node_goes c Read a s h o
  form_goes c r (suffix a (behind u)) s h o = node_goes c Changed a s h o
  form_goes c r (two and a b) s h o =
      let t = walk_test c a s in
      let u = with_block (pos_of b) t in
      onward c s t (walk_test c b u) o (test_goes c a s h o) (λ k w. onward c t u (walk_test c b u) w (goes_block (pos_of b) t k) (test_goes c b u))
  form_goes c r (two or a b) s h o =
      let t = walk_test c a s in
      let u = with_block (pos_of b) t in
      onward c s t (walk_test c b u) o (test_goes c a s h o) (λ k w. onward c t u (walk_test c b u) w (goes_block (pos_of b) t k) (test_goes c b u))
  form_goes c r (two (assign u) a b) s h o = let t = walk_node c (left_taken u) a s in onward c s t (walk_node c (right_taken u a) b t) o (node_goes c (left_taken u) a s h o) (node_goes c (right_taken u a) b t)
  form_goes c r (two (plain u) a b) s h o = let t = walk_node c Read a s in onward c s t (walk_node c Read b t) o (node_goes c Read a s h o) (node_goes c Read b t)
  form_goes c r (two comma a b) s h o = let t = walk_node c Read a s in onward c s t (walk_node c Read b t) o (node_goes c Read a s h o) (node_goes c Read b t)
  form_goes c r (choose a b d) s h o =
      let t = walk_test c a s in
      let u = walk_arm c b t in
      onward c s t (walk_arm c d u) o (test_goes c a s h o) (λ k w. onward c t u (walk_arm c d u) w (arm_goes c b t k w) (arm_goes c d u))
  form_goes c r (probe u a) s h o = node_goes c r a s h o

  test_goes : (c : Around) (a : NodeShape) (s : Walked) → Sound s → IsOwner s.decisions c.owner → Goes s (walk_test c a s)
  test_goes c (node p q n f) s h o =
      let d = inside_test c f s in
      let t = with_test p f s in
      let u = with_site d Read p n f t in
      let first = goes_test p f s h in
      goes_on s t (walk_form d Read f u) first (onward d t u (walk_form d Read f u) (owner_test c p f s o) (goes_site d Read p n f t first.sound (owner_test c p f s o)) (form_goes d Read f u))

  arm_goes : (c : Around) (a : NodeShape) (s : Walked) → Sound s → IsOwner s.decisions c.owner → Goes s (walk_arm c a s)
  arm_goes c (node p q n f) s h o =
      let t = with_block p s in
      let u = with_site c Read p n f t in
      onward c s t (walk_form c Read f u) o (goes_block p s h) (λ k w. onward c t u (walk_form c Read f u) w (goes_site c Read p n f t k w) (form_goes c Read f u))

  nodes_goes : (c : Around) (l : NodeShapes) (s : Walked) → Sound s → IsOwner s.decisions c.owner → Goes s (walk_nodes c l s)
  nodes_goes c no_nodes s h o = goes_nowhere s h
  nodes_goes c (more_nodes a rest) s h o = let t = walk_node c Read a s in onward c s t (walk_nodes c rest t) o (node_goes c Read a s h o) (nodes_goes c rest t)

maybe_goes : (c : Around) (e : MaybeNode) (s : Walked) → Sound s → IsOwner s.decisions c.owner → Goes s (walk_maybe c e s)
maybe_goes c no_node s h o = goes_nowhere s h
maybe_goes c (one_node a) s h o = node_goes c Read a s h o

loop_test_goes : (c : Around) (a : NodeShape) (s : Walked) → Sound s → IsOwner s.decisions c.owner → Goes s (walk_loop_test c a s)
loop_test_goes c a s h o = let t = with_block (pos_of a) s in onward c s t (walk_test c a t) o (goes_block (pos_of a) s h) (test_goes c a t)

maybe_test_goes : (c : Around) (e : MaybeNode) (s : Walked) → Sound s → IsOwner s.decisions c.owner → Goes s (walk_maybe_test c e s)
maybe_test_goes c no_node s h o = goes_nowhere s h
maybe_test_goes c (one_node a) s h o = loop_test_goes c a s h o

step_goes : (c : Around) (e : MaybeNode) (s : Walked) → Sound s → IsOwner s.decisions c.owner → Goes s (walk_step c e s)
step_goes c no_node s h o = goes_nowhere s h
step_goes c (one_node a) s h o = arm_goes c a s h o

-- ---- declarations

goes_variable : (s : Walked) → Sound s → Goes s (with_variable s)
goes_variable s h = record { sound = record { count = h.count; all = h.all }; more = omega arith }

goes_whole : (t : TablesShape) (f : ℕ) (x : Option Named) (s : Walked) → Sound s → Goes s (with_whole_def t f x s)
goes_whole t f x s h = goes_def true (in_function f) (name_pos first_place x) (whole t s.variables) s h

init_goes : (c : Around) (i : InitShape) (s : Walked) → Sound s → IsOwner s.decisions c.owner → Goes s (walk_init c i s)
init_goes c (one a) s h o = node_goes c Read a s h o
init_goes c (listed p items last) s h o = goes_nowhere s h

maybe_init_goes : (t : TablesShape) (c : Around) (x : Option Named) (i : MaybeInit) (s : Walked) → Sound s → IsOwner s.decisions c.owner → Goes s (walk_maybe_init t c x i s)
maybe_init_goes t c x no_init s h o = goes_nowhere s h
maybe_init_goes t c x (one_init i) s h o = let u = with_whole_def t c.function x s in onward c s u (walk_init c i u) o (goes_whole t c.function x s h) (init_goes c i u)

declarator_goes : (t : TablesShape) (c : Around) (d : DeclaratorShape) (s : Walked) → Sound s → IsOwner s.decisions c.owner → Goes s (walk_declarator t c d s)
declarator_goes t c (declarator stars x (arrays ls) i) s h o = onward c s (with_variable s) (walk_maybe_init t c x i (with_variable s)) o (goes_variable s h) (maybe_init_goes t c x i (with_variable s))
declarator_goes t c (declarator stars x (function ps) i) s h o = goes_nowhere s h

declarators_goes : (t : TablesShape) (c : Around) (ds : DeclaratorShapes) (s : Walked) → Sound s → IsOwner s.decisions c.owner → Goes s (walk_declarators t c ds s)
declarators_goes t c no_declarators s h o = goes_nowhere s h
declarators_goes t c (more_declarators d rest) s h o = let u = walk_declarator t c d s in onward c s u (walk_declarators t c rest u) o (declarator_goes t c d s h o) (declarators_goes t c rest u)

decl_goes : (t : TablesShape) (c : Around) (d : DeclShape) (s : Walked) → Sound s → IsOwner s.decisions c.owner → Goes s (walk_decl t c d s)
decl_goes t c (decl p specs names) s h o = declarators_goes t c names s h o

decls_goes : (t : TablesShape) (c : Around) (ds : DeclShapes) (s : Walked) → Sound s → IsOwner s.decisions c.owner → Goes s (walk_decls t c ds s)
decls_goes t c no_decls s h o = goes_nowhere s h
decls_goes t c (more_decls d rest) s h o = let u = walk_decl t c d s in onward c s u (walk_decls t c rest u) o (decl_goes t c d s h o) (decls_goes t c rest u)

-- ---- statements

choice_goes : (c : Around) (e : NodeShape) (items : ItemShapes) (s : Walked) → Sound s → Goes s (walk_choice c e items s)
choice_goes c e items s h =
    let u = cases (case_values (choosing e) items) in
    let t = with_decision (pos_of e) u s in
    let first = goes_decision (pos_of e) u s h in
    goes_on s t (walk_node (inside c s) Read e t) first (node_goes (inside c s) Read e t first.sound (owner_inside c (pos_of e) u s))

mutual
  stmt_goes : (t : TablesShape) (c : Around) (a : StmtShape) (s : Walked) → Sound s → IsOwner s.decisions c.owner → Goes s (walk_stmt t c a s)
  stmt_goes t c (stmt p marks q f) s h o = body_goes t c f s h o

  body_goes : (t : TablesShape) (c : Around) (f : FormShape) (s : Walked) → Sound s → IsOwner s.decisions c.owner → Goes s (walk_body t c f s)
  body_goes t c (compound b) s h o = compound_goes t c b s h o
  body_goes t c (simply e) s h o = maybe_goes c e s h o
  body_goes t c (when e a) s h o = let u = walk_test c e s in onward c s u (walk_part t c a u) o (test_goes c e s h o) (part_goes t c a u)
  body_goes t c (either e a b) s h o =
      let u = walk_test c e s in
      let v = walk_part t c a u in
      onward c s u (walk_part t c b v) o (test_goes c e s h o) (λ k w. onward c u v (walk_part t c b v) w (part_goes t c a u k w) (part_goes t c b v))
  body_goes t c (while e a) s h o = let u = walk_loop_test c e s in onward c s u (walk_part t c a u) o (loop_test_goes c e s h o) (part_goes t c a u)
  body_goes t c (do_while a e) s h o = let u = walk_part t c a s in onward c s u (walk_loop_test c e u) o (part_goes t c a s h o) (loop_test_goes c e u)
  body_goes t c (for e f g a) s h o =
      let u = walk_maybe c e s in
      let v = walk_maybe_test c f u in
      let x = walk_step c g v in
      onward c s u (walk_part t c a x) o (maybe_goes c e s h o) (λ k w.
      onward c u v (walk_part t c a x) w (maybe_test_goes c f u k w) (λ k w. onward c v x (walk_part t c a x) w (step_goes c g v k w) (part_goes t c a x)))
  body_goes t c (switch e items) s h o = let u = walk_choice c e items s in onward c s u (walk_items t c false items u) o (choice_goes c e items s h) (items_goes t c false items u)
  body_goes t c break s h o = goes_nowhere s h
  body_goes t c continue s h o = goes_nowhere s h
  body_goes t c (return e) s h o = maybe_goes c e s h o

  part_goes : (t : TablesShape) (c : Around) (a : StmtShape) (s : Walked) → Sound s → IsOwner s.decisions c.owner → Goes s (walk_part t c a s)
  part_goes t c (stmt p marks q f) s h o = let u = with_block p s in onward c s u (walk_body t c f u) o (goes_block p s h) (body_goes t c f u)

  compound_goes : (t : TablesShape) (c : Around) (b : CompoundShape) (s : Walked) → Sound s → IsOwner s.decisions c.owner → Goes s (walk_compound t c b s)
  compound_goes t c (braces p ds items) s h o = let u = walk_decls t c ds s in onward c s u (walk_items t c false items u) o (decls_goes t c ds s h o) (items_goes t c false items u)

  items_goes : (t : TablesShape) (c : Around) (after : Bool) (l : ItemShapes) (s : Walked) → Sound s → IsOwner s.decisions c.owner → Goes s (walk_items t c after l s)
  items_goes t c after no_items s h o = goes_nowhere s h
  items_goes t c after (more_items labels a rest) s h o =
      let b = after || is_labelled labels in
      let u = with_block_if b (pos_of_stmt a) s in
      let v = walk_stmt t c a u in
      let x = walk_items t c (splits a) rest v in
      onward c s u x o (goes_block_if b (pos_of_stmt a) s h) (λ k w. onward c u v x w (stmt_goes t c a u k w) (items_goes t c (splits a) rest v))

-- ---- units

define_goes : (t : TablesShape) (f : ℕ) (d : DeclaratorShape) (s : Walked) → Sound s → Goes s (define_declarator t f d s)
define_goes t f (declarator stars x (arrays ls) i) s h = let first = goes_variable s h in goes_on s (with_variable s) (with_whole_def t f x (with_variable s)) first (goes_whole t f x (with_variable s) first.sound)
define_goes t f (declarator stars x (function ps) i) s h = goes_nowhere s h

defines_goes : (t : TablesShape) (f : ℕ) (ds : DeclaratorShapes) (s : Walked) → Sound s → Goes s (define_declarators t f ds s)
defines_goes t f no_declarators s h = goes_nowhere s h
defines_goes t f (more_declarators d rest) s h = let u = define_declarator t f d s in let first = define_goes t f d s h in goes_on s u (define_declarators t f rest u) first (defines_goes t f rest u first.sound)

define_decl_goes : (t : TablesShape) (f : ℕ) (d : DeclShape) (s : Walked) → Sound s → Goes s (define_decl t f d s)
define_decl_goes t f (decl p specs names) s h = defines_goes t f names s h

define_decls_goes : (t : TablesShape) (f : ℕ) (ds : DeclShapes) (s : Walked) → Sound s → Goes s (define_decls t f ds s)
define_decls_goes t f no_decls s h = goes_nowhere s h
define_decls_goes t f (more_decls d rest) s h = let u = define_decl t f d s in let first = define_decl_goes t f d s h in goes_on s u (define_decls t f rest u) first (define_decls_goes t f rest u first.sound)

parameters_goes : (t : TablesShape) (f : ℕ) (d : DeclFormShape) (s : Walked) → Sound s → Goes s (define_parameters t f d s)
parameters_goes t f (function (params ds)) s h = define_decls_goes t f ds s h
parameters_goes t f (function empty) s h = goes_nowhere s h
parameters_goes t f (function void) s h = goes_nowhere s h
parameters_goes t f (arrays ls) s h = goes_nowhere s h

function_goes : (t : TablesShape) (f : ℕ) (d : DeclFormShape) (b : CompoundShape) (s : Walked) → Sound s → Goes s (walk_function t f d b s)
function_goes t f d (braces p ds items) s h =
    let u = define_parameters t f d s in
    let v = with_block p u in
    let x = walk_compound t (in_function f) (braces p ds items) v in
    let first = parameters_goes t f d s h in
    let second = goes_block p u first.sound in
    goes_on s u x first (goes_on u v x second (compound_goes t (in_function f) (braces p ds items) v second.sound tt))

external_goes : (t : TablesShape) (e : ExternalShape) (s : Walked) → Sound s → Goes s (walk_external t e s)
external_goes t (declared d) s h = define_decl_goes t 0 d s h
external_goes t (defined specs (declarator stars x d i) marks b) s h = function_goes t (function_of t (text_of x)) d b s h

externals_goes : (t : TablesShape) (es : List ExternalShape) (s : Walked) → Sound s → Goes s (walk_externals t es s)
externals_goes t [] s h = goes_nowhere s h
externals_goes t (e ∷ rest) s h = let u = walk_external t e s in let first = external_goes t e s h in goes_on s u (walk_externals t rest u) first (externals_goes t rest u first.sound)

pub items_sound : (t : TablesShape) (u : UnitShape) → AreSound (items_of t u)
items_sound t u =
    let all = externals_goes t u.externals nothing (record { count = refl; all = tt }) in
    let is = items_of t u in
    subst (λ n. AllByRecursion (IsSound n) is) (sym all.sound.count) all.sound.all
