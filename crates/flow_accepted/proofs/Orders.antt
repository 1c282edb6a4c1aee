-- A program that is fit and apt, and whose initialisers give values, is orderly.
use Rattle.std.proofs.Common.{◌≡◌, ℕ, suc, List, [], ◌∷◌, Bool, true, false, Option, Some, None, refl}
use Rattle.std.specs.Prelude.{◌||◌, if◌then◌else◌}
use Rattle.c_syntax.specs.declared.tree.UnaryOp.TheVariants as front
use Rattle.c_syntax.specs.Shape.{TypeOf, int, pointer, array, structure, nothing, NoteShape, unary, before, size_of, plain, and, or, assign, comma, dot, arrow, NodeShape, node, ExprShape, leaf, paren, call, prefix, size_of_type, cast, suffix, two, choose, probe, index, field, behind, NodeShapes, no_nodes, more_nodes, MaybeNode, no_node, one_node, DeclShape, decl, DeclShapes, no_decls, more_decls, DeclaratorShape, declarator, DeclaratorShapes, no_declarators, more_declarators, DeclFormShape, arrays, function, MaybeInit, no_init, one_init, InitShape, one, listed, StmtShape, stmt, FormShape, compound, simply, when, either, while, do_while, for, switch, break, continue, return, CompoundShape, braces, ItemShapes, no_items, more_items, ExternalShape, defined, declared}
use Rattle.c_tables.specs.Tables.{TablesShape}
use Rattle.c_tables.specs.Rows.{text_of}
use Rattle.c_walk.specs.declared.around.Around.{Around}
use Rattle.c_walk.specs.declared.around.Taken.{Taken}
use Rattle.c_walk.specs.declared.around.Taken.TheVariants.{Read, Written, Changed}
use Rattle.c_walk.specs.Places.{is_place, has_scalar}
use Rattle.c_walk.specs.Walked.{Walked, operand_taken, with_block, with_block_if}
use Rattle.c_walk.specs.Walking.{walk_test, walk_maybe, walk_loop_test, walk_maybe_test, walk_step}
use Rattle.c_walk.specs.Stating.{walk_declarator, walk_decl, walk_decls, splits, is_labelled, pos_of_stmt, walk_choice, walk_stmt, walk_part}
use Rattle.c_walk.specs.Units.{function_of, in_function, define_parameters, walk_external}
use Rattle.c_meaning.specs.State.{Bound}
use Rattle.c_meaning.specs.Layout.{variable_kind}
use Rattle.probe_rules.specs.Fitting.{IsFit, Suits, HasFitParts, AreFit, IsFitMaybe, IsFitInit, IsFitVariable, IsFitDeclarator, AreFitDeclarators, IsFitDecl, AreFitDecls, IsFitStmt, IsFitBody, IsFitCompound, AreFitItems, IsFitExternal, AreFitExternals}
use Rattle.flow_walks.specs.Expressions.{holds_place, form_holds_place, holds_scalar, form_holds_scalar}
use Rattle.flow_calls.specs.Orderly.{IsOrderly, HasOrder, AreOrderly, IsOrderlyMaybe, IsOrderlyInit, IsOrderlyVariable, IsOrderlyDeclarator, AreOrderlyDeclarators, IsOrderlyDecl, AreOrderlyDecls, IsOrderlyStmt, IsOrderlyBody, IsOrderlyPart, IsOrderlyCompound, AreOrderlyItems, IsOrderlyFunction, AreOrderlyExternals}
use Rattle.flow_values.specs.Initialised.{IsInitialised, HasInitial, InDeclarator, InDeclarators, InDecl, InDecls, InStmt, InBody, InPart, InCompound, InItems, InFunction, InExternals}
use Rattle.flow_accepted.proofs.Apt.{IsApt, HasAptParts, AreApt, IsAptMaybe, IsAptInit, IsAptMaybeInit, IsAptDeclarator, AreAptDeclarators, IsAptDecl, AreAptDecls, IsAptStmt, IsAptBody, IsAptCompound, AreAptItems, IsAptExternal, AreAptExternals}

-- ---- what is written is a place, and what is changed is a scalar's

if_scalar : (b x : Bool) → b ≡ true → x ≡ true → (if b then x else false) ≡ true
if_scalar true x e h = h
if_scalar false x e h = e

mutual
  written_place : (a : NodeShape) → IsFit Written a → IsApt a → holds_place a ≡ true
  written_place (node p o n f) h g = form_written n f h.0 h.1 g

  form_written : (n : NoteShape) (f : ExprShape) → Suits Written n f → HasFitParts Written n f → HasAptParts f → form_holds_place f ≡ true
  form_written n (paren a) s h g = written_place a h g
  form_written n (probe u a) s h g = absurd g
  form_written n (leaf l) s h g = s
  form_written n (call x args) s h g = s
  form_written n (prefix u a) s h g = s
  form_written n (size_of_type y) s h g = s
  form_written n (cast y a) s h g = s
  form_written n (suffix a u) s h g = s
  form_written n (two u a b) s h g = s
  form_written n (choose a b d) s h g = s

mutual
  changed_scalar : (a : NodeShape) → IsFit Changed a → IsApt a → holds_scalar a ≡ true
  changed_scalar (node p o n f) h g = form_changed n f h.0 h.1 g

  form_changed : (n : NoteShape) (f : ExprShape) → Suits Changed n f → HasFitParts Changed n f → HasAptParts f → form_holds_scalar n f ≡ true
  form_changed n (paren a) s h g = changed_scalar a h g
  form_changed n (probe u a) s h g = absurd g
  form_changed n (leaf l) s h g = if_scalar (is_place (leaf l)) (has_scalar n) s.0 s.1
  form_changed n (call x args) s h g = if_scalar (is_place (call x args)) (has_scalar n) s.0 s.1
  form_changed n (prefix u a) s h g = if_scalar (is_place (prefix u a)) (has_scalar n) s.0 s.1
  form_changed n (size_of_type y) s h g = if_scalar (is_place (size_of_type y)) (has_scalar n) s.0 s.1
  form_changed n (cast y a) s h g = if_scalar (is_place (cast y a)) (has_scalar n) s.0 s.1
  form_changed n (suffix a u) s h g = if_scalar (is_place (suffix a u)) (has_scalar n) s.0 s.1
  form_changed n (two u a b) s h g = if_scalar (is_place (two u a b)) (has_scalar n) s.0 s.1
  form_changed n (choose a b d) s h g = if_scalar (is_place (choose a b d)) (has_scalar n) s.0 s.1

-- ---- expressions

mutual
  pub orderly : (r : Taken) (a : NodeShape) → IsFit r a → IsApt a → IsOrderly a
  orderly r (node p o n f) h g = form_orderly r n f h.1 g

  form_orderly : (r : Taken) (n : NoteShape) (f : ExprShape) → HasFitParts r n f → HasAptParts f → HasOrder f
  form_orderly r n (leaf l) h g = tt
  form_orderly r n (paren a) h g = orderly r a h g
  form_orderly r n (call x args) h g = all_orderly args h g
  form_orderly r n (prefix (unary front.AddressOf) a) h g = (orderly _ a h g.0, g.1)
  form_orderly r n (prefix (unary front.Deref) a) h g = orderly _ a h g.0
  form_orderly r n (prefix (unary front.Plus) a) h g = orderly _ a h g.0
  form_orderly r n (prefix (unary front.Minus) a) h g = orderly _ a h g.0
  form_orderly r n (prefix (unary front.Flip) a) h g = orderly _ a h g.0
  form_orderly r n (prefix (unary front.Not) a) h g = orderly _ a h g.0
  form_orderly r n (prefix (before u) a) h g = (orderly Changed a h g, changed_scalar a h g)
  form_orderly r n (prefix size_of a) h g = tt
  form_orderly r n (size_of_type y) h g = tt
  form_orderly r n (cast y a) h g = orderly Read a h g
  form_orderly r n (suffix a (index b)) h g = (orderly Read a h.0 g.0, orderly Read b h.1 g.1)
  form_orderly r n (suffix a (field dot x q)) h g = (orderly Read a h g.0, g.1)
  form_orderly r n (suffix a (field arrow x q)) h g = orderly Read a h g.0
  form_orderly r n (suffix a (behind u)) h g = (orderly Changed a h g, changed_scalar a h g)
  form_orderly r n (two (assign None) a b) h g = (orderly Written a h.0 g.0, written_place a h.0 g.0, orderly _ b h.1 g.1, g.2.0, g.2.1)
  form_orderly r n (two (assign (Some u)) a b) h g = (orderly Changed a h.0 g.0, changed_scalar a h.0 g.0, orderly Read b h.1 g.1)
  form_orderly r n (two (plain u) a b) h g = (orderly Read a h.0 g.0, orderly Read b h.1 g.1)
  form_orderly r n (two and a b) h g = (orderly Read a h.0 g.0, orderly Read b h.1 g.1)
  form_orderly r n (two or a b) h g = (orderly Read a h.0 g.0, orderly Read b h.1 g.1)
  form_orderly r n (two comma a b) h g = (orderly Read a h.0 g.0, orderly Read b h.1 g.1)
  form_orderly r n (choose a b d) h g = (orderly Read a h.0 g.0, orderly Read b h.1 g.1, orderly Read d h.2 g.2)
  form_orderly r n (probe u a) h g = g

  all_orderly : (args : NodeShapes) → AreFit args → AreApt args → AreOrderly args
  all_orderly no_nodes h g = tt
  all_orderly (more_nodes a rest) h g = (orderly Read a h.0 g.0, all_orderly rest h.1 g.1)

maybe_orderly : (e : MaybeNode) → IsFitMaybe e → IsAptMaybe e → IsOrderlyMaybe e
maybe_orderly no_node h g = tt
maybe_orderly (one_node a) h g = orderly Read a h g

module _ (t : TablesShape) (b : List Bound) where
  -- ---- declarations

  init_orderly : (y : TypeOf) (i : InitShape) → IsFitInit i → IsAptInit i → IsInitialised t b y i → IsOrderlyInit t b y i
  init_orderly (array k n) (one a) h g v = v
  init_orderly (int k) (one a) h g v = orderly Read a h g
  init_orderly (pointer k) (one a) h g v = orderly Read a h g
  init_orderly (structure n) (one a) h g v = v
  init_orderly nothing (one a) h g v = v
  init_orderly y (listed p items last) h g v = v

  variable_orderly : (y : Option TypeOf) (stars : _) (x : _) (ls : _) (i : MaybeInit) → IsFitDeclarator (declarator stars x (arrays ls) i) → IsAptMaybeInit i → HasInitial t b y i → IsOrderlyVariable t b y i
  variable_orderly None stars x ls i h g v = tt
  variable_orderly (Some y) stars x ls no_init h g v = tt
  variable_orderly (Some y) stars x ls (one_init i) h g v = init_orderly y i h.1 g v

  declarator_orderly : (d : DeclaratorShape) (w : Walked) → IsFitDeclarator d → IsAptDeclarator d → InDeclarator t b d w → IsOrderlyDeclarator t b d w
  declarator_orderly (declarator stars x (arrays ls) i) w h g v = variable_orderly (variable_kind t (suc w.variables)) stars x ls i h g v
  declarator_orderly (declarator stars x (function ps) i) w h g v = tt

  declarators_orderly : (c : Around) (ds : DeclaratorShapes) (w : Walked) → AreFitDeclarators ds → AreAptDeclarators ds → InDeclarators t b c ds w → AreOrderlyDeclarators t b c ds w
  declarators_orderly c no_declarators w h g v = tt
  declarators_orderly c (more_declarators d rest) w h g v = (declarator_orderly d w h.0 g.0 v.0, declarators_orderly c rest (walk_declarator t c d w) h.1 g.1 v.1)

  decl_orderly : (c : Around) (d : DeclShape) (w : Walked) → IsFitDecl d → IsAptDecl d → InDecl t b c d w → IsOrderlyDecl t b c d w
  decl_orderly c (decl p specs names) w h g v = declarators_orderly c names w h g v

  decls_orderly : (c : Around) (ds : DeclShapes) (w : Walked) → AreFitDecls ds → AreAptDecls ds → InDecls t b c ds w → AreOrderlyDecls t b c ds w
  decls_orderly c no_decls w h g v = tt
  decls_orderly c (more_decls d rest) w h g v = (decl_orderly c d w h.0 g.0 v.0, decls_orderly c rest (walk_decl t c d w) h.1 g.1 v.1)

  -- ---- statements

  mutual
    stmt_orderly : (c : Around) (a : StmtShape) (w : Walked) → IsFitStmt a → IsAptStmt a → InStmt t b c a w → IsOrderlyStmt t b c a w
    stmt_orderly c (stmt p ms q f) w h g v = body_orderly c f w h g v

    body_orderly : (c : Around) (f : FormShape) (w : Walked) → IsFitBody f → IsAptBody f → InBody t b c f w → IsOrderlyBody t b c f w
    body_orderly c (compound a) w h g v = compound_orderly c a w h g v
    body_orderly c (simply e) w h g v = maybe_orderly e h g
    body_orderly c (when e a) w h g v = (orderly Read e h.0 g.0, part_orderly c a (walk_test c e w) h.1 g.1 v)
    body_orderly c (either e a d) w h g v =
        let j = walk_test c e w in
        (orderly Read e h.0 g.0, part_orderly c a j h.1 g.1 v.0, part_orderly c d (walk_part t c a j) h.2 g.2 v.1)
    body_orderly c (while e a) w h g v = (orderly Read e h.0 g.0, part_orderly c a (walk_loop_test c e w) h.1 g.1 v)
    body_orderly c (do_while a e) w h g v = (part_orderly c a w h.0 g.0 v, orderly Read e h.1 g.1)
    body_orderly c (for e f d a) w h g v =
        (maybe_orderly e h.0 g.0, maybe_orderly f h.1 g.1, maybe_orderly d h.2 g.2, part_orderly c a (walk_step c d (walk_maybe_test c f (walk_maybe c e w))) h.3 g.3 v)
    body_orderly c (switch e items) w h g v = (orderly Read e h.0 g.0, items_orderly c false items (walk_choice c e items w) h.1 g.1 v)
    body_orderly c break w h g v = tt
    body_orderly c continue w h g v = tt
    body_orderly c (return e) w h g v = maybe_orderly e h g

    part_orderly : (c : Around) (a : StmtShape) (w : Walked) → IsFitStmt a → IsAptStmt a → InPart t b c a w → IsOrderlyPart t b c a w
    part_orderly c (stmt p ms q f) w h g v = body_orderly c f (with_block p w) h g v

    compound_orderly : (c : Around) (a : CompoundShape) (w : Walked) → IsFitCompound a → IsAptCompound a → InCompound t b c a w → IsOrderlyCompound t b c a w
    compound_orderly c (braces p ds items) w h g v = (decls_orderly c ds w h.0 g.0 v.0, items_orderly c false items (walk_decls t c ds w) h.1 g.1 v.1)

    items_orderly : (c : Around) (after : Bool) (items : ItemShapes) (w : Walked) → AreFitItems items → AreAptItems items → InItems t b c after items w → AreOrderlyItems t b c after items w
    items_orderly c after no_items w h g v = tt
    items_orderly c after (more_items labels a rest) w h g v =
        let j = with_block_if (after || is_labelled labels) (pos_of_stmt a) w in
        (stmt_orderly c a j h.1 g.0 v.0, items_orderly c (splits a) rest (walk_stmt t c a j) h.2 g.1 v.1)

  -- ---- programs

  function_orderly : (f : ℕ) (d : DeclFormShape) (a : CompoundShape) (w : Walked) → IsFitCompound a → IsAptCompound a → InFunction t b f d a w → IsOrderlyFunction t b f d a w
  function_orderly f d (braces p ds items) w h g v = compound_orderly (in_function f) (braces p ds items) (with_block p (define_parameters t f d w)) h g v

  pub externals_orderly : (es : List ExternalShape) (w : Walked) → AreFitExternals es → AreAptExternals es → InExternals t b es w → AreOrderlyExternals t b es w
  externals_orderly [] w h g v = tt
  externals_orderly (declared d ∷ rest) w h g v = externals_orderly rest (walk_external t (declared d) w) h.1 g.1 v
  externals_orderly (defined specs (declarator stars x d i) ms a ∷ rest) w h g v =
      (function_orderly (function_of t (text_of x)) d a w h.0.1 g.0 v.0, externals_orderly rest (walk_external t (defined specs (declarator stars x d i) ms a) w) h.1 g.1 v.1)
