-- What the checker sees to that walks rest on: what is written is a place, what is changed is a place of a scalar, a comma whose place is taken
-- is no scalar's, and an initialiser gives its variable a value. No probe stands in the tree.
use Rattle.std.specs.Prelude.{◌≡◌, ℕ, suc, ◌||◌, List, [], ◌∷◌, Bool, true, false, Option, Some, None}
use Rattle.c_syntax.specs.declared.tree.UnaryOp.TheVariants as front
use Rattle.c_syntax.specs.Shape.{TypeOf, array, structure, nothing, NoteShape, str, unary, before, size_of, plain, and, or, assign, comma, dot, arrow, NodeShape, node, ExprShape, leaf, paren, call, prefix, size_of_type, cast, suffix, two, choose, probe, index, field, behind, NodeShapes, no_nodes, more_nodes, MaybeNode, no_node, one_node, DeclShape, decl, DeclShapes, no_decls, more_decls, DeclaratorShape, declarator, DeclaratorShapes, no_declarators, more_declarators, DeclFormShape, arrays, function, MaybeInit, no_init, one_init, InitShape, one, listed, StmtShape, stmt, FormShape, compound, simply, when, either, while, do_while, for, switch, break, continue, return, CompoundShape, braces, ItemShapes, no_items, more_items, ExternalShape, defined, declared}
use Rattle.c_store.specs.declared.value.Value.{Value}
use Rattle.c_tables.specs.Tables.{TablesShape}
use Rattle.c_tables.specs.Rows.{text_of}
use Rattle.c_walk.specs.declared.around.Around.{Around}
use Rattle.c_walk.specs.declared.around.Taken.{Taken}
use Rattle.c_walk.specs.declared.around.Taken.TheVariants.{Read, Copied, Addressed}
use Rattle.c_walk.specs.Places.{holds_structure}
use Rattle.c_walk.specs.Walked.{Walked, with_block, with_block_if}
use Rattle.c_walk.specs.Walking.{walk_test, walk_maybe, walk_loop_test, walk_maybe_test, walk_step}
use Rattle.c_walk.specs.Stating.{walk_declarator, walk_decl, walk_decls, splits, is_labelled, pos_of_stmt, walk_choice, walk_stmt, walk_part}
use Rattle.c_walk.specs.Units as units
use Rattle.c_walk.specs.Units.{function_of, in_function, define_parameters, walk_external}
use Rattle.c_meaning.specs.declared.end.Flow.{Flow}
use Rattle.c_meaning.specs.State.{Bound, State, start}
use Rattle.c_meaning.specs.Results.{Gives}
use Rattle.c_meaning.specs.Layout.{variable_kind}
use Rattle.c_meaning.specs.Constants.{one_cells, init_cells}
use Rattle.c_meaning.specs.Calls.{Source}
use Rattle.c_meaning.specs.Runs.{all_made, audible}
use Rattle.flow_walks.specs.Expressions.{holds_place, holds_scalar, reads}

-- ---- expressions

-- the place that it comes to, past parentheses and commas, is used in a walk
abbrev mutual
  pub is_used : Taken → NodeShape → Bool
  is_used r (node p o n f) = form_is_used r n f

  pub form_is_used : Taken → NoteShape → ExprShape → Bool
  form_is_used r n (paren a) = is_used r a
  form_is_used r n (two comma a b) = is_used Read b
  form_is_used r n f = reads r n f

-- a place of a structure, past parentheses, which is used where it is copied
abbrev mutual
  pub is_copied : NodeShape → Bool
  is_copied (node p o n f) = form_is_copied n f

  pub form_is_copied : NoteShape → ExprShape → Bool
  form_is_copied n (paren a) = is_copied a
  form_is_copied n f = reads Copied n f

abbrev mutual
  pub IsOrderly : NodeShape → Type 0
  IsOrderly (node p o n f) = HasOrder f

  pub HasOrder : ExprShape → Type 0
  HasOrder (leaf l) = Unit {0}
  HasOrder (paren a) = IsOrderly a
  HasOrder (call x args) = AreOrderly args
  HasOrder (prefix (unary front.AddressOf) a) = IsOrderly a × (is_used Addressed a ≡ false)
  HasOrder (prefix (unary u) a) = IsOrderly a
  HasOrder (prefix (before u) a) = IsOrderly a × (holds_scalar a ≡ true)
  HasOrder (prefix size_of a) = Unit {0}
  HasOrder (size_of_type y) = Unit {0}
  HasOrder (cast y a) = IsOrderly a
  HasOrder (suffix a (index b)) = IsOrderly a × IsOrderly b
  HasOrder (suffix a (field dot x q)) = IsOrderly a × (is_used Read a ≡ false)
  HasOrder (suffix a (field arrow x q)) = IsOrderly a
  HasOrder (suffix a (behind u)) = IsOrderly a × (holds_scalar a ≡ true)
  -- to the left of `=` stands a structure, which is copied, or a scalar
  HasOrder (two (assign None) a b) =
      IsOrderly a × (holds_place a ≡ true) × IsOrderly b × (holds_structure a ≡ true → (is_copied a ≡ true) × (is_copied b ≡ true)) × (holds_structure a ≡ false → holds_scalar a ≡ true)
  HasOrder (two (assign (Some u)) a b) = IsOrderly a × (holds_scalar a ≡ true) × IsOrderly b
  HasOrder (two (plain u) a b) = IsOrderly a × IsOrderly b
  HasOrder (two and a b) = IsOrderly a × IsOrderly b
  HasOrder (two or a b) = IsOrderly a × IsOrderly b
  HasOrder (two comma a b) = IsOrderly a × IsOrderly b
  HasOrder (choose a b d) = IsOrderly a × IsOrderly b × IsOrderly d
  HasOrder (probe u a) = ⊥

  pub AreOrderly : NodeShapes → Type 0
  AreOrderly no_nodes = Unit {0}
  AreOrderly (more_nodes a rest) = IsOrderly a × AreOrderly rest

abbrev pub IsOrderlyMaybe : MaybeNode → Type 0
IsOrderlyMaybe no_node = Unit {0}
IsOrderlyMaybe (one_node a) = IsOrderly a

-- ---- declarations

-- some cell is given a value
abbrev pub HasValue : List (Option Value) → Type 0
HasValue [] = ⊥
HasValue (None ∷ vs) = HasValue vs
HasValue (Some v ∷ vs) = Unit {0}

abbrev pub IsString : NodeShape → Type 0
IsString (node p o n (leaf (str x))) = Unit {0}
IsString a = ⊥

-- of a variable of that type, where these are the variables of file scope: a string is an array's, and another expression a scalar's
abbrev pub IsOrderlyOne : TablesShape → List Bound → TypeOf → NodeShape → Type 0
IsOrderlyOne t b (array k n) a = IsString a × HasValue (one_cells t b (array k n) a)
IsOrderlyOne t b (structure n) a = ⊥
IsOrderlyOne t b nothing a = ⊥
IsOrderlyOne t b y a = IsOrderly a

abbrev pub IsOrderlyInit : TablesShape → List Bound → TypeOf → InitShape → Type 0
IsOrderlyInit t b y (one a) = IsOrderlyOne t b y a
IsOrderlyInit t b y (listed p items last) = HasValue (init_cells t b y (listed p items last))

abbrev pub IsOrderlyVariable : TablesShape → List Bound → Option TypeOf → MaybeInit → Type 0
IsOrderlyVariable t b None init = Unit {0}
IsOrderlyVariable t b (Some y) no_init = Unit {0}
IsOrderlyVariable t b (Some y) (one_init i) = IsOrderlyInit t b y i

-- behind what was walked through
abbrev pub IsOrderlyDeclarator : TablesShape → List Bound → DeclaratorShape → Walked → Type 0
IsOrderlyDeclarator t b (declarator stars x (arrays ls) init) w = IsOrderlyVariable t b (variable_kind t (suc w.variables)) init
IsOrderlyDeclarator t b (declarator stars x (function ps) init) w = Unit {0}

abbrev pub AreOrderlyDeclarators : TablesShape → List Bound → Around → DeclaratorShapes → Walked → Type 0
AreOrderlyDeclarators t b c no_declarators w = Unit {0}
AreOrderlyDeclarators t b c (more_declarators d rest) w = IsOrderlyDeclarator t b d w × AreOrderlyDeclarators t b c rest (walk_declarator t c d w)

abbrev pub IsOrderlyDecl : TablesShape → List Bound → Around → DeclShape → Walked → Type 0
IsOrderlyDecl t b c (decl p specs names) w = AreOrderlyDeclarators t b c names w

abbrev pub AreOrderlyDecls : TablesShape → List Bound → Around → DeclShapes → Walked → Type 0
AreOrderlyDecls t b c no_decls w = Unit {0}
AreOrderlyDecls t b c (more_decls d rest) w = IsOrderlyDecl t b c d w × AreOrderlyDecls t b c rest (walk_decl t c d w)

-- ---- statements

abbrev mutual
  pub IsOrderlyStmt : TablesShape → List Bound → Around → StmtShape → Walked → Type 0
  IsOrderlyStmt t b c (stmt p ms q f) w = IsOrderlyBody t b c f w

  pub IsOrderlyBody : TablesShape → List Bound → Around → FormShape → Walked → Type 0
  IsOrderlyBody t b c (compound a) w = IsOrderlyCompound t b c a w
  IsOrderlyBody t b c (simply e) w = IsOrderlyMaybe e
  IsOrderlyBody t b c (when e a) w = IsOrderly e × IsOrderlyPart t b c a (walk_test c e w)
  IsOrderlyBody t b c (either e a d) w = IsOrderly e × IsOrderlyPart t b c a (walk_test c e w) × IsOrderlyPart t b c d (walk_part t c a (walk_test c e w))
  IsOrderlyBody t b c (while e a) w = IsOrderly e × IsOrderlyPart t b c a (walk_loop_test c e w)
  IsOrderlyBody t b c (do_while a e) w = IsOrderlyPart t b c a w × IsOrderly e
  IsOrderlyBody t b c (for e f g a) w =
      IsOrderlyMaybe e × IsOrderlyMaybe f × IsOrderlyMaybe g × IsOrderlyPart t b c a (walk_step c g (walk_maybe_test c f (walk_maybe c e w)))
  IsOrderlyBody t b c (switch e items) w = IsOrderly e × AreOrderlyItems t b c false items (walk_choice c e items w)
  IsOrderlyBody t b c break w = Unit {0}
  IsOrderlyBody t b c continue w = Unit {0}
  IsOrderlyBody t b c (return e) w = IsOrderlyMaybe e

  pub IsOrderlyPart : TablesShape → List Bound → Around → StmtShape → Walked → Type 0
  IsOrderlyPart t b c (stmt p ms q f) w = IsOrderlyBody t b c f (with_block p w)

  pub IsOrderlyCompound : TablesShape → List Bound → Around → CompoundShape → Walked → Type 0
  IsOrderlyCompound t b c (braces p ds items) w = AreOrderlyDecls t b c ds w × AreOrderlyItems t b c false items (walk_decls t c ds w)

  pub AreOrderlyItems : TablesShape → List Bound → Around → Bool → ItemShapes → Walked → Type 0
  AreOrderlyItems t b c after no_items w = Unit {0}
  AreOrderlyItems t b c after (more_items labels a rest) w =
      let j = with_block_if (after || is_labelled labels) (pos_of_stmt a) w in
      IsOrderlyStmt t b c a j × AreOrderlyItems t b c (splits a) rest (walk_stmt t c a j)

-- ---- programs

abbrev pub IsOrderlyFunction : TablesShape → List Bound → ℕ → DeclFormShape → CompoundShape → Walked → Type 0
IsOrderlyFunction t b f d (braces p ds items) w = IsOrderlyCompound t b (in_function f) (braces p ds items) (with_block p (define_parameters t f d w))

abbrev pub AreOrderlyExternals : TablesShape → List Bound → List ExternalShape → Walked → Type 0
AreOrderlyExternals t b [] w = Unit {0}
AreOrderlyExternals t b (declared d ∷ rest) w = AreOrderlyExternals t b rest (walk_external t (declared d) w)
AreOrderlyExternals t b (defined specs (declarator stars x d i) ms a ∷ rest) w =
    IsOrderlyFunction t b (function_of t (text_of x)) d a w × AreOrderlyExternals t b rest (walk_external t (defined specs (declarator stars x d i) ms a) w)

-- with the variables of file scope as they are made before main is called
abbrev pub IsOrderlyProgram : Source → Type 0
IsOrderlyProgram P = (input : List ℕ) (limit : ℕ) (f : Flow) (s : State) → all_made P audible (start input limit) ≡ Gives f s → AreOrderlyExternals P.tables s.file P.unit.externals units.no_items
