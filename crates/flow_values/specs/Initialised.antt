-- Programs in which each string and each list in braces that initialises a local variable gives some cell of it a value, and no other expression
-- initialises one that is no scalar.
use Rattle.std.specs.Prelude.{◌≡◌, ℕ, suc, ◌||◌, List, [], ◌∷◌, Bool, false, Option, Some, None}
use Rattle.c_syntax.specs.Shape.{TypeOf, array, structure, nothing, NodeShape, DeclShape, decl, DeclShapes, no_decls, more_decls, DeclaratorShape, declarator, DeclaratorShapes, no_declarators, more_declarators, DeclFormShape, arrays, function, MaybeInit, no_init, one_init, InitShape, one, listed, StmtShape, stmt, FormShape, compound, simply, when, either, while, do_while, for, switch, break, continue, return, CompoundShape, braces, ItemShapes, no_items, more_items, ExternalShape, defined, declared}
use Rattle.c_tables.specs.Tables.{TablesShape}
use Rattle.c_tables.specs.Rows.{text_of}
use Rattle.c_walk.specs.declared.around.Around.{Around}
use Rattle.c_walk.specs.Walked.{Walked, with_block, with_block_if}
use Rattle.c_walk.specs.Walking.{walk_test, walk_maybe, walk_loop_test, walk_maybe_test, walk_step}
use Rattle.c_walk.specs.Stating.{walk_declarator, walk_decl, walk_decls, splits, is_labelled, pos_of_stmt, walk_choice, walk_stmt, walk_part}
use Rattle.c_walk.specs.Units as units
use Rattle.c_walk.specs.Units.{function_of, in_function, define_parameters, walk_external}
use Rattle.c_meaning.specs.declared.end.Flow.{Flow}
use Rattle.c_meaning.specs.State.{Bound, State, start}
use Rattle.c_meaning.specs.Results.{Gives}
use Rattle.c_meaning.specs.Layout.{variable_kind}
use Rattle.c_meaning.specs.Constants.{one_cells, init_cells}
use Rattle.c_meaning.specs.Calls.{Source}
use Rattle.c_meaning.specs.Runs.{all_made, audible}
use Rattle.flow_calls.specs.Orderly.{HasValue, IsString}

-- ---- declarations

-- by itself an expression initialises a scalar; or it is a string of which some cell is a char, and initialises an array
abbrev pub FitsOne : TablesShape → List Bound → TypeOf → NodeShape → Type 0
FitsOne t b (array k n) a = IsString a × HasValue (one_cells t b (array k n) a)
FitsOne t b (structure n) a = ⊥
FitsOne t b nothing a = ⊥
FitsOne t b y a = Unit {0}

-- of a variable of that type, where these are the variables of file scope
abbrev pub IsInitialised : TablesShape → List Bound → TypeOf → InitShape → Type 0
IsInitialised t b y (one a) = FitsOne t b y a
IsInitialised t b y (listed p items last) = HasValue (init_cells t b y (listed p items last))

abbrev pub HasInitial : TablesShape → List Bound → Option TypeOf → MaybeInit → Type 0
HasInitial t b None init = Unit {0}
HasInitial t b (Some y) no_init = Unit {0}
HasInitial t b (Some y) (one_init i) = IsInitialised t b y i

-- behind what was walked through
abbrev pub InDeclarator : TablesShape → List Bound → DeclaratorShape → Walked → Type 0
InDeclarator t b (declarator stars x (arrays ls) init) w = HasInitial t b (variable_kind t (suc w.variables)) init
InDeclarator t b (declarator stars x (function ps) init) w = Unit {0}

abbrev pub InDeclarators : TablesShape → List Bound → Around → DeclaratorShapes → Walked → Type 0
InDeclarators t b c no_declarators w = Unit {0}
InDeclarators t b c (more_declarators d rest) w = InDeclarator t b d w × InDeclarators t b c rest (walk_declarator t c d w)

abbrev pub InDecl : TablesShape → List Bound → Around → DeclShape → Walked → Type 0
InDecl t b c (decl p specs names) w = InDeclarators t b c names w

abbrev pub InDecls : TablesShape → List Bound → Around → DeclShapes → Walked → Type 0
InDecls t b c no_decls w = Unit {0}
InDecls t b c (more_decls d rest) w = InDecl t b c d w × InDecls t b c rest (walk_decl t c d w)

-- ---- statements

abbrev mutual
  pub InStmt : TablesShape → List Bound → Around → StmtShape → Walked → Type 0
  InStmt t b c (stmt p ms q f) w = InBody t b c f w

  pub InBody : TablesShape → List Bound → Around → FormShape → Walked → Type 0
  InBody t b c (compound a) w = InCompound t b c a w
  InBody t b c (when e a) w = InPart t b c a (walk_test c e w)
  InBody t b c (either e a d) w = InPart t b c a (walk_test c e w) × InPart t b c d (walk_part t c a (walk_test c e w))
  InBody t b c (while e a) w = InPart t b c a (walk_loop_test c e w)
  InBody t b c (do_while a e) w = InPart t b c a w
  InBody t b c (for e f g a) w = InPart t b c a (walk_step c g (walk_maybe_test c f (walk_maybe c e w)))
  InBody t b c (switch e items) w = InItems t b c false items (walk_choice c e items w)
  InBody t b c (simply e) w = Unit {0}
  InBody t b c break w = Unit {0}
  InBody t b c continue w = Unit {0}
  InBody t b c (return e) w = Unit {0}

  pub InPart : TablesShape → List Bound → Around → StmtShape → Walked → Type 0
  InPart t b c (stmt p ms q f) w = InBody t b c f (with_block p w)

  pub InCompound : TablesShape → List Bound → Around → CompoundShape → Walked → Type 0
  InCompound t b c (braces p ds items) w = InDecls t b c ds w × InItems t b c false items (walk_decls t c ds w)

  pub InItems : TablesShape → List Bound → Around → Bool → ItemShapes → Walked → Type 0
  InItems t b c after no_items w = Unit {0}
  InItems t b c after (more_items labels a rest) w =
      let j = with_block_if (after || is_labelled labels) (pos_of_stmt a) w in
      InStmt t b c a j × InItems t b c (splits a) rest (walk_stmt t c a j)

-- ---- programs

abbrev pub InFunction : TablesShape → List Bound → ℕ → DeclFormShape → CompoundShape → Walked → Type 0
InFunction t b f d (braces p ds items) w = InCompound t b (in_function f) (braces p ds items) (with_block p (define_parameters t f d w))

abbrev pub InExternals : TablesShape → List Bound → List ExternalShape → Walked → Type 0
InExternals t b [] w = Unit {0}
InExternals t b (declared d ∷ rest) w = InExternals t b rest (walk_external t (declared d) w)
InExternals t b (defined specs (declarator stars x d i) ms a ∷ rest) w =
    InFunction t b (function_of t (text_of x)) d a w × InExternals t b rest (walk_external t (defined specs (declarator stars x d i) ms a) w)

-- with the variables of file scope as they are made before main is called
abbrev pub AreInitialised : Source → Type 0
AreInitialised P = (input : List ℕ) (limit : ℕ) (f : Flow) (s : State) → all_made P audible (start input limit) ≡ Gives f s → InExternals P.tables s.file P.unit.externals units.no_items
