-- Which sites may be told of in declarations, statements and a program: those that define a local variable, a parameter among them.
use Rattle.std.specs.Prelude.{◌≡◌, ◌<◌, ℕ, suc, ◌||◌, Contains, List, [], ◌∷◌, Bool, true, false, Option, Some, None}
use Rattle.c_syntax.specs.declared.tree.Named.{Named}
use Rattle.c_syntax.specs.Shape.{TypeOf, array, one_node, DeclShape, decl, DeclShapes, no_decls, more_decls, DeclaratorShape, declarator, DeclaratorShapes, no_declarators, more_declarators, DeclFormShape, empty, void, params, arrays, function, MaybeInit, no_init, one_init, InitShape, one, listed, StmtShape, stmt, FormShape, compound, simply, when, either, while, do_while, for, switch, break, continue, return, CompoundShape, braces, ItemShapes, no_items, more_items, ExternalShape, defined, declared}
use Rattle.c_tables.specs.Tables.{TablesShape}
use Rattle.c_tables.specs.Rows.{text_of}
use Rattle.c_walk.specs.declared.around.Around.{Around}
use Rattle.c_walk.specs.declared.around.Taken.TheVariants.{Read}
use Rattle.c_walk.specs.Items.{cases}
use Rattle.c_walk.specs.Tests.{choosing, case_values}
use Rattle.c_walk.specs.Walked.{Walked, with_block, with_block_if, pos_of, inside, with_decision}
use Rattle.c_walk.specs.Counted.{next_def}
use Rattle.c_walk.specs.Walking.{walk_test, walk_maybe, walk_loop_test, walk_maybe_test, walk_step}
use Rattle.c_walk.specs.Stating.{with_variable, with_whole_def, walk_declarator, walk_decl, walk_decls, splits, is_labelled, pos_of_stmt, walk_choice, walk_stmt, walk_part}
use Rattle.c_walk.specs.Units as units
use Rattle.c_walk.specs.Units.{function_of, in_function, define_declarator, define_decl, define_parameters, walk_external}
use Rattle.c_meaning.specs.declared.end.Flow.{Flow}
use Rattle.c_meaning.specs.State.{Bound, State, start}
use Rattle.c_meaning.specs.Results.{Gives}
use Rattle.c_meaning.specs.Layout.{cells, variable_kind}
use Rattle.c_meaning.specs.Calls.{Source}
use Rattle.c_meaning.specs.Runs.{all_made, audible}
use Rattle.flow_calls.specs.Placing.{Local, Sites}
use Rattle.flow_places.specs.Sited.{IsSited, IsTestSited, IsMaybeSited, IsLoopTestSited, IsStepSited}

-- ---- where variables are defined

-- each cell of a variable of that type has one of the names
abbrev pub AreNamed : Sites → TablesShape → TypeOf → Local → Type 0
AreNamed S t y v = (i : ℕ) → i < cells t y → Contains v.names (S.leaf v.variable i)

-- by an initialiser: the string of an array and a list define all of it, an expression its first cell
abbrev pub DefinesBy : Sites → TablesShape → TypeOf → InitShape → Local → Type 0
DefinesBy S t (array k n) (one a) v = AreNamed S t (array k n) v
DefinesBy S t y (one a) v = v.names ≡ S.leaf v.variable 0 ∷ []
DefinesBy S t y (listed p items last) v = AreNamed S t y v

-- the definition at the name of that variable
abbrev pub IsInitial : Sites → TablesShape → ℕ → TypeOf → InitShape → Option Local → Type 0
IsInitial S t x y i None = Unit {0}
IsInitial S t x y i (Some v) = (v.variable ≡ x) × (v.parameter ≡ false) × DefinesBy S t y i v

-- each parameter's definition is told of, as one
abbrev pub IsParameter : Sites → ℕ → Option Local → Type 0
IsParameter S x None = ⊥
IsParameter S x (Some v) = (v.variable ≡ x) × (v.parameter ≡ true) × Contains v.names (S.leaf v.variable 0)

-- of a variable that has a type
abbrev pub IsParameterOf : Sites → ℕ → Option TypeOf → Option Local → Type 0
IsParameterOf S x None o = Unit {0}
IsParameterOf S x (Some y) o = IsParameter S x o

module _ (S : Sites) (F : List Bound) (t : TablesShape) where
  -- ---- local declarations

  -- of the variable of that number, behind its name
  abbrev pub IsSitedVariable : Around → Option Named → ℕ → Option TypeOf → MaybeInit → Walked → Type 0
  IsSitedVariable c x n None init w = Unit {0}
  IsSitedVariable c x n (Some y) no_init w = Unit {0}
  IsSitedVariable c x n (Some y) (one_init (one a)) w = IsInitial S t n y (one a) (S.defined (next_def w)) × IsSited S F t c Read a (with_whole_def t c.function x w)
  IsSitedVariable c x n (Some y) (one_init (listed p items last)) w = IsInitial S t n y (listed p items last) (S.defined (next_def w))

  abbrev pub IsSitedDeclarator : Around → DeclaratorShape → Walked → Type 0
  IsSitedDeclarator c (declarator stars x (arrays ls) init) w = IsSitedVariable c x (suc w.variables) (variable_kind t (suc w.variables)) init (with_variable w)
  IsSitedDeclarator c (declarator stars x (function ps) init) w = Unit {0}

  abbrev pub AreSitedDeclarators : Around → DeclaratorShapes → Walked → Type 0
  AreSitedDeclarators c no_declarators w = Unit {0}
  AreSitedDeclarators c (more_declarators d rest) w = IsSitedDeclarator c d w × AreSitedDeclarators c rest (walk_declarator t c d w)

  abbrev pub IsSitedDecl : Around → DeclShape → Walked → Type 0
  IsSitedDecl c (decl p specs names) w = AreSitedDeclarators c names w

  abbrev pub AreSitedDecls : Around → DeclShapes → Walked → Type 0
  AreSitedDecls c no_decls w = Unit {0}
  AreSitedDecls c (more_decls d rest) w = IsSitedDecl c d w × AreSitedDecls c rest (walk_decl t c d w)

  -- ---- statements

  abbrev mutual
    pub IsSitedStmt : Around → StmtShape → Walked → Type 0
    IsSitedStmt c (stmt p ms q f) w = IsSitedBody c f w

    pub IsSitedBody : Around → FormShape → Walked → Type 0
    IsSitedBody c (compound a) w = IsSitedCompound c a w
    IsSitedBody c (simply e) w = IsMaybeSited S F t c e w
    IsSitedBody c (when e a) w = IsTestSited S F t c e w × IsSitedPart c a (walk_test c e w)
    IsSitedBody c (either e a d) w = IsTestSited S F t c e w × IsSitedPart c a (walk_test c e w) × IsSitedPart c d (walk_part t c a (walk_test c e w))
    IsSitedBody c (while e a) w = IsLoopTestSited S F t c (one_node e) w × IsSitedPart c a (walk_loop_test c e w)
    IsSitedBody c (do_while a e) w = IsSitedPart c a w × IsLoopTestSited S F t c (one_node e) (walk_part t c a w)
    IsSitedBody c (for e f g a) w =
        let j = walk_maybe c e w in
        let k = walk_maybe_test c f j in
        IsMaybeSited S F t c e w × IsLoopTestSited S F t c f j × IsStepSited S F t c g k × IsSitedPart c a (walk_step c g k)
    IsSitedBody c (switch e items) w =
        IsSited S F t (inside c w) Read e (with_decision (pos_of e) (cases (case_values (choosing e) items)) w) × AreSitedItems c false items (walk_choice c e items w)
    IsSitedBody c break w = Unit {0}
    IsSitedBody c continue w = Unit {0}
    IsSitedBody c (return e) w = IsMaybeSited S F t c e w

    pub IsSitedPart : Around → StmtShape → Walked → Type 0
    IsSitedPart c (stmt p ms q f) w = IsSitedBody c f (with_block p w)

    pub IsSitedCompound : Around → CompoundShape → Walked → Type 0
    IsSitedCompound c (braces p ds items) w = AreSitedDecls c ds w × AreSitedItems c false items (walk_decls t c ds w)

    pub AreSitedItems : Around → Bool → ItemShapes → Walked → Type 0
    AreSitedItems c after no_items w = Unit {0}
    AreSitedItems c after (more_items labels a rest) w =
        let j = with_block_if (after || is_labelled labels) (pos_of_stmt a) w in
        IsSitedStmt c a j × AreSitedItems c (splits a) rest (walk_stmt t c a j)

  -- ---- parameters, and file scope, whose definitions are none that is told of

  abbrev pub IsSitedParam : ℕ → DeclaratorShape → Walked → Type 0
  IsSitedParam f (declarator stars x (arrays ls) i) w = IsParameterOf S (suc w.variables) (variable_kind t (suc w.variables)) (S.defined (next_def (with_variable w)))
  IsSitedParam f (declarator stars x (function ps) i) w = Unit {0}

  abbrev pub AreSitedParams : ℕ → DeclaratorShapes → Walked → Type 0
  AreSitedParams f no_declarators w = Unit {0}
  AreSitedParams f (more_declarators d rest) w = IsSitedParam f d w × AreSitedParams f rest (define_declarator t f d w)

  abbrev pub IsSitedLine : ℕ → DeclShape → Walked → Type 0
  IsSitedLine f (decl p specs names) w = AreSitedParams f names w

  abbrev pub AreSitedLines : ℕ → DeclShapes → Walked → Type 0
  AreSitedLines f no_decls w = Unit {0}
  AreSitedLines f (more_decls d rest) w = IsSitedLine f d w × AreSitedLines f rest (define_decl t f d w)

  abbrev pub IsSitedSignature : ℕ → DeclFormShape → Walked → Type 0
  IsSitedSignature f (function (params ds)) w = AreSitedLines f ds w
  IsSitedSignature f (function empty) w = Unit {0}
  IsSitedSignature f (function void) w = Unit {0}
  IsSitedSignature f (arrays ls) w = Unit {0}

  abbrev pub IsUnsited : DeclaratorShape → Walked → Type 0
  IsUnsited (declarator stars x (arrays ls) i) w = S.defined (next_def (with_variable w)) ≡ None
  IsUnsited (declarator stars x (function ps) i) w = Unit {0}

  abbrev pub AreUnsited : DeclaratorShapes → Walked → Type 0
  AreUnsited no_declarators w = Unit {0}
  AreUnsited (more_declarators d rest) w = IsUnsited d w × AreUnsited rest (define_declarator t 0 d w)

  abbrev pub IsUnsitedDecl : DeclShape → Walked → Type 0
  IsUnsitedDecl (decl p specs names) w = AreUnsited names w

  -- ---- programs

  abbrev pub IsSitedFunction : ℕ → DeclFormShape → CompoundShape → Walked → Type 0
  IsSitedFunction f d (braces p ds items) w = IsSitedSignature f d w × IsSitedCompound (in_function f) (braces p ds items) (with_block p (define_parameters t f d w))

  abbrev pub AreSitedExternals : List ExternalShape → Walked → Type 0
  AreSitedExternals [] w = Unit {0}
  AreSitedExternals (declared d ∷ rest) w = AreSitedExternals rest (walk_external t (declared d) w)
  AreSitedExternals (defined specs (declarator stars x d i) ms a ∷ rest) w =
      IsSitedFunction (function_of t (text_of x)) d a w × AreSitedExternals rest (walk_external t (defined specs (declarator stars x d i) ms a) w)

  abbrev pub AreUnsitedExternals : List ExternalShape → Walked → Type 0
  AreUnsitedExternals [] w = Unit {0}
  AreUnsitedExternals (declared d ∷ rest) w = IsUnsitedDecl d w × AreUnsitedExternals rest (walk_external t (declared d) w)
  AreUnsitedExternals (defined specs d ms a ∷ rest) w = AreUnsitedExternals rest (walk_external t (defined specs d ms a) w)

-- outside of functions, and inside with the variables of file scope as they are made before main is called
pub record AreSitesOf (P : Source) (S : Sites) : Type 0 where
  pub outside : AreUnsitedExternals S [] P.tables P.unit.externals units.no_items
  pub inside : (input : List ℕ) (limit : ℕ) (f : Flow) (s : State) → all_made P audible (start input limit) ≡ Gives f s → AreSitedExternals S s.file P.tables P.unit.externals units.no_items
