-- Which trees the grammar allows: each part has a form that may stand at its place, and no operand binds looser than its operator allows.
use Rattle.std.specs.Prelude.{◌≡◌, ◌≢◌, ℕ, suc, ◌≤◌, max, Bool, true, false, List, [], ◌∷◌, Option, Some, None, is_none, ◌||◌}
use Rattle.c_syntax.specs.declared.token.Key.{Key}
use Rattle.c_syntax.specs.declared.token.Key.TheVariants as k
use Rattle.c_syntax.specs.declared.token.TokenKind.TheVariants as kind
use Rattle.c_syntax.specs.declared.tree.BinaryOp.{BinaryOp}
use Rattle.c_syntax.specs.declared.tree.BinaryOp.TheVariants as op
use Rattle.c_syntax.specs.declared.tree.Named.{Named}
use Rattle.c_syntax.specs.Forms.{kinds}
use Rattle.c_syntax.specs.Grammar.{param_list_form}
use Rattle.c_syntax.specs.Levels.{cases_chain, chain, unit_height}
use Rattle.c_syntax.specs.Shape.{NoteShape, bare, Prefix, unary, before, size_of, Infix, plain, and, or, assign, comma, Probing, block, test, used, def, NodeShape, node, ExprShape, leaf, paren, call, prefix, size_of_type, cast, suffix, two, choose, probe, SuffixShape, index, field, behind, ProbeShape, simple, select, NodeShapes, no_nodes, more_nodes, MaybeNode, no_node, one_node, LengthShapes, no_lengths, more_lengths, TypeShape, type_name, SpecShapes, no_specs, more_specs, SpecShape, word, struct, enum, MaybeDecls, no_members, members, MaybeEnumers, no_rows, rows, EnumerShapes, no_enumers, more_enumers, DeclShape, decl, DeclShapes, no_decls, more_decls, DeclaratorShape, declarator, DeclaratorShapes, no_declarators, more_declarators, DeclFormShape, arrays, function, ParamsShape, empty, void, params, MaybeInit, no_init, one_init, InitShape, one, listed, InitShapes, no_inits, more_inits, LabelShape, case, default, StmtShape, stmt, FormShape, compound, simply, when, either, while, do_while, for, switch, break, continue, return, CompoundShape, braces, ItemShapes, no_items, more_items, ExternalShape, defined, declared, UnitShape}

-- HOW TIGHTLY A FORM BINDS (C89, 3.3): comma 0, assignment 1, `?:` 2, `||` 3, `&&` 4, the other operators of two operands 5 to 12,
-- casts 13, what stands in front of its operand 14, behind it 15, operands 16.

abbrev pub binary_level : BinaryOp → ℕ
binary_level op.Mul = 12
binary_level op.Div = 12
binary_level op.Rem = 12
binary_level op.Add = 11
binary_level op.Sub = 11
binary_level op.Shl = 10
binary_level op.Shr = 10
binary_level op.Lt = 9
binary_level op.Gt = 9
binary_level op.Le = 9
binary_level op.Ge = 9
binary_level op.Eq = 8
binary_level op.Ne = 8
binary_level op.BitAnd = 7
binary_level op.BitXor = 6
binary_level op.BitOr = 5

abbrev pub infix_level : Infix → ℕ
infix_level (plain o) = binary_level o
infix_level and = 4
infix_level or = 3
infix_level (assign o) = 1
infix_level comma = 0

-- the loosest left operand: all but assignments group to the left
abbrev pub left_least : Infix → ℕ
left_least (plain o) = binary_level o
left_least and = 4
left_least or = 3
left_least (assign o) = 14
left_least comma = 0

abbrev pub right_least : Infix → ℕ
right_least (plain o) = suc (binary_level o)
right_least and = 5
right_least or = 4
right_least (assign o) = 1
right_least comma = 1

abbrev pub prefix_least : Prefix → ℕ
prefix_least (unary u) = 13
prefix_least (before s) = 14
prefix_least size_of = 14

abbrev pub probe_least : Probing → ℕ
probe_least block = 0
probe_least test = 0
probe_least used = 14
probe_least def = 14

abbrev pub expr_level : ExprShape → ℕ
expr_level (leaf l) = 16
expr_level (paren a) = 16
expr_level (call x args) = 16
expr_level (prefix u a) = 14
expr_level (size_of_type t) = 14
expr_level (cast t a) = 13
expr_level (suffix a s) = 15
expr_level (two u a b) = infix_level u
expr_level (choose a b c) = 2
expr_level (probe u a) = 16

abbrev pub level : NodeShape → ℕ
level (node p o n f) = expr_level f

-- the operators that an assignment may compute with
abbrev pub computes : BinaryOp → Bool
computes op.Mul = true
computes op.Div = true
computes op.Rem = true
computes op.Add = true
computes op.Sub = true
computes op.Shl = true
computes op.Shr = true
computes op.Lt = false
computes op.Gt = false
computes op.Le = false
computes op.Ge = false
computes op.Eq = false
computes op.Ne = false
computes op.BitAnd = true
computes op.BitXor = true
computes op.BitOr = true

abbrev pub infix_fits : Infix → Bool
infix_fits (plain o) = true
infix_fits and = true
infix_fits or = true
infix_fits (assign None) = true
infix_fits (assign (Some o)) = computes o
infix_fits comma = true

-- the keywords that are specifiers by themselves (C89, 3.5.1 to 3.5.3)
abbrev pub is_spec_word : Key → Bool
is_spec_word k.Break = false
is_spec_word k.Case = false
is_spec_word k.Char = true
is_spec_word k.Const = true
is_spec_word k.Continue = false
is_spec_word k.Default = false
is_spec_word k.Do = false
is_spec_word k.Else = false
is_spec_word k.Enum = false
is_spec_word k.For = false
is_spec_word k.If = false
is_spec_word k.Int = true
is_spec_word k.Long = true
is_spec_word k.Return = false
is_spec_word k.Short = true
is_spec_word k.Signed = true
is_spec_word k.Sizeof = false
is_spec_word k.Static = true
is_spec_word k.Struct = false
is_spec_word k.Switch = false
is_spec_word k.Unsigned = true
is_spec_word k.Void = true
is_spec_word k.While = false

-- NAMES

-- where a declarator stands
pub data Standing : Type 0 where
  in_members : Standing
  in_names : Standing
  in_params : Standing

-- a field's name has no probe, and a parameter needs no name
abbrev pub name_fits : Standing → Option Named → Bool
name_fits in_members None = false
name_fits in_members (Some n) = is_none n.probe
name_fits in_names None = false
name_fits in_names (Some n) = true
name_fits in_params None = true
name_fits in_params (Some n) = true

-- brackets may be empty but for those of fields
abbrev pub may_be_open : Standing → Bool
may_be_open in_members = false
may_be_open in_names = true
may_be_open in_params = true

abbrev pub is_in_names : Standing → Bool
is_in_names in_members = false
is_in_names in_names = true
is_in_names in_params = false

-- initialisers stand behind variables alone
abbrev pub may_begin : Standing → DeclFormShape → Bool
may_begin s (arrays ls) = is_in_names s
may_begin s (function list) = false

abbrev pub unprobed : Option Named → Bool
unprobed None = true
unprobed (Some n) = is_none n.probe

abbrev pub has_members : MaybeDecls → Bool
has_members no_members = false
has_members (members ds) = true

abbrev pub has_rows : MaybeEnumers → Bool
has_rows no_rows = false
has_rows (rows es) = true

abbrev pub is_there : Option Named → Bool
is_there None = false
is_there (Some n) = true

-- EXPRESSIONS, TYPES AND DECLARATIONS

abbrev mutual
  pub Shaped : NodeShape → Type 0
  Shaped (node p o n f) = (n ≡ bare) × ShapedExpr f

  pub ShapedExpr : ExprShape → Type 0
  ShapedExpr (leaf l) = Unit {0}
  ShapedExpr (paren a) = Shaped a
  ShapedExpr (call x args) = ShapedNodes 1 args
  ShapedExpr (prefix u a) = (prefix_least u ≤ level a) × Shaped a
  ShapedExpr (size_of_type t) = ShapedType t
  ShapedExpr (cast t a) = ShapedType t × (13 ≤ level a) × Shaped a
  ShapedExpr (suffix a s) = (15 ≤ level a) × Shaped a × ShapedSuffix s
  ShapedExpr (two u a b) = (infix_fits u ≡ true) × (left_least u ≤ level a) × Shaped a × (right_least u ≤ level b) × Shaped b
  ShapedExpr (choose a b c) = (3 ≤ level a) × Shaped a × Shaped b × (2 ≤ level c) × Shaped c
  ShapedExpr (probe u a) = ShapedProbe u (level a) × Shaped a × (suc (max (cases_chain u) (chain a)) ≤ 4)

  pub ShapedSuffix : SuffixShape → Type 0
  ShapedSuffix (index b) = Shaped b
  ShapedSuffix (field h x p) = Unit {0}
  ShapedSuffix (behind s) = Unit {0}

  -- a probe round an expression that binds as tightly as this
  pub ShapedProbe : ProbeShape → ℕ → Type 0
  ShapedProbe (simple u n) l = probe_least u ≤ l
  ShapedProbe (select n cases) l = ShapedNodes 2 cases

  pub ShapedNodes : ℕ → NodeShapes → Type 0
  ShapedNodes l no_nodes = Unit {0}
  ShapedNodes l (more_nodes a rest) = (l ≤ level a) × Shaped a × ShapedNodes l rest

  pub ShapedMaybe : ℕ → MaybeNode → Type 0
  ShapedMaybe l no_node = Unit {0}
  ShapedMaybe l (one_node a) = (l ≤ level a) × Shaped a

  pub ShapedLengths : Bool → LengthShapes → Type 0
  ShapedLengths free no_lengths = Unit {0}
  ShapedLengths free (more_lengths no_node rest) = (free ≡ true) × ShapedLengths free rest
  ShapedLengths free (more_lengths (one_node a) rest) = (2 ≤ level a) × Shaped a × ShapedLengths free rest

  pub ShapedType : TypeShape → Type 0
  ShapedType (type_name p specs stars ls) = SomeSpecs specs × ShapedLengths false ls

  pub SomeSpecs : SpecShapes → Type 0
  SomeSpecs no_specs = ⊥
  SomeSpecs (more_specs p s rest) = ShapedSpec s × AllSpecs rest

  pub AllSpecs : SpecShapes → Type 0
  AllSpecs no_specs = Unit {0}
  AllSpecs (more_specs p s rest) = ShapedSpec s × AllSpecs rest

  -- a structure or enumeration has a tag or a list
  pub ShapedSpec : SpecShape → Type 0
  ShapedSpec (word x) = is_spec_word x ≡ true
  ShapedSpec (struct tag ds) = (unprobed tag ≡ true) × ((is_there tag || has_members ds) ≡ true) × ShapedMembers ds
  ShapedSpec (enum tag es) = (unprobed tag ≡ true) × ((is_there tag || has_rows es) ≡ true) × ShapedRows es

  pub ShapedMembers : MaybeDecls → Type 0
  ShapedMembers no_members = Unit {0}
  ShapedMembers (members no_decls) = ⊥
  ShapedMembers (members (more_decls d rest)) = ShapedDecl in_members d × ShapedDecls in_members rest

  pub ShapedRows : MaybeEnumers → Type 0
  ShapedRows no_rows = Unit {0}
  ShapedRows (rows no_enumers) = ⊥
  ShapedRows (rows (more_enumers n v rest)) = (n.probe ≡ None) × ShapedMaybe 2 v × ShapedEnumers rest

  pub ShapedEnumers : EnumerShapes → Type 0
  ShapedEnumers no_enumers = Unit {0}
  ShapedEnumers (more_enumers n v rest) = (n.probe ≡ None) × ShapedMaybe 2 v × ShapedEnumers rest

  pub ShapedDecls : Standing → DeclShapes → Type 0
  ShapedDecls s no_decls = Unit {0}
  ShapedDecls s (more_decls d rest) = ShapedDecl s d × ShapedDecls s rest

  -- a line of a member list declares a field at least
  pub ShapedDecl : Standing → DeclShape → Type 0
  ShapedDecl s (decl p specs no_declarators) = (is_in_names s ≡ true) × SomeSpecs specs
  ShapedDecl s (decl p specs (more_declarators d rest)) = SomeSpecs specs × ShapedDeclarator s d × ShapedDeclarators s rest

  pub ShapedDeclarators : Standing → DeclaratorShapes → Type 0
  ShapedDeclarators s no_declarators = Unit {0}
  ShapedDeclarators s (more_declarators d rest) = ShapedDeclarator s d × ShapedDeclarators s rest

  pub ShapedDeclarator : Standing → DeclaratorShape → Type 0
  ShapedDeclarator s (declarator stars n f i) = (name_fits s n ≡ true) × ShapedBehind s f × ShapedInitOf (may_begin s f) i

  -- functions are declared among other names alone
  pub ShapedBehind : Standing → DeclFormShape → Type 0
  ShapedBehind s (arrays ls) = ShapedLengths (may_be_open s) ls
  ShapedBehind s (function list) = (is_in_names s ≡ true) × ShapedParams list

  pub ShapedInitOf : Bool → MaybeInit → Type 0
  ShapedInitOf may no_init = Unit {0}
  ShapedInitOf may (one_init i) = (may ≡ true) × ShapedInit i

  -- `( void )` is no list of one parameter
  pub ShapedParams : ParamsShape → Type 0
  ShapedParams empty = Unit {0}
  ShapedParams void = Unit {0}
  ShapedParams (params no_decls) = ⊥
  ShapedParams (params (more_decls d rest)) = ShapedParam d × ShapedParamList rest × (kinds (param_list_form (more_decls d rest)) ≢ kind.Key k.Void ∷ [])

  pub ShapedParamList : DeclShapes → Type 0
  ShapedParamList no_decls = Unit {0}
  ShapedParamList (more_decls d rest) = ShapedParam d × ShapedParamList rest

  pub ShapedParam : DeclShape → Type 0
  ShapedParam (decl p specs no_declarators) = ⊥
  ShapedParam (decl p specs (more_declarators d no_declarators)) = SomeSpecs specs × ShapedDeclarator in_params d
  ShapedParam (decl p specs (more_declarators d (more_declarators e rest))) = ⊥

  pub ShapedInit : InitShape → Type 0
  ShapedInit (one a) = (1 ≤ level a) × Shaped a
  ShapedInit (listed p no_inits last) = ⊥
  ShapedInit (listed p (more_inits i rest) last) = ShapedInit i × ShapedInits rest

  pub ShapedInits : InitShapes → Type 0
  ShapedInits no_inits = Unit {0}
  ShapedInits (more_inits i rest) = ShapedInit i × ShapedInits rest

-- STATEMENTS

-- it doesn't end in an `if` that could take an `else` behind it (C89, 3.6.4.1)
abbrev mutual
  pub Closed : StmtShape → Type 0
  Closed (stmt p marks q f) = ClosedForm f

  pub ClosedForm : FormShape → Type 0
  ClosedForm (compound c) = Unit {0}
  ClosedForm (simply e) = Unit {0}
  ClosedForm (when e s) = ⊥
  ClosedForm (either e s t) = Closed t
  ClosedForm (while e s) = Closed s
  ClosedForm (do_while s e) = Unit {0}
  ClosedForm (for a b c s) = Closed s
  ClosedForm (switch e items) = Unit {0}
  ClosedForm break = Unit {0}
  ClosedForm continue = Unit {0}
  ClosedForm (return e) = Unit {0}

abbrev pub ShapedLabels : List LabelShape → Type 0
ShapedLabels [] = Unit {0}
ShapedLabels (case p e ∷ rest) = (2 ≤ level e) × Shaped e × ShapedLabels rest
ShapedLabels (default p ∷ rest) = ShapedLabels rest

abbrev mutual
  pub ShapedStmt : StmtShape → Type 0
  ShapedStmt (stmt p marks q f) = ShapedForm f

  pub ShapedForm : FormShape → Type 0
  ShapedForm (compound c) = ShapedCompound c
  ShapedForm (simply e) = ShapedMaybe 0 e
  ShapedForm (when e s) = Shaped e × ShapedStmt s
  ShapedForm (either e s t) = Shaped e × ShapedStmt s × Closed s × ShapedStmt t
  ShapedForm (while e s) = Shaped e × ShapedStmt s
  ShapedForm (do_while s e) = ShapedStmt s × Shaped e
  ShapedForm (for a b c s) = ShapedMaybe 0 a × ShapedMaybe 0 b × ShapedMaybe 0 c × ShapedStmt s
  ShapedForm (switch e items) = Shaped e × ShapedItems items
  ShapedForm break = Unit {0}
  ShapedForm continue = Unit {0}
  ShapedForm (return e) = ShapedMaybe 0 e

  pub ShapedCompound : CompoundShape → Type 0
  ShapedCompound (braces p ds items) = ShapedDecls in_names ds × ShapedItems items

  pub ShapedItems : ItemShapes → Type 0
  ShapedItems no_items = Unit {0}
  ShapedItems (more_items labels s rest) = ShapedLabels labels × ShapedStmt s × ShapedItems rest

-- UNITS

abbrev pub IsFunction : DeclaratorShape → Type 0
IsFunction (declarator stars n (arrays ls) i) = ⊥
IsFunction (declarator stars n (function list) i) = Unit {0}

abbrev pub ShapedExternal : ExternalShape → Type 0
ShapedExternal (defined specs d marks c) = SomeSpecs specs × IsFunction d × ShapedDeclarator in_names d × ShapedCompound c
ShapedExternal (declared d) = ShapedDecl in_names d

abbrev pub ShapedExternals : List ExternalShape → Type 0
ShapedExternals [] = Unit {0}
ShapedExternals (e ∷ rest) = ShapedExternal e × ShapedExternals rest

-- a unit that the grammar allows, of at most 400 levels
pub record ShapedUnit (u : UnitShape) : Type 0 where
  pub some : u.externals ≢ []
  pub all : ShapedExternals u.externals
  pub low : unit_height u ≤ 400
