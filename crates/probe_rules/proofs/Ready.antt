-- What the runs are compared under: no probe stands in a program, and each part of it fits where it stands.
use Rattle.std.specs.Prelude.{List, [], ◌∷◌, Option, Some, None}
use Rattle.c_syntax.specs.declared.tree.Named.{Named}
use Rattle.c_syntax.specs.declared.tree.ProbeMark.{ProbeMark}
use Rattle.c_syntax.specs.Shape.{NoteShape, unary, before, size_of, plain, and, or, assign, comma, NodeShape, node, ExprShape, leaf, paren, call, prefix, size_of_type, cast, suffix, two, choose, probe, index, field, behind, NodeShapes, no_nodes, more_nodes, MaybeNode, no_node, one_node, DeclShape, decl, DeclShapes, no_decls, more_decls, DeclaratorShape, declarator, DeclaratorShapes, no_declarators, more_declarators, DeclFormShape, arrays, function, ParamsShape, empty, void, params, MaybeInit, no_init, one_init, InitShape, one, listed, LabelShape, case, default, StmtShape, stmt, FormShape, compound, simply, when, either, while, do_while, for, switch, break, continue, return, CompoundShape, braces, ItemShapes, no_items, more_items, ExternalShape, defined, declared, UnitShape}
use Rattle.c_walk.specs.declared.around.Taken.{Taken}
use Rattle.c_walk.specs.declared.around.Taken.TheVariants.{Read, Changed}
use Rattle.c_walk.specs.Walked.{operand_taken, left_taken, right_taken}
use Rattle.probe_rules.specs.Fitting.{Suits, IsFitLeaf}

-- ---- expressions

abbrev mutual
  -- an expression that is taken so
  pub IsReady : Taken → NodeShape → Type 0
  IsReady r (node p o n f) = Suits r n f × HasReadyParts r n f

  pub HasReadyParts : Taken → NoteShape → ExprShape → Type 0
  HasReadyParts r n (leaf l) = IsFitLeaf n l
  HasReadyParts r n (paren a) = IsReady r a
  HasReadyParts r n (call x args) = AreReady args
  HasReadyParts r n (prefix (unary u) a) = IsReady (operand_taken u) a
  HasReadyParts r n (prefix (before u) a) = IsReady Changed a
  HasReadyParts r n (prefix size_of a) = Unit {0}
  HasReadyParts r n (size_of_type t) = Unit {0}
  HasReadyParts r n (cast t a) = IsReady Read a
  HasReadyParts r n (suffix a (index b)) = IsReady Read a × IsReady Read b
  HasReadyParts r n (suffix a (field h x q)) = IsReady Read a
  HasReadyParts r n (suffix a (behind u)) = IsReady Changed a
  HasReadyParts r n (two (assign u) a b) = IsReady (left_taken u) a × IsReady (right_taken u a) b
  HasReadyParts r n (two (plain u) a b) = IsReady Read a × IsReady Read b
  HasReadyParts r n (two and a b) = IsReady Read a × IsReady Read b
  HasReadyParts r n (two or a b) = IsReady Read a × IsReady Read b
  HasReadyParts r n (two comma a b) = IsReady Read a × IsReady Read b
  HasReadyParts r n (choose a b c) = IsReady Read a × IsReady Read b × IsReady Read c
  HasReadyParts r n (probe u a) = ⊥

  pub AreReady : NodeShapes → Type 0
  AreReady no_nodes = Unit {0}
  AreReady (more_nodes a rest) = IsReady Read a × AreReady rest

abbrev pub IsReadyMaybe : MaybeNode → Type 0
IsReadyMaybe no_node = Unit {0}
IsReadyMaybe (one_node a) = IsReady Read a

-- ---- declarations

abbrev pub HasNoProbe : Option ProbeMark → Type 0
HasNoProbe None = Unit {0}
HasNoProbe (Some m) = ⊥

-- a declared name without a probe
abbrev pub IsNamed : Option Named → Type 0
IsNamed None = ⊥
IsNamed (Some x) = HasNoProbe x.probe

abbrev pub IsReadyInit : InitShape → Type 0
IsReadyInit (one a) = IsReady Read a
IsReadyInit (listed p items last) = Unit {0}

abbrev pub IsReadyVariable : Option Named → MaybeInit → Type 0
IsReadyVariable x no_init = Unit {0}
IsReadyVariable x (one_init i) = IsNamed x × IsReadyInit i

abbrev pub IsReadyDeclarator : DeclaratorShape → Type 0
IsReadyDeclarator (declarator stars x (arrays ls) i) = IsReadyVariable x i
IsReadyDeclarator (declarator stars x (function ps) i) = Unit {0}

abbrev pub AreReadyDeclarators : DeclaratorShapes → Type 0
AreReadyDeclarators no_declarators = Unit {0}
AreReadyDeclarators (more_declarators d rest) = IsReadyDeclarator d × AreReadyDeclarators rest

abbrev pub IsReadyDecl : DeclShape → Type 0
IsReadyDecl (decl p specs names) = AreReadyDeclarators names

abbrev pub AreReadyDecls : DeclShapes → Type 0
AreReadyDecls no_decls = Unit {0}
AreReadyDecls (more_decls d rest) = IsReadyDecl d × AreReadyDecls rest

-- of file scope, and of parameters: each variable is defined there
abbrev pub IsDefined : DeclaratorShape → Type 0
IsDefined (declarator stars x (arrays ls) i) = IsNamed x
IsDefined (declarator stars x (function ps) i) = Unit {0}

abbrev pub AreDefined : DeclaratorShapes → Type 0
AreDefined no_declarators = Unit {0}
AreDefined (more_declarators d rest) = IsDefined d × AreDefined rest

abbrev pub IsDefining : DeclShape → Type 0
IsDefining (decl p specs names) = AreDefined names

abbrev pub AreDefining : DeclShapes → Type 0
AreDefining no_decls = Unit {0}
AreDefining (more_decls d rest) = IsDefining d × AreDefining rest

abbrev pub AreReadyParams : ParamsShape → Type 0
AreReadyParams (params ds) = AreDefining ds
AreReadyParams empty = Unit {0}
AreReadyParams void = Unit {0}

abbrev pub IsReadySignature : DeclFormShape → Type 0
IsReadySignature (function ps) = AreReadyParams ps
IsReadySignature (arrays ls) = Unit {0}

-- ---- statements

abbrev pub HasNoMarks : List ProbeMark → Type 0
HasNoMarks [] = Unit {0}
HasNoMarks (m ∷ ms) = ⊥

abbrev pub AreReadyLabels : List LabelShape → Type 0
AreReadyLabels [] = Unit {0}
AreReadyLabels (case p a ∷ labels) = IsReady Read a × AreReadyLabels labels
AreReadyLabels (default p ∷ labels) = AreReadyLabels labels

abbrev mutual
  pub IsReadyStmt : StmtShape → Type 0
  IsReadyStmt (stmt p ms q f) = HasNoMarks ms × IsReadyBody f

  pub IsReadyBody : FormShape → Type 0
  IsReadyBody (compound c) = IsReadyCompound c
  IsReadyBody (simply e) = IsReadyMaybe e
  IsReadyBody (when e a) = IsReady Read e × IsReadyStmt a
  IsReadyBody (either e a b) = IsReady Read e × IsReadyStmt a × IsReadyStmt b
  IsReadyBody (while e a) = IsReady Read e × IsReadyStmt a
  IsReadyBody (do_while a e) = IsReadyStmt a × IsReady Read e
  IsReadyBody (for e f g a) = IsReadyMaybe e × IsReadyMaybe f × IsReadyMaybe g × IsReadyStmt a
  IsReadyBody (switch e items) = IsReady Read e × AreReadyItems items
  IsReadyBody break = Unit {0}
  IsReadyBody continue = Unit {0}
  IsReadyBody (return e) = IsReadyMaybe e

  pub IsReadyCompound : CompoundShape → Type 0
  IsReadyCompound (braces p ds items) = AreReadyDecls ds × AreReadyItems items

  pub AreReadyItems : ItemShapes → Type 0
  AreReadyItems no_items = Unit {0}
  AreReadyItems (more_items labels a rest) = AreReadyLabels labels × IsReadyStmt a × AreReadyItems rest

-- ---- programs

abbrev pub IsReadyFunction : DeclaratorShape → List ProbeMark → CompoundShape → Type 0
IsReadyFunction (declarator stars x d i) ms c = IsReadySignature d × HasNoMarks ms × IsReadyCompound c

abbrev pub IsReadyExternal : ExternalShape → Type 0
IsReadyExternal (declared d) = IsDefining d
IsReadyExternal (defined specs d ms c) = IsReadyFunction d ms c

abbrev pub AreReadyExternals : List ExternalShape → Type 0
AreReadyExternals [] = Unit {0}
AreReadyExternals (e ∷ rest) = IsReadyExternal e × AreReadyExternals rest

abbrev pub IsReadyUnit : UnitShape → Type 0
IsReadyUnit u = AreReadyExternals u.externals
