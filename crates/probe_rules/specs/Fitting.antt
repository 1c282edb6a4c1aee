-- What the checker sees to in a program: what is written is a place, what is changed is a place of a scalar, what is copied is a place of a
-- structure, the name of a scalar is that of a variable or has its value in its note, and what is defined at its name has one.
use Rattle.std.specs.Prelude.{◌≡◌, ℕ, ◌≤◌, List, [], ◌∷◌, Bool, true, false, Option, Some, None}
use Rattle.c_syntax.specs.declared.tree.Named.{Named}
use Rattle.c_syntax.specs.Shape.{TypeOf, NoteShape, bare, typed, known, Leaf, number, char, str, name, unary, before, size_of, plain, and, or, assign, comma, NodeShape, node, ExprShape, leaf, paren, call, prefix, size_of_type, cast, suffix, two, choose, probe, index, field, behind, NodeShapes, no_nodes, more_nodes, MaybeNode, no_node, one_node, DeclShape, decl, DeclShapes, no_decls, more_decls, DeclaratorShape, declarator, DeclaratorShapes, no_declarators, more_declarators, DeclFormShape, arrays, function, ParamsShape, empty, void, params, MaybeInit, no_init, one_init, InitShape, one, listed, LabelShape, case, default, StmtShape, stmt, FormShape, compound, simply, when, either, while, do_while, for, switch, break, continue, return, CompoundShape, braces, ItemShapes, no_items, more_items, ExternalShape, defined, declared, UnitShape}
use Rattle.c_type_rules.specs.Kinds.{is_scalar}
use Rattle.c_walk.specs.declared.around.Taken.{Taken}
use Rattle.c_walk.specs.declared.around.Taken.TheVariants.{Read, Written, Changed, Copied, Addressed}
use Rattle.c_walk.specs.Places.{is_place, has_scalar, has_structure}
use Rattle.c_walk.specs.Walked.{Walked, operand_taken, left_taken, right_taken}
use Rattle.c_walk.specs.Counted.{block_count, def_count, use_count}

-- ---- expressions

-- a place or none, with that note, may be taken so
abbrev pub MayBe : Taken → Bool → NoteShape → Type 0
MayBe Read place n = Unit {0}
MayBe Addressed place n = Unit {0}
MayBe Written place n = place ≡ true
MayBe Changed place n = (place ≡ true) × (has_scalar n ≡ true)
MayBe Copied place n = (place ≡ true) × (has_structure n ≡ true)

-- parentheses are looked through
abbrev pub Suits : Taken → NoteShape → ExprShape → Type 0
Suits r n (paren a) = Unit {0}
Suits r n f = MayBe r (is_place f) n

abbrev pub HasVariable : TypeOf → Option ℕ → Type 0
HasVariable t (Some v) = Unit {0}
HasVariable t None = is_scalar t ≡ false

abbrev pub IsName : NoteShape → Type 0
IsName (typed t n) = HasVariable t n
IsName (known t v) = Unit {0}
IsName bare = Unit {0}

abbrev pub IsFitLeaf : NoteShape → Leaf → Type 0
IsFitLeaf n (name x) = IsName n
IsFitLeaf n (number x) = Unit {0}
IsFitLeaf n (char c) = Unit {0}
IsFitLeaf n (str x) = Unit {0}

abbrev mutual
  -- an expression that is taken so
  pub IsFit : Taken → NodeShape → Type 0
  IsFit r (node p o n f) = Suits r n f × HasFitParts r n f

  pub HasFitParts : Taken → NoteShape → ExprShape → Type 0
  HasFitParts r n (leaf l) = IsFitLeaf n l
  HasFitParts r n (paren a) = IsFit r a
  HasFitParts r n (call x args) = AreFit args
  HasFitParts r n (prefix (unary u) a) = IsFit (operand_taken u) a
  HasFitParts r n (prefix (before u) a) = IsFit Changed a
  HasFitParts r n (prefix size_of a) = Unit {0}
  HasFitParts r n (size_of_type t) = Unit {0}
  HasFitParts r n (cast t a) = IsFit Read a
  HasFitParts r n (suffix a (index b)) = IsFit Read a × IsFit Read b
  HasFitParts r n (suffix a (field h x q)) = IsFit Read a
  HasFitParts r n (suffix a (behind u)) = IsFit Changed a
  HasFitParts r n (two (assign u) a b) = IsFit (left_taken u) a × IsFit (right_taken u a) b
  HasFitParts r n (two (plain u) a b) = IsFit Read a × IsFit Read b
  HasFitParts r n (two and a b) = IsFit Read a × IsFit Read b
  HasFitParts r n (two or a b) = IsFit Read a × IsFit Read b
  HasFitParts r n (two comma a b) = IsFit Read a × IsFit Read b
  HasFitParts r n (choose a b c) = IsFit Read a × IsFit Read b × IsFit Read c
  HasFitParts r n (probe u a) = Unit {0}

  pub AreFit : NodeShapes → Type 0
  AreFit no_nodes = Unit {0}
  AreFit (more_nodes a rest) = IsFit Read a × AreFit rest

abbrev pub IsFitMaybe : MaybeNode → Type 0
IsFitMaybe no_node = Unit {0}
IsFitMaybe (one_node a) = IsFit Read a

-- ---- declarations

abbrev pub IsNamed : Option Named → Type 0
IsNamed None = ⊥
IsNamed (Some x) = Unit {0}

abbrev pub IsFitInit : InitShape → Type 0
IsFitInit (one a) = IsFit Read a
IsFitInit (listed p items last) = Unit {0}

abbrev pub IsFitVariable : Option Named → MaybeInit → Type 0
IsFitVariable x no_init = Unit {0}
IsFitVariable x (one_init i) = IsNamed x × IsFitInit i

abbrev pub IsFitDeclarator : DeclaratorShape → Type 0
IsFitDeclarator (declarator stars x (arrays ls) i) = IsFitVariable x i
IsFitDeclarator (declarator stars x (function ps) i) = Unit {0}

abbrev pub AreFitDeclarators : DeclaratorShapes → Type 0
AreFitDeclarators no_declarators = Unit {0}
AreFitDeclarators (more_declarators d rest) = IsFitDeclarator d × AreFitDeclarators rest

abbrev pub IsFitDecl : DeclShape → Type 0
IsFitDecl (decl p specs names) = AreFitDeclarators names

abbrev pub AreFitDecls : DeclShapes → Type 0
AreFitDecls no_decls = Unit {0}
AreFitDecls (more_decls d rest) = IsFitDecl d × AreFitDecls rest

-- of file scope, and of parameters: each variable is defined there
abbrev pub IsDefined : DeclaratorShape → Type 0
IsDefined (declarator stars x (arrays ls) i) = IsNamed x
IsDefined (declarator stars x (function ps) i) = Unit {0}

abbrev pub AreDefined : DeclaratorShapes → Type 0
AreDefined no_declarators = Unit {0}
AreDefined (more_declarators d rest) = IsDefined d × AreDefined rest

abbrev pub IsDefining : DeclShape → Type 0
IsDefining (decl p specs names) = AreDefined names

abbrev pub AreDefining : DeclShapes → Type 0
AreDefining no_decls = Unit {0}
AreDefining (more_decls d rest) = IsDefining d × AreDefining rest

abbrev pub AreFitParams : ParamsShape → Type 0
AreFitParams (params ds) = AreDefining ds
AreFitParams empty = Unit {0}
AreFitParams void = Unit {0}

abbrev pub IsFitSignature : DeclFormShape → Type 0
IsFitSignature (function ps) = AreFitParams ps
IsFitSignature (arrays ls) = Unit {0}

-- ---- statements

abbrev pub AreFitLabels : List LabelShape → Type 0
AreFitLabels [] = Unit {0}
AreFitLabels (case p a ∷ labels) = IsFit Read a × AreFitLabels labels
AreFitLabels (default p ∷ labels) = AreFitLabels labels

abbrev mutual
  pub IsFitStmt : StmtShape → Type 0
  IsFitStmt (stmt p ms q f) = IsFitBody f

  pub IsFitBody : FormShape → Type 0
  IsFitBody (compound c) = IsFitCompound c
  IsFitBody (simply e) = IsFitMaybe e
  IsFitBody (when e a) = IsFit Read e × IsFitStmt a
  IsFitBody (either e a b) = IsFit Read e × IsFitStmt a × IsFitStmt b
  IsFitBody (while e a) = IsFit Read e × IsFitStmt a
  IsFitBody (do_while a e) = IsFitStmt a × IsFit Read e
  IsFitBody (for e f g a) = IsFitMaybe e × IsFitMaybe f × IsFitMaybe g × IsFitStmt a
  IsFitBody (switch e items) = IsFit Read e × AreFitItems items
  IsFitBody break = Unit {0}
  IsFitBody continue = Unit {0}
  IsFitBody (return e) = IsFitMaybe e

  pub IsFitCompound : CompoundShape → Type 0
  IsFitCompound (braces p ds items) = AreFitDecls ds × AreFitItems items

  pub AreFitItems : ItemShapes → Type 0
  AreFitItems no_items = Unit {0}
  AreFitItems (more_items labels a rest) = AreFitLabels labels × IsFitStmt a × AreFitItems rest

-- ---- programs

abbrev pub IsFitFunction : DeclaratorShape → CompoundShape → Type 0
IsFitFunction (declarator stars x d i) c = IsFitSignature d × IsFitCompound c

abbrev pub IsFitExternal : ExternalShape → Type 0
IsFitExternal (declared d) = IsDefining d
IsFitExternal (defined specs d ms c) = IsFitFunction d c

abbrev pub AreFitExternals : List ExternalShape → Type 0
AreFitExternals [] = Unit {0}
AreFitExternals (e ∷ rest) = IsFitExternal e × AreFitExternals rest

abbrev pub IsFitUnit : UnitShape → Type 0
IsFitUnit u = AreFitExternals u.externals

-- ---- numbers

-- no more items of a kind are counted than probes may have numbers
pub record HasFewItems (w : Walked) : Type 0 where
  pub blocks : block_count w.items ≤ 16383
  pub decisions : w.decisions ≤ 16383
  pub defs : def_count w.items ≤ 16383
  pub uses : use_count w.items ≤ 16383
