-- Trees in which each name of a variable is the variable's own.
use Rattle.std.specs.Prelude.{◌≡◌, List, [], ◌∷◌, Option, Some, None}
use Rattle.c_syntax.specs.declared.text.Text.{Text}
use Rattle.c_syntax.specs.Shape.{NoteShape, bare, typed, known, Leaf, number, char, str, name, unary, before, size_of, NodeShape, node, ExprShape, leaf, paren, call, prefix, size_of_type, cast, suffix, two, choose, probe, index, field, behind, NodeShapes, no_nodes, more_nodes, MaybeNode, no_node, one_node, DeclShape, decl, DeclShapes, no_decls, more_decls, DeclaratorShape, declarator, DeclaratorShapes, no_declarators, more_declarators, arrays, function, MaybeInit, no_init, one_init, InitShape, one, listed, StmtShape, stmt, FormShape, compound, simply, when, either, while, do_while, for, switch, break, continue, return, CompoundShape, braces, ItemShapes, no_items, more_items, ExternalShape, defined, declared}
use Rattle.c_tables.specs.Tables.{VariableShape}
use Rattle.c_tables.specs.Rows.{row}

-- the name of the variable whose row is that
abbrev pub name_in : Option VariableShape → Text
name_in None = []
name_in (Some v) = v.name

-- where these are the variables
module _ (R : List VariableShape) where
  abbrev pub IsOwn : NoteShape → Text → Type 0
  IsOwn (typed t (Some n)) x = name_in (row R n) ≡ x
  IsOwn (typed t None) x = Unit {0}
  IsOwn (known t v) x = Unit {0}
  IsOwn bare x = Unit {0}

  abbrev pub IsOwnLeaf : NoteShape → Leaf → Type 0
  IsOwnLeaf n (name x) = IsOwn n x
  IsOwnLeaf n (number x) = Unit {0}
  IsOwnLeaf n (char c) = Unit {0}
  IsOwnLeaf n (str x) = Unit {0}

  abbrev mutual
    pub IsOwnNode : NodeShape → Type 0
    IsOwnNode (node p o n f) = HasOwnNames n f

    pub HasOwnNames : NoteShape → ExprShape → Type 0
    HasOwnNames n (leaf l) = IsOwnLeaf n l
    HasOwnNames n (paren a) = IsOwnNode a
    HasOwnNames n (call x args) = AreOwnNodes args
    HasOwnNames n (prefix (unary u) a) = IsOwnNode a
    HasOwnNames n (prefix (before u) a) = IsOwnNode a
    HasOwnNames n (prefix size_of a) = Unit {0}
    HasOwnNames n (size_of_type y) = Unit {0}
    HasOwnNames n (cast y a) = IsOwnNode a
    HasOwnNames n (suffix a (index b)) = IsOwnNode a × IsOwnNode b
    HasOwnNames n (suffix a (field h x q)) = IsOwnNode a
    HasOwnNames n (suffix a (behind u)) = IsOwnNode a
    HasOwnNames n (two u a b) = IsOwnNode a × IsOwnNode b
    HasOwnNames n (choose a b d) = IsOwnNode a × (IsOwnNode b × IsOwnNode d)
    HasOwnNames n (probe u a) = IsOwnNode a

    pub AreOwnNodes : NodeShapes → Type 0
    AreOwnNodes no_nodes = Unit {0}
    AreOwnNodes (more_nodes a rest) = IsOwnNode a × AreOwnNodes rest

  abbrev pub IsOwnMaybe : MaybeNode → Type 0
  IsOwnMaybe no_node = Unit {0}
  IsOwnMaybe (one_node a) = IsOwnNode a

  -- ---- declarations

  abbrev pub IsOwnInit : InitShape → Type 0
  IsOwnInit (one a) = IsOwnNode a
  IsOwnInit (listed p items last) = Unit {0}

  abbrev pub IsOwnMaybeInit : MaybeInit → Type 0
  IsOwnMaybeInit no_init = Unit {0}
  IsOwnMaybeInit (one_init i) = IsOwnInit i

  abbrev pub IsOwnDeclarator : DeclaratorShape → Type 0
  IsOwnDeclarator (declarator stars x (arrays ls) i) = IsOwnMaybeInit i
  IsOwnDeclarator (declarator stars x (function ps) i) = Unit {0}

  abbrev pub AreOwnDeclarators : DeclaratorShapes → Type 0
  AreOwnDeclarators no_declarators = Unit {0}
  AreOwnDeclarators (more_declarators d rest) = IsOwnDeclarator d × AreOwnDeclarators rest

  abbrev pub IsOwnDecl : DeclShape → Type 0
  IsOwnDecl (decl p specs names) = AreOwnDeclarators names

  abbrev pub AreOwnDecls : DeclShapes → Type 0
  AreOwnDecls no_decls = Unit {0}
  AreOwnDecls (more_decls d rest) = IsOwnDecl d × AreOwnDecls rest

  -- ---- statements

  abbrev mutual
    pub IsOwnStmt : StmtShape → Type 0
    IsOwnStmt (stmt p ms q f) = IsOwnBody f

    pub IsOwnBody : FormShape → Type 0
    IsOwnBody (compound c) = IsOwnCompound c
    IsOwnBody (simply e) = IsOwnMaybe e
    IsOwnBody (when e a) = IsOwnNode e × IsOwnStmt a
    IsOwnBody (either e a b) = IsOwnNode e × (IsOwnStmt a × IsOwnStmt b)
    IsOwnBody (while e a) = IsOwnNode e × IsOwnStmt a
    IsOwnBody (do_while a e) = IsOwnStmt a × IsOwnNode e
    IsOwnBody (for e f g a) = IsOwnMaybe e × (IsOwnMaybe f × (IsOwnMaybe g × IsOwnStmt a))
    IsOwnBody (switch e items) = IsOwnNode e × AreOwnItems items
    IsOwnBody break = Unit {0}
    IsOwnBody continue = Unit {0}
    IsOwnBody (return e) = IsOwnMaybe e

    pub IsOwnCompound : CompoundShape → Type 0
    IsOwnCompound (braces p ds items) = AreOwnDecls ds × AreOwnItems items

    pub AreOwnItems : ItemShapes → Type 0
    AreOwnItems no_items = Unit {0}
    AreOwnItems (more_items labels a rest) = IsOwnStmt a × AreOwnItems rest

  -- ---- programs

  abbrev pub IsOwnExternal : ExternalShape → Type 0
  IsOwnExternal (declared d) = Unit {0}
  IsOwnExternal (defined specs d ms c) = IsOwnCompound c

  abbrev pub AreOwnExternals : List ExternalShape → Type 0
  AreOwnExternals [] = Unit {0}
  AreOwnExternals (e ∷ rest) = IsOwnExternal e × AreOwnExternals rest
