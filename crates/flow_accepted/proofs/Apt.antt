-- Trees without probes, in which the operands of `&` and `.` are no used places.
use Rattle.std.specs.Prelude.{◌≡◌, List, [], ◌∷◌, Bool, true, false, Option, Some, None}
use Rattle.c_syntax.specs.declared.tree.UnaryOp.{UnaryOp}
use Rattle.c_syntax.specs.declared.tree.UnaryOp.TheVariants as front
use Rattle.c_syntax.specs.Shape.{unary, before, size_of, Infix, assign, Access, dot, arrow, NodeShape, node, ExprShape, leaf, paren, call, prefix, size_of_type, cast, suffix, two, choose, probe, index, field, behind, NodeShapes, no_nodes, more_nodes, MaybeNode, no_node, one_node, DeclShape, decl, DeclShapes, no_decls, more_decls, DeclaratorShape, declarator, DeclaratorShapes, no_declarators, more_declarators, arrays, function, MaybeInit, no_init, one_init, InitShape, one, listed, StmtShape, stmt, FormShape, compound, simply, when, either, while, do_while, for, switch, break, continue, return, CompoundShape, braces, ItemShapes, no_items, more_items, ExternalShape, defined, declared}
use Rattle.c_walk.specs.declared.around.Taken.TheVariants.{Read, Addressed}
use Rattle.c_walk.specs.Places.{holds_structure}
use Rattle.flow_walks.specs.Expressions.{holds_scalar}
use Rattle.flow_calls.specs.Orderly.{is_used, is_copied}

-- ---- expressions

abbrev pub Unused : UnaryOp → NodeShape → Type 0
Unused front.AddressOf a = is_used Addressed a ≡ false
Unused u a = Unit {0}

abbrev pub Unread : Access → NodeShape → Type 0
Unread dot a = is_used Read a ≡ false
Unread arrow a = Unit {0}

-- a structure to the left of `=` is copied, and so is the one to the right; else a scalar stands there
abbrev pub CopiesApt : Infix → NodeShape → NodeShape → Type 0
CopiesApt (assign None) a b = (holds_structure a ≡ true → (is_copied a ≡ true) × (is_copied b ≡ true)) × (holds_structure a ≡ false → holds_scalar a ≡ true)
CopiesApt u a b = Unit {0}

abbrev mutual
  pub IsApt : NodeShape → Type 0
  IsApt (node p o n f) = HasAptParts f

  pub HasAptParts : ExprShape → Type 0
  HasAptParts (leaf l) = Unit {0}
  HasAptParts (paren a) = IsApt a
  HasAptParts (call x args) = AreApt args
  HasAptParts (prefix (unary u) a) = IsApt a × Unused u a
  HasAptParts (prefix (before u) a) = IsApt a
  HasAptParts (prefix size_of a) = Unit {0}
  HasAptParts (size_of_type y) = Unit {0}
  HasAptParts (cast y a) = IsApt a
  HasAptParts (suffix a (index b)) = IsApt a × IsApt b
  HasAptParts (suffix a (field h x q)) = IsApt a × Unread h a
  HasAptParts (suffix a (behind u)) = IsApt a
  HasAptParts (two u a b) = IsApt a × IsApt b × CopiesApt u a b
  HasAptParts (choose a b d) = IsApt a × IsApt b × IsApt d
  HasAptParts (probe u a) = ⊥

  pub AreApt : NodeShapes → Type 0
  AreApt no_nodes = Unit {0}
  AreApt (more_nodes a rest) = IsApt a × AreApt rest

abbrev pub IsAptMaybe : MaybeNode → Type 0
IsAptMaybe no_node = Unit {0}
IsAptMaybe (one_node a) = IsApt a

-- ---- declarations

abbrev pub IsAptInit : InitShape → Type 0
IsAptInit (one a) = IsApt a
IsAptInit (listed p items last) = Unit {0}

abbrev pub IsAptMaybeInit : MaybeInit → Type 0
IsAptMaybeInit no_init = Unit {0}
IsAptMaybeInit (one_init i) = IsAptInit i

abbrev pub IsAptDeclarator : DeclaratorShape → Type 0
IsAptDeclarator (declarator stars x (arrays ls) i) = IsAptMaybeInit i
IsAptDeclarator (declarator stars x (function ps) i) = Unit {0}

abbrev pub AreAptDeclarators : DeclaratorShapes → Type 0
AreAptDeclarators no_declarators = Unit {0}
AreAptDeclarators (more_declarators d rest) = IsAptDeclarator d × AreAptDeclarators rest

abbrev pub IsAptDecl : DeclShape → Type 0
IsAptDecl (decl p specs names) = AreAptDeclarators names

abbrev pub AreAptDecls : DeclShapes → Type 0
AreAptDecls no_decls = Unit {0}
AreAptDecls (more_decls d rest) = IsAptDecl d × AreAptDecls rest

-- ---- statements

abbrev mutual
  pub IsAptStmt : StmtShape → Type 0
  IsAptStmt (stmt p ms q f) = IsAptBody f

  pub IsAptBody : FormShape → Type 0
  IsAptBody (compound c) = IsAptCompound c
  IsAptBody (simply e) = IsAptMaybe e
  IsAptBody (when e a) = IsApt e × IsAptStmt a
  IsAptBody (either e a b) = IsApt e × IsAptStmt a × IsAptStmt b
  IsAptBody (while e a) = IsApt e × IsAptStmt a
  IsAptBody (do_while a e) = IsAptStmt a × IsApt e
  IsAptBody (for e f g a) = IsAptMaybe e × IsAptMaybe f × IsAptMaybe g × IsAptStmt a
  IsAptBody (switch e items) = IsApt e × AreAptItems items
  IsAptBody break = Unit {0}
  IsAptBody continue = Unit {0}
  IsAptBody (return e) = IsAptMaybe e

  pub IsAptCompound : CompoundShape → Type 0
  IsAptCompound (braces p ds items) = AreAptDecls ds × AreAptItems items

  pub AreAptItems : ItemShapes → Type 0
  AreAptItems no_items = Unit {0}
  AreAptItems (more_items labels a rest) = IsAptStmt a × AreAptItems rest

-- ---- programs

abbrev pub IsAptExternal : ExternalShape → Type 0
IsAptExternal (declared d) = Unit {0}
IsAptExternal (defined specs d ms c) = IsAptCompound c

abbrev pub AreAptExternals : List ExternalShape → Type 0
AreAptExternals [] = Unit {0}
AreAptExternals (e ∷ rest) = IsAptExternal e × AreAptExternals rest
