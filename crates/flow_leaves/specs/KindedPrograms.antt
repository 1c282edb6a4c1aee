-- Programs in which the notes of places have the types of the tables' rows.
use Rattle.std.specs.Prelude.{List, [], ◌∷◌}
use Rattle.c_syntax.specs.Shape.{DeclShape, decl, DeclShapes, no_decls, more_decls, DeclaratorShape, declarator, DeclaratorShapes, no_declarators, more_declarators, arrays, function, MaybeInit, no_init, one_init, InitShape, one, listed, StmtShape, stmt, FormShape, compound, simply, when, either, while, do_while, for, switch, break, continue, return, CompoundShape, braces, ItemShapes, no_items, more_items, ExternalShape, defined, declared}
use Rattle.c_tables.specs.Tables.{TablesShape}
use Rattle.flow_leaves.specs.Kinded.{IsKinded, IsKindedMaybe}

module _ (t : TablesShape) where
  -- ---- declarations

  abbrev pub IsKindedInit : InitShape → Type 0
  IsKindedInit (one a) = IsKinded t a
  IsKindedInit (listed p items last) = Unit {0}

  abbrev pub IsKindedMaybeInit : MaybeInit → Type 0
  IsKindedMaybeInit no_init = Unit {0}
  IsKindedMaybeInit (one_init i) = IsKindedInit i

  abbrev pub IsKindedDeclarator : DeclaratorShape → Type 0
  IsKindedDeclarator (declarator stars x (arrays ls) i) = IsKindedMaybeInit i
  IsKindedDeclarator (declarator stars x (function ps) i) = Unit {0}

  abbrev pub AreKindedDeclarators : DeclaratorShapes → Type 0
  AreKindedDeclarators no_declarators = Unit {0}
  AreKindedDeclarators (more_declarators d rest) = IsKindedDeclarator d × AreKindedDeclarators rest

  abbrev pub IsKindedDecl : DeclShape → Type 0
  IsKindedDecl (decl p specs names) = AreKindedDeclarators names

  abbrev pub AreKindedDecls : DeclShapes → Type 0
  AreKindedDecls no_decls = Unit {0}
  AreKindedDecls (more_decls d rest) = IsKindedDecl d × AreKindedDecls rest

  -- ---- statements

  abbrev mutual
    pub IsKindedStmt : StmtShape → Type 0
    IsKindedStmt (stmt p ms q f) = IsKindedBody f

    pub IsKindedBody : FormShape → Type 0
    IsKindedBody (compound c) = IsKindedCompound c
    IsKindedBody (simply e) = IsKindedMaybe t e
    IsKindedBody (when e a) = IsKinded t e × IsKindedStmt a
    IsKindedBody (either e a b) = IsKinded t e × IsKindedStmt a × IsKindedStmt b
    IsKindedBody (while e a) = IsKinded t e × IsKindedStmt a
    IsKindedBody (do_while a e) = IsKindedStmt a × IsKinded t e
    IsKindedBody (for e f g a) = IsKindedMaybe t e × IsKindedMaybe t f × IsKindedMaybe t g × IsKindedStmt a
    IsKindedBody (switch e items) = IsKinded t e × AreKindedItems items
    IsKindedBody break = Unit {0}
    IsKindedBody continue = Unit {0}
    IsKindedBody (return e) = IsKindedMaybe t e

    pub IsKindedCompound : CompoundShape → Type 0
    IsKindedCompound (braces p ds items) = AreKindedDecls ds × AreKindedItems items

    pub AreKindedItems : ItemShapes → Type 0
    AreKindedItems no_items = Unit {0}
    AreKindedItems (more_items labels a rest) = IsKindedStmt a × AreKindedItems rest

  -- ---- programs

  abbrev pub IsKindedExternal : ExternalShape → Type 0
  IsKindedExternal (declared d) = IsKindedDecl d
  IsKindedExternal (defined specs d ms c) = IsKindedCompound c

  abbrev pub AreKindedExternals : List ExternalShape → Type 0
  AreKindedExternals [] = Unit {0}
  AreKindedExternals (e ∷ rest) = IsKindedExternal e × AreKindedExternals rest
