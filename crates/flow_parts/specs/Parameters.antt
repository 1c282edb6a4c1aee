-- Programs whose parameters are integers and pointers (C89, 3.7.1; none is a structure here).
use Rattle.std.specs.Prelude.{◌≡◌, ℕ, suc, List, [], ◌∷◌, true, Option, Some, None}
use Rattle.c_syntax.specs.Shape.{TypeOf, DeclShape, decl, DeclShapes, no_decls, more_decls, DeclaratorShape, declarator, DeclaratorShapes, no_declarators, more_declarators, DeclFormShape, empty, void, params, arrays, function, ExternalShape, defined, declared}
use Rattle.c_type_rules.specs.Kinds.{is_scalar}
use Rattle.c_tables.specs.Tables.{TablesShape}
use Rattle.c_tables.specs.Rows.{text_of}
use Rattle.c_walk.specs.Walked.{Walked}
use Rattle.c_walk.specs.Units.{function_of, define_declarator, define_decl, walk_external}
use Rattle.c_meaning.specs.Layout.{variable_kind}

-- a type that is there is scalar
abbrev pub IsScalarKind : Option TypeOf → Type 0
IsScalarKind None = Unit {0}
IsScalarKind (Some k) = is_scalar k ≡ true

module _ (t : TablesShape) where
  -- of the variables behind those that were counted
  abbrev pub IsScalarParam : DeclaratorShape → Walked → Type 0
  IsScalarParam (declarator stars x (arrays ls) i) w = IsScalarKind (variable_kind t (suc w.variables))
  IsScalarParam (declarator stars x (function ps) i) w = Unit {0}

  abbrev pub AreScalarParams : ℕ → DeclaratorShapes → Walked → Type 0
  AreScalarParams f no_declarators w = Unit {0}
  AreScalarParams f (more_declarators d rest) w = IsScalarParam d w × AreScalarParams f rest (define_declarator t f d w)

  abbrev pub IsScalarLine : ℕ → DeclShape → Walked → Type 0
  IsScalarLine f (decl p specs names) w = AreScalarParams f names w

  abbrev pub AreScalarLines : ℕ → DeclShapes → Walked → Type 0
  AreScalarLines f no_decls w = Unit {0}
  AreScalarLines f (more_decls d rest) w = IsScalarLine f d w × AreScalarLines f rest (define_decl t f d w)

  abbrev pub HasScalarParameters : ℕ → DeclFormShape → Walked → Type 0
  HasScalarParameters f (function (params ds)) w = AreScalarLines f ds w
  HasScalarParameters f (function empty) w = Unit {0}
  HasScalarParameters f (function void) w = Unit {0}
  HasScalarParameters f (arrays ls) w = Unit {0}

  abbrev pub AreScalarParameters : List ExternalShape → Walked → Type 0
  AreScalarParameters [] w = Unit {0}
  AreScalarParameters (declared d ∷ rest) w = AreScalarParameters rest (walk_external t (declared d) w)
  AreScalarParameters (defined specs (declarator stars x d i) ms a ∷ rest) w =
      HasScalarParameters (function_of t (text_of x)) d w × AreScalarParameters rest (walk_external t (defined specs (declarator stars x d i) ms a) w)
