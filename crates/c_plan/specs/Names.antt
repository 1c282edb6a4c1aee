-- The declarators of declarations, one behind the other.
use Rattle.c_syntax.specs.Shape.{DeclShape, decl, DeclShapes, no_decls, more_decls, DeclaratorShapes, no_declarators, more_declarators}

abbrev pub joined : DeclaratorShapes → DeclaratorShapes → DeclaratorShapes
joined no_declarators others = others
joined (more_declarators d rest) others = more_declarators d (joined rest others)

abbrev pub names_in : DeclShape → DeclaratorShapes
names_in (decl p specs names) = names

abbrev pub names_of : DeclShapes → DeclaratorShapes
names_of no_decls = no_declarators
names_of (more_decls d rest) = joined (names_in d) (names_of rest)
