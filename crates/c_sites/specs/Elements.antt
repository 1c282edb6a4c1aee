-- A type through its arrays.
use Rattle.std.specs.Prelude.{◌++◌, List, [], ◌∷◌}
use Rattle.c_syntax.specs.declared.text.Text.{Text}
use Rattle.c_syntax.specs.Shape.{TypeOf, int, pointer, array, structure}
use Rattle.c_tables.specs.Tables.{StructShape}
use Rattle.c_tables.specs.Rows.{row, fields_in}
use Rattle.c_walk.specs.Places.{element_text}
use Rattle.c_sites.specs.Names.{field_leaves}

-- what its elements are, where it is an array, one in another
abbrev pub element : TypeOf → TypeOf
element (array t n) = element t
element t = t

-- the name of such an element of what has that name
abbrev pub elements_text : Text → TypeOf → Text
elements_text x (array t n) = elements_text (x ++ element_text) t
elements_text x t = x

-- the leaf names of what has that name and a type that is no array, where those of a field are these
abbrev pub element_leaves : (Text → TypeOf → List Text) → List StructShape → Text → TypeOf → List Text
element_leaves inner rows x (int k) = x ∷ []
element_leaves inner rows x (pointer t) = x ∷ []
element_leaves inner rows x (structure n) = field_leaves inner x (fields_in (row rows n))
element_leaves inner rows x _ = []
