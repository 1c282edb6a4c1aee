-- The cells of a worked object, by their names, and the parts that these cells are.
use Rattle.std.proofs.Common.{◌≡◌, List, [], ◌∷◌, ◌++◌, refl, arith, None}
use Rattle.c_base.specs.declared.place.IntKind.TheVariants.{Int}
use Rattle.c_syntax.specs.declared.text.Text.{Text}
use Rattle.c_syntax.specs.Shape.{int, array, structure}
use Rattle.c_tables.specs.Tables.{TablesShape}
use Rattle.flow_leaves.specs.Parts.{IsPart, itself, element, member}
use Rattle.flow_leaves.specs.CellNames.{cell_names}

abbrev a_text : Text
a_text = 97 ∷ []

abbrev b_text : Text
b_text = 98 ∷ []

abbrev x_text : Text
x_text = 120 ∷ []

-- struct { int a; int b[2]; }
abbrev tables : TablesShape
tables = record {
  structures = record { tag = None; fields = record { name = a_text; kind = int Int } ∷ record { name = b_text; kind = array (int Int) 2 } ∷ [] } ∷ [];
  functions = [];
  variables = [];
  literals = [];
}

-- x[].a, x[].b[] and x[].b[]
abbrev once : List Text
once = (120 ∷ 91 ∷ 93 ∷ 46 ∷ 97 ∷ []) ∷ (120 ∷ 91 ∷ 93 ∷ 46 ∷ 98 ∷ 91 ∷ 93 ∷ []) ∷ (120 ∷ 91 ∷ 93 ∷ 46 ∷ 98 ∷ 91 ∷ 93 ∷ []) ∷ []

-- of two such structures in an array x
named_twice : cell_names tables x_text (array (structure 1) 2) ≡ once ++ once
named_twice = refl

-- x[1].b[1] is the cell 5
fifth : IsPart tables (array (structure 1) 2) x_text 5 (int Int) (120 ∷ 91 ∷ 93 ∷ 46 ∷ 98 ∷ 91 ∷ 93 ∷ [])
fifth = element 4 2 1 (int Int) (120 ∷ 91 ∷ 93 ∷ 46 ∷ 98 ∷ []) (member 3 1 (120 ∷ 91 ∷ 93 ∷ []) b_text (record { offset = 1; kind = array (int Int) 2 }) (element 0 2 1 (structure 1) x_text itself (omega arith)) refl) (omega arith)
