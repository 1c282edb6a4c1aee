-- The shapes of the tables: the same rows in the same order, wherever they lie in memory. Each list is numbered from 1.
use Rattle.std.specs.Prelude.{ℕ, zero, suc, ◌-◌, List, [], ◌∷◌, Option, Some, map}
use Rattle.c_syntax.specs.declared.text.Text.{Text}
use Rattle.c_syntax.specs.Shape.{TypeOf}
use Rattle.c_syntax.specs.View.{type_of}
use Rattle.c_tables.specs.declared.tables.FieldRow.{FieldRow}
use Rattle.c_tables.specs.declared.tables.StructRow.{StructRow}
use Rattle.c_tables.specs.declared.tables.FunctionRow.{FunctionRow}
use Rattle.c_tables.specs.declared.tables.VariableRow.{VariableRow}
use Rattle.c_tables.specs.declared.tables.LiteralRow.{LiteralRow}
use Rattle.c_tables.specs.declared.tables.Tables as tables

-- ---- rows

pub record FieldShape : Type 0 where
  pub name : Text
  pub kind : TypeOf

pub record StructShape : Type 0 where
  pub tag : Option Text
  pub fields : List FieldShape

-- a defined function has the numbers of its parameters' variables
pub record FunctionShape : Type 0 where
  pub name : Text
  pub result : TypeOf
  pub params : List TypeOf
  pub defined : Option (List ℕ)

-- the number is that of the function that declares it, or 0
pub record VariableShape : Type 0 where
  pub name : Text
  pub kind : TypeOf
  pub function : ℕ

pub record TablesShape : Type 0 where
  pub structures : List StructShape
  pub functions : List FunctionShape
  pub variables : List VariableShape
  pub literals : List Text

abbrev pub field_shape : FieldRow → FieldShape
field_shape f = record { name = f.name; kind = type_of f.kind }

abbrev pub struct_shape : StructRow → StructShape
struct_shape s = record { tag = s.tag; fields = map field_shape s.fields.items }

abbrev pub function_shape : FunctionRow → FunctionShape
function_shape f = record { name = f.name; result = type_of f.result; params = map type_of f.params.items; defined = f.defined }

abbrev pub variable_shape : VariableRow → VariableShape
variable_shape v = record { name = v.name; kind = type_of v.kind; function = v.function }

abbrev pub literal_shape : LiteralRow → Text
literal_shape l = l.bytes

abbrev pub tables_shape : tables.Tables → TablesShape
tables_shape t = record {
  structures = map struct_shape t.structures.items;
  functions = map function_shape t.functions.items;
  variables = map variable_shape t.variables.items;
  literals = map literal_shape t.literals.items;
}

-- ---- changes in place

-- the row at an index, counted from 0, is changed; all others stay
abbrev pub changed_at : {R : Type 0} → (R → R) → ℕ → List R → List R
changed_at f i [] = []
changed_at f zero (r ∷ rows) = f r ∷ rows
changed_at f (suc i) (r ∷ rows) = r ∷ changed_at f i rows

-- the structure with that number has these members
abbrev pub with_fields : ℕ → List FieldShape → TablesShape → TablesShape
with_fields i fields t = record t { structures = changed_at (λ s. record s { fields = fields }) (i - 1) t.structures }

-- the function with that number is defined, with these variables as its parameters
abbrev pub with_definition : ℕ → List ℕ → TablesShape → TablesShape
with_definition i params t = record t { functions = changed_at (λ f. record f { defined = Some params }) (i - 1) t.functions }
