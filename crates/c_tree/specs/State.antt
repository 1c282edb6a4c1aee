-- What the checker knows at a token, and how that changes.
use Rattle.std.specs.Prelude.{ℕ, ℤ, ◌+◌, ◌*◌, ◌-◌, ◌^◌, ◌++◌, ◌&&◌, min, List, [], ◌∷◌, length, map, slice_get, nat_eq, nat_lt, bytes_eq, Bool, true, false, not, Option, Some, None, option_map, if◌then◌else◌}
use Rattle.std.specs.Cmp.Lexicographic.{pointwise}
use Rattle.c_base.specs.declared.place.Pos.{Pos}
use Rattle.c_syntax.specs.declared.text.Text.{Text}
use Rattle.c_syntax.specs.Shape.{TypeOf, int, nothing}
use Rattle.c_type_rules.specs.Kinds.{same_type}
use Rattle.c_type_rules.specs.Layouts.{Measure, incomplete}
use Rattle.c_scopes.specs.Rows.{Scope, Scoped}
use Rattle.c_scopes.specs.Scoping.{declared, named}
use Rattle.c_tables.specs.Rows.{row, fields_in, number_from}
use Rattle.c_tables.specs.Tables.{FieldShape, StructShape, FunctionShape, VariableShape, TablesShape, changed_at, with_fields, with_definition}
use Rattle.c_tree.specs.declared.meaning.Complaint.{Complaint}
use Rattle.c_tree.specs.declared.meaning.Entity.{Entity}
use Rattle.c_tree.specs.declared.meaning.Entity.TheVariants.{Variable, Function}
use Rattle.c_tree.specs.declared.meaning.Side.{Side}
use Rattle.c_tree.specs.declared.meaning.Tag.{Tag}

-- the numbers of probes that were seen, each as it is spelled; tests and selects are one kind
pub record Seen : Type 0 where
  pub blocks : Scope ℕ
  pub tests : Scope ℕ
  pub uses : Scope ℕ
  pub defs : Scope ℕ

pub record State : Type 0 where
  -- how many tokens stand before this one
  pub at : ℕ
  pub names : Scoped Entity
  pub tags : Scoped Tag
  pub tables : TablesShape
  -- for each structure its room, and whether its member list was begun
  pub rooms : List Measure
  pub begun : List Bool
  -- the types of the parameters of the list that is read
  pub params : List TypeOf
  -- the names of the parameter list behind which a body stands
  pub listed : Scope Entity
  pub seen : Seen
  -- inside a sizeof, where a string is no object
  pub quiet : Bool
  -- where the expression stands that begins here
  pub side : Side
  -- at file scope, outside of member and parameter lists
  pub file : Bool
  -- the number of the function, or 0
  pub function : ℕ
  -- which functions count as defined, by their numbers; all, if there is no list
  pub known : Option (List Bool)
  pub complaints : List Complaint

-- ---- tokens and complaints

-- behind so many further tokens; numbers are kept up to the greatest of 32 bits
abbrev pub steps : ℕ → State → State
steps n s = record s { at = min (s.at + n) (2 ^ 32 - 1) }

abbrev pub step : State → State
step s = steps 1 s

abbrev pub complaint : ℕ → ℕ → Pos → Complaint
complaint token number p = record { token = token; number = number; pos = p }

abbrev pub complain : ℕ → ℕ → Pos → State → State
complain number token p s = record s { complaints = s.complaints ++ complaint token number p ∷ [] }

-- if the test doesn't hold
abbrev pub demand : Bool → ℕ → ℕ → Pos → State → State
demand true number token p s = s
demand false number token p s = complain number token p s

-- no complaint came between the two
abbrev pub is_clean : State → State → Bool
is_clean before after = nat_eq (length before.complaints) (length after.complaints)

-- ---- rows

abbrev pub fields_of : ℕ → State → List FieldShape
fields_of n s = fields_in (row s.tables.structures n)

-- the type of the first field with the name
abbrev pub field_type : List ℕ → List FieldShape → Option TypeOf
field_type x [] = None
field_type x (f ∷ fs) = if bytes_eq x f.name then Some f.kind else field_type x fs

abbrev pub same_types : List TypeOf → List TypeOf → Bool
same_types a b = pointwise same_type a b

-- ---- functions: one is its name and its type

abbrev pub is_function : Text → TypeOf → List TypeOf → FunctionShape → Bool
is_function x result params f = bytes_eq x f.name && (same_type result f.result && same_types params f.params)

abbrev pub function_number : Text → TypeOf → List TypeOf → List FunctionShape → Option ℕ
function_number x result params rows = number_from (is_function x result params) 1 rows

-- a number, and what is known then
pub record Numbered : Type 0 where
  pub number : ℕ
  pub state : State

abbrev pub pushed_function : Text → TypeOf → List TypeOf → State → Numbered
pushed_function x result params s = record {
  number = length s.tables.functions + 1;
  state = record s { tables = record s.tables { functions = s.tables.functions ++ record { name = x; result = result; params = params; defined = None } ∷ [] } };
}

abbrev pub numbered_or : Option ℕ → State → Numbered → Numbered
numbered_or (Some n) s other = record { number = n; state = s }
numbered_or None s other = other

-- the function is mentioned: it has a row from now on
abbrev pub mention : Text → TypeOf → List TypeOf → State → Numbered
mention x result params s = numbered_or (function_number x result params s.tables.functions) s (pushed_function x result params s)

abbrev pub is_set : Option Bool → Bool
is_set None = false
is_set (Some b) = b

-- the function counts as defined
abbrev pub counts : Option (List Bool) → ℕ → Bool
counts None n = true
counts (Some known) n = is_set (row known n)
