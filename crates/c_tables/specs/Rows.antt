-- Rows by their numbers, counted from 1, and the names of what stands in them.
use Rattle.std.specs.Prelude.{ℕ, ◌+◌, ◌-◌, List, [], ◌∷◌, slice_get, nat_eq, bytes_eq, Bool, Option, Some, None, if◌then◌else◌}
use Rattle.c_base.specs.declared.place.Pos.{Pos}
use Rattle.c_syntax.specs.declared.text.Text.{Text}
use Rattle.c_syntax.specs.declared.tree.Named.{Named}
use Rattle.c_tables.specs.Tables.{FieldShape, StructShape, FunctionShape}

-- the place of what stands nowhere
abbrev pub first_place : Pos
first_place = record { line = 1; col = 1 }

-- ---- rows, which are numbered from 1

abbrev pub row : {R : Type 0} → List R → ℕ → Option R
row rows n = if nat_eq n 0 then None else slice_get rows (n - 1)

abbrev pub fields_in : Option StructShape → List FieldShape
fields_in None = []
fields_in (Some r) = r.fields

-- the number of the first row for which the test holds, the first row having this number
abbrev pub number_from : {R : Type 0} → (R → Bool) → ℕ → List R → Option ℕ
number_from test n [] = None
number_from test n (r ∷ rows) = if test r then Some n else number_from test (n + 1) rows

-- the first function of that name
abbrev pub has_name : Text → FunctionShape → Bool
has_name x f = bytes_eq x f.name

abbrev pub first_named : Text → List FunctionShape → Option ℕ
first_named x rows = number_from (has_name x) 1 rows

-- ---- names that may be left out

abbrev pub text_of : Option Named → Text
text_of None = []
text_of (Some x) = x.text

abbrev pub name_pos : Pos → Option Named → Pos
name_pos p None = p
name_pos p (Some x) = x.pos
