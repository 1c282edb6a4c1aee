-- Where the functions of a program stand.
use Rattle.std.specs.Prelude.{◌≡◌, ℕ, ◌+◌, List, [], ◌∷◌, nat_eq, get_or, slice_get, Option, Some, None, if◌then◌else◌}
use Rattle.c_syntax.specs.Shape.{declarator, ExternalShape, defined, declared}
use Rattle.c_syntax.specs.View.{decl_form_shape, compound_shape, unit_shape}
use Rattle.c_tree.specs.declared.program.Program.{Program}
use Rattle.c_tables.specs.Tables.{TablesShape, tables_shape}
use Rattle.c_tables.specs.Rows.{text_of}
use Rattle.c_walk.specs.Units.{function_of}
use Rattle.c_meaning.specs.Firsts.{quiet}
use Rattle.c_meaning.specs.Counts.{external_variables}
use Rattle.c_meaning.specs.Calls.{Source, Routine}
use Rattle.c_plan.specs.declared.routines.Routine as code
use Rattle.c_plan.specs.declared.routines.Row.{Row}

-- the code's routine as the definition's, in a silent run
abbrev pub routine_of : code.Routine → Routine
routine_of r = record { params = decl_form_shape r.params.now; marks = r.marks.now; body = compound_shape r.body.now; first = quiet r.before }

-- the function that an external declaration defines, behind so many variables
abbrev pub external_routine : ExternalShape → ℕ → Option Routine
external_routine (declared d) n = None
external_routine (defined specs (declarator stars x d e) ms c) n = Some (record { params = d; marks = ms; body = c; first = quiet n })

-- the row, where the external declaration defines the function of that number
abbrev pub own_row : TablesShape → ℕ → ExternalShape → Row → Option Row
own_row t f (declared d) r = None
own_row t f (defined specs (declarator stars x d e) ms c) r = if nat_eq (function_of t (text_of x)) f then Some r else None

-- the first of these rows, or the other
abbrev pub row_or : Option Row → Option Row → Option Row
row_or (Some r) other = Some r
row_or None other = other

-- where the function of that number stands among external declarations of which the first has that index, behind so many variables
abbrev pub row_from : TablesShape → ℕ → ℕ → ℕ → List ExternalShape → Option Row
row_from t f k n [] = None
row_from t f k n (e ∷ rest) = row_or (own_row t f e (record { index = k; before = n })) (row_from t f (k + 1) (n + external_variables e) rest)

-- the table has each function of the program
abbrev pub IsRouted : Source → List (Option Row) → Type 0
IsRouted P rows = (f : ℕ) → get_or rows f None ≡ row_from P.tables f 0 0 P.unit.externals

-- the function at a row
abbrev pub found_routine : Option ExternalShape → ℕ → Option Routine
found_routine None n = None
found_routine (Some e) n = external_routine e n

abbrev pub row_routine : List ExternalShape → Option Row → Option Routine
row_routine es None = None
row_routine es (Some r) = found_routine (slice_get es r.index) r.before
