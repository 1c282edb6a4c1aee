-- Calls, and the functions that every program has (C89, 4.9.7.6, 4.9.7.9, 4.10.4.3).
use Rattle.std.specs.Prelude.{ℕ, ℤ, pos, negsuc, ◌++◌, List, [], ◌∷◌, bytes_eq, unsigned_abs, Option, Some, None, is_some, if◌then◌else◌}
use Rattle.std.specs.Int.{int_rem_euclid}
use Rattle.c_base.specs.declared.place.IntKind.TheVariants.{Int as AnInt}
use Rattle.c_arith.specs.Arith.{wrap}
use Rattle.c_syntax.specs.declared.text.Text.{Text}
use Rattle.c_syntax.specs.Shape.{TypeOf, NoteShape, typed}
use Rattle.c_store.specs.declared.value.Value.{Value}
use Rattle.c_store.specs.declared.value.Value.TheVariants.{Int}
use Rattle.c_tables.specs.Tables.{FunctionShape, TablesShape}
use Rattle.c_tables.specs.Rows.{row}
use Rattle.c_tables.specs.Builtins.{builtin_name}
use Rattle.c_tables.specs.declared.builtins.Builtin.TheVariants.{GetChar, PutChar, Exit}
use Rattle.c_meaning.specs.declared.end.Stop.TheVariants as stop
use Rattle.c_meaning.specs.State.{State}
use Rattle.c_meaning.specs.Results.{Got, Gives, Stops, untyped}
use Rattle.c_meaning.specs.Operators.{converted}
use Rattle.c_meaning.specs.Knot.{Knot}

-- ---- getchar, putchar, exit

-- the next byte of the input, or -1 at its end
abbrev pub next_byte : List ℕ → State → Got (Option Value)
next_byte [] s = Gives (Some (Int (negsuc 0))) s
next_byte (b ∷ bs) s = Gives (Some (Int (pos b))) (record s { input = bs })

-- the value modulo 256, as an unsigned char
abbrev pub byte_of : ℤ → ℕ
byte_of z = unsigned_abs (int_rem_euclid z (pos 256))

abbrev pub put_byte : List Value → State → Got (Option Value)
put_byte (Int z ∷ []) s = Gives (Some (Int (pos (byte_of z)))) (record s { output = s.output ++ byte_of z ∷ [] })
put_byte vs s = untyped s

-- the status is an int
abbrev pub exits : List Value → State → Got (Option Value)
exits (Int z ∷ []) s = Stops (stop.Exited (wrap AnInt z)) s
exits vs s = untyped s

abbrev pub built_in : Text → List Value → State → Got (Option Value)
built_in x vs s =
    if bytes_eq x (builtin_name GetChar) then next_byte s.input s
    else if bytes_eq x (builtin_name PutChar) then put_byte vs s
    else if bytes_eq x (builtin_name Exit) then exits vs s
    else untyped s

-- ---- calls

-- a function with a body, or one that every program has
abbrev pub called_row : Knot → ℕ → Option FunctionShape → List Value → State → Got (Option Value)
called_row k f None vs s = untyped s
called_row k f (Some r) vs s = if is_some r.defined then k.call f vs s else built_in r.name vs s

-- the function that the note of the call names
abbrev pub called : TablesShape → Knot → NoteShape → List Value → State → Got (Option Value)
called t k (typed y (Some f)) vs s = called_row k f (row t.functions f) vs s
called t k n vs s = untyped s

abbrev pub row_params : Option FunctionShape → List TypeOf
row_params None = []
row_params (Some r) = r.params

-- the types of its parameters
abbrev pub params_of : TablesShape → NoteShape → List TypeOf
params_of t (typed y (Some f)) = row_params (row t.functions f)
params_of t n = []

abbrev pub as_parameter : List TypeOf → Value → Value
as_parameter [] v = v
as_parameter (k ∷ ks) v = converted k v
