-- The functions that every program has (C89, 4.9.7.6, 4.9.7.9, 4.10.4.3): getchar, putchar and exit.
use Rattle.std.specs.Prelude.{ℕ, List, [], ◌∷◌}
use Rattle.c_base.specs.declared.place.IntKind.TheVariants.{Int}
use Rattle.c_syntax.specs.declared.text.Text.{Text}
use Rattle.c_syntax.specs.Shape.{TypeOf, int, nothing}
use Rattle.c_tables.specs.declared.builtins.Builtin.{Builtin}
use Rattle.c_tables.specs.declared.builtins.Builtin.TheVariants.{GetChar, PutChar, Exit}

abbrev pub builtin_name : Builtin → Text
builtin_name GetChar = 103 ∷ 101 ∷ 116 ∷ 99 ∷ 104 ∷ 97 ∷ 114 ∷ []
builtin_name PutChar = 112 ∷ 117 ∷ 116 ∷ 99 ∷ 104 ∷ 97 ∷ 114 ∷ []
builtin_name Exit = 101 ∷ 120 ∷ 105 ∷ 116 ∷ []

abbrev pub builtin_result : Builtin → TypeOf
builtin_result GetChar = int Int
builtin_result PutChar = int Int
builtin_result Exit = nothing

abbrev pub builtin_params : Builtin → List TypeOf
builtin_params GetChar = []
builtin_params PutChar = int Int ∷ []
builtin_params Exit = int Int ∷ []
