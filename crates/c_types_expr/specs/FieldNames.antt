-- The names of fields, as a scope.
use Rattle.std.specs.Prelude.{ℕ, List, [], ◌∷◌}
use Rattle.c_scopes.specs.Rows.{Scope}
use Rattle.c_tables.specs.Tables.{FieldShape}

abbrev pub names_of : List FieldShape → Scope ℕ
names_of [] = []
names_of (f ∷ fs) = (f.name, 0) ∷ names_of fs
