-- The first function of a name.
use Rattle.std.specs.Prelude.{ℕ, ◌+◌, ◌++◌, List, [], ◌∷◌, bytes_eq, Option, Some, None, if◌then◌else◌}
use Rattle.c_scopes.specs.Rows.{Scope}
use Rattle.c_scopes.specs.Scoping.{named}
use Rattle.c_tables.specs.declared.tables.FunctionRow.{FunctionRow}

-- its number among rows of which the first has that number
abbrev pub named_from : List ℕ → ℕ → List FunctionRow → Option ℕ
named_from x n [] = None
named_from x n (r ∷ rows) = if bytes_eq x r.name then Some n else named_from x (n + 1) rows

-- the number stands for the name from now on, if none does
abbrev pub kept_at : List ℕ → ℕ → Option ℕ → Scope ℕ → Scope ℕ
kept_at x n None s = s ++ (x, n) ∷ []
kept_at x n (Some m) s = s

abbrev pub kept_first : List ℕ → ℕ → Scope ℕ → Scope ℕ
kept_first x n s = kept_at x n (named x s) s
