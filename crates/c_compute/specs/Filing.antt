-- The variables of file scope, the last one first.
use Rattle.std.specs.Prelude.{◌≡◌, ℕ, List, [], ◌∷◌, get_or, Option, None}
use Rattle.c_meaning.specs.State.{Bound, found_in}
use Rattle.c_compute.specs.declared.filing.Filed.{Filed}

abbrev pub file_of : List Filed → List Bound
file_of [] = []
file_of (f ∷ rest) = record { variable = f.variable; instance = f.instance } ∷ file_of rest

-- the table has the last binding of each
abbrev pub IsFiled : List Bound → List (Option ℕ) → Type 0
IsFiled bs t = (v : ℕ) → get_or t v None ≡ found_in v bs
