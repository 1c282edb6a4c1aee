-- Whose a use is.
use Rattle.std.specs.Prelude.{ℕ, List, Option, None, slice_get, unwrap_or}

-- the owner of the use of that number, where there is a row for each number
abbrev pub owner_in : List (Option ℕ) → ℕ → Option ℕ
owner_in rows u = unwrap_or (slice_get rows u) None
