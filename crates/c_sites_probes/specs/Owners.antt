-- What owners say of a program's use probes.
use Rattle.std.specs.Prelude.{◌≡◌, ℕ, ◌<◌, List, Option, Some, slice_get}
use Rattle.c_sites_probes.specs.Owned.{owner_of}

-- each number has a row with the owner that is found first for it
abbrev pub AreOwners : List (ℕ × ℕ) → List (Option ℕ) → Type 0
AreOwners found rows = (u : ℕ) → u < 65536 → slice_get rows u ≡ Some (owner_of u found)
