-- What a stream took of some bytes.
use Rattle.std.specs.Prelude.{◌≡◌, ℕ, List, ◌++◌, Option}
use Rattle.std.specs.Io.KnownBytes.{Appends}

-- it took what stands in front of the rest, and no other byte
abbrev pub Took : Option (List ℕ) → Option (List ℕ) → List ℕ → List ℕ → Type 0
Took old new all rest = (front : List ℕ) × (all ≡ front ++ rest) × Appends old new front
