-- The sites of a program by their numbers, and which of their leaf names name one cell.
use Rattle.std.specs.Prelude.{ℕ, ◌+◌, ◌-◌, ◌≤◌, ◌≡◌, List, Some, map, slice_get}
use Rattle.std.specs.String.{string_bytes}
use Rattle.c_sites.specs.declared.lists.DefSite.{DefSite}
use Rattle.c_sites.specs.declared.lists.UseSite.{UseSite}
use Rattle.c_sites.specs.declared.numbered.Sites.{Sites}

-- the definition with that number
abbrev pub IsDef : Sites → ℕ → DefSite → Type 0
IsDef s d def = (1 ≤ d) × (slice_get s.lists.defs.items (d - 1) ≡ Some def)

-- the use with that number
abbrev pub IsUse : Sites → ℕ → UseSite → Type 0
IsUse s u used = (1 ≤ u) × (slice_get s.lists.uses.items (u - 1) ≡ Some used)

-- the text of the leaf name with that number
abbrev pub IsText : Sites → ℕ → List ℕ → Type 0
IsText s n x = (1 ≤ n) × (slice_get (map string_bytes s.texts.items) (n - 1) ≡ Some x)

-- `[]` stands in the text: the name is of an array's elements
abbrev pub HasIndex : List ℕ → Type 0
HasIndex x = (i : ℕ) × (slice_get x i ≡ Some 91) × (slice_get x (i + 1) ≡ Some 93)

-- the leaf name names one cell
abbrev pub IsStrong : Sites → ℕ → Type 0
IsStrong s n = (x : List ℕ) × IsText s n x × (HasIndex x → ⊥)
