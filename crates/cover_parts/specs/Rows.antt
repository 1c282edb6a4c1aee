-- The live instances, and for each of their cells the word that is kept of it: its last definition, or none.
use Rattle.std.specs.Prelude.{◌≡◌, ℕ, nat_eq, ◌+◌, ◌<◌, ◌≤◌, List, [], ◌∷◌, length, slice_get, slice_set, Option, Some, None, if◌then◌else◌}
use Rattle.c_events.specs.declared.events.Cell.{Cell}
use Rattle.cover_parts.specs.declared.rows.Words.{Words}
use Rattle.cover_parts.specs.declared.rows.Words.TheVariants.{One, Many}
use Rattle.cover_parts.specs.declared.rows.Row.{Row}

-- a live instance: its number, and its cells' words
pub record Slot : Type 0 where
  pub number : ℕ
  pub words : List (Option ℕ)

-- the greatest number that an instance had so far, and those that live, in the order of their numbers
pub record Table : Type 0 where
  pub top : ℕ
  pub live : List Slot

abbrev pub words_in : Words → List (Option ℕ)
words_in (One word) = word ∷ []
words_in (Many words) = words.items

abbrev pub slot_of : Row → Slot
slot_of r = record { number = r.number; words = words_in r.words }

-- how many cells they have together
abbrev pub cell_count : List Slot → ℕ
cell_count [] = 0
cell_count (s ∷ rest) = length s.words + cell_count rest

-- the numbers ascend, above low and up to top
abbrev pub Ascending : ℕ → ℕ → List Slot → Type 0
Ascending low top [] = low ≤ top
Ascending low top (s ∷ rest) = (low < s.number) × Ascending s.number top rest

abbrev pub IsTable : Table → Type 0
IsTable t = Ascending 0 t.top t.live

-- the instance of that number; none where it has ended or was never made
abbrev pub find : ℕ → List Slot → Option Slot
find n [] = None
find n (s ∷ rest) = if nat_eq s.number n then Some s else find n rest

abbrev pub word_in : Option Slot → ℕ → Option (Option ℕ)
word_in None k = None
word_in (Some s) k = slice_get s.words k

-- the word of a cell; none where its instance does not live, or has no such cell
abbrev pub word_of : List Slot → Cell → Option (Option ℕ)
word_of live c = word_in (find c.instance live) c.index

-- the instance of that number, replaced
abbrev pub replace : ℕ → Slot → List Slot → List Slot
replace n t [] = []
replace n t (s ∷ rest) = if nat_eq s.number n then t ∷ rest else s ∷ replace n t rest

abbrev pub put_in : Option Slot → Cell → ℕ → List Slot → List Slot
put_in None c d live = live
put_in (Some s) c d live = replace c.instance (record { number = s.number; words = slice_set s.words c.index (Some d) }) live

-- the definition in the cell's word
abbrev pub put : Cell → ℕ → List Slot → List Slot
put c d live = put_in (find c.instance live) c d live

-- the instances but for the one of that number
abbrev pub without : ℕ → List Slot → List Slot
without n [] = []
without n (s ∷ rest) = if nat_eq s.number n then rest else s ∷ without n rest

-- where the instance stands in the list
abbrev pub IsPlace : ℕ → List Slot → Option ℕ → Type 0
IsPlace n live None = find n live ≡ None
IsPlace n live (Some i) = (s : Slot) × (slice_get live i ≡ Some s) × (find n live ≡ Some s) × ((t : Slot) → replace n t live ≡ slice_set live i t)
