-- Which of 64 marks have a name or a variable.
use Rattle.std.specs.Prelude.{ℕ, ◌+◌, ◌<◌, ◌≤◌, ◌≡◌, ◌↔◌, List, Some, true, length, slice_get}
use Rattle.flow_marks.specs.Words.{HasBit}
use Rattle.pair_list.specs.declared.marks.Mark.{Mark}
use Rattle.pair_list.specs.declared.tables.By.{By}
use Rattle.pair_list.specs.declared.tables.By.TheVariants.{Name, Variable}
use Rattle.pair_list.specs.declared.tables.Tables.{Tables}
use Rattle.pair_list.specs.Masks.{MarkAt, IsMask}

-- what a mark is looked up by
abbrev pub key_of : By → Mark → ℕ
key_of Name m = m.name
key_of Variable m = m.variable

-- so many words from the low one on have a place for each mark
abbrev pub Covers : By → List Mark → ℕ → ℕ → Type 0
Covers by marks low size = (i : ℕ) (m : Mark) → slice_get marks i ≡ Some m → (low ≤ key_of by m) × (key_of by m < low + size)

-- the bits of the words are those of the first n marks from start on
pub record IsTable (by : By) (marks : List Mark) (start low n : ℕ) (words : List ℕ) : Type 0 where
  pub covers : Covers by marks low (length words)
  pub bits : (k i : ℕ) → HasBit words k i ↔ ((i < n) × MarkAt marks (start + i) (λ m. key_of by m ≡ low + k))

-- no word has a bit
pub record IsEmpty (by : By) (marks : List Mark) (low : ℕ) (words : List ℕ) : Type 0 where
  pub covers : Covers by marks low (length words)
  pub none : (k i : ℕ) → HasBit words k i → ⊥

-- no word has a bit of one of the first n marks from start on
pub record IsLeft (by : By) (marks : List Mark) (start low n : ℕ) (words : List ℕ) : Type 0 where
  pub covers : Covers by marks low (length words)
  pub only : (k i : ℕ) → HasBit words k i → (n ≤ i) × (i < 64) × MarkAt marks (start + i) (λ m. key_of by m ≡ low + k)

-- the tables are those of 64 marks from start on
pub record AreTables (marks : List Mark) (start : ℕ) (t : Tables) : Type 0 where
  pub names : IsTable Name marks start t.low_name 64 t.names.items
  pub variables : IsTable Variable marks start t.low_variable 64 t.variables.items
  pub strong : IsMask marks start (λ m. m.strong ≡ true) t.strong

-- the tables have no mark yet
pub record AreEmpty (marks : List Mark) (t : Tables) : Type 0 where
  pub names : IsEmpty Name marks t.low_name t.names.items
  pub variables : IsEmpty Variable marks t.low_variable t.variables.items
