-- A set of facts as words of 64 bits under keys.
use Rattle.std.specs.Prelude.{◌≡◌, ℕ, ◌+◌, ◌*◌, ◌<◌, ◌≤◌, Bool, ◌&&◌, ◌==◌, Option, Some, None, unwrap_or, IsTrue, length, slice_index_or, bit_or}
use Rattle.std.specs.Int.{bit_at}
use Rattle.atac_facts.specs.Facts.{rank, key_of, place_of, fits, IsKey}
use Rattle.atac_facts.specs.Pairs.{Pairs, get, key_at, SetsOnly}
use Rattle.atac_facts.specs.declared.fact.Fact.{Fact}

-- The words in order, each behind its key, and how many further words have room.
pub record FactSet : Type 0 where
  pub words : Pairs
  pub spare : ℕ

-- The bits under a key.
abbrev pub bits_at : Pairs → ℕ → ℕ
bits_at words key = unwrap_or (get words key) 0

-- The facts of the set.
abbrev pub holds : FactSet → Fact → Bool
holds set fact = fits fact && (bit_at (bits_at set.words (key_of fact)) (place_of fact) == 1)

-- Each key is one that facts have.
abbrev pub AreKeys : Pairs → Type 0
AreKeys words = (i : ℕ) → i < length words → IsKey (key_at words i)

-- The fact comes after the last one.
abbrev pub IsAfter : Option Fact → Fact → Type 0
IsAfter None fact = Unit {0}
IsAfter (Some last) fact = rank last < rank fact

-- The least rank after the last fact's.
abbrev pub start_of : Option Fact → ℕ
start_of None = 0
start_of (Some last) = rank last + 1

-- The fact is the least in the set after the last one.
pub record IsNext (set : FactSet) (last : Option Fact) (fact : Fact) : Type 0 where
  pub there : IsTrue (holds set fact)
  pub after : IsAfter last fact
  pub least : (other : Fact) → IsTrue (holds set other) → IsAfter last other → rank fact ≤ rank other

-- Bit `bit` of the word under the key is set.
abbrev pub HasBit : Pairs → ℕ → ℕ → Type 0
HasBit words key bit = (bit < 64) × (bit_at (bits_at words key) bit ≡ 1)

-- The least bit of a word from a place on.
pub record IsLeastBit (bits place bit : ℕ) : Type 0 where
  pub small : bit < 64
  pub set : bit_at bits bit ≡ 1
  pub from : place ≤ bit
  pub least : (i : ℕ) → place ≤ i → i < bit → bit_at bits i ≡ 0

-- The bits of the word at place i.
abbrev pub word_at : Pairs → ℕ → ℕ
word_at words i = let pair = slice_index_or words i (0, 0) in pair.1

-- The least bit of the words from place `start` on, and its word's key.
pub record IsLeastFrom (words : Pairs) (start key bit i : ℕ) : Type 0 where
  pub from : start ≤ i
  pub within : i < length words
  pub key_is : key_at words i ≡ key
  pub here : IsLeastBit (word_at words i) 0 bit
  pub before : (j : ℕ) → start ≤ j → j < i → (b : ℕ) → b < 64 → bit_at (word_at words j) b ≡ 0

-- The least bit from a key and a place on.
pub record IsLeast (words : Pairs) (key place k bit : ℕ) : Type 0 where
  pub right : IsKey k
  pub there : HasBit words k bit
  pub from : key * 64 + place ≤ k * 64 + bit
  pub least : (l b : ℕ) → HasBit words l b → key * 64 + place ≤ l * 64 + b → k * 64 + bit ≤ l * 64 + b

-- The word under the key got these bits too, and no other word changed.
abbrev pub Joins : Pairs → Pairs → ℕ → ℕ → Type 0
Joins old new key bits = SetsOnly old new key (bit_or (bits_at old key) bits)
