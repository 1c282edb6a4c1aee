-- Pairs of a key and a value, in the order of their keys.
use Rattle.std.specs.Prelude.{◌≡◌, ◌≢◌, ◌⊎◌, ℕ, ◌<◌, ◌≤◌, ◌==◌, cond, List, [], ◌∷◌, length, Option, Some, None}
use Rattle.std.proofs.Math.ListN.{get_or}

abbrev pub Pairs : Type 0
Pairs = List (ℕ × ℕ)

-- the key at a place, and the value that the first pair with a key has
abbrev pub key_at : Pairs → ℕ → ℕ
key_at words i = (get_or words i (0, 0)).0

abbrev pub get : Pairs → ℕ → Option ℕ
get [] key = None
get (word ∷ words) key = cond (word.0 == key) (Some word.1) (get words key)

abbrev pub IsStrictlySorted : Pairs → Type 0
IsStrictlySorted words = (i j : ℕ) → i < j → j < length words → key_at words i < key_at words j

-- the key is at that place
pub record IsAt (words : Pairs) (key at : ℕ) : Type 0 where
  pub in_range : at < length words
  pub has_key : key_at words at ≡ key

-- it is at none, and would stand at that one
pub record IsGapFor (words : Pairs) (key at : ℕ) : Type 0 where
  pub in_range : at ≤ length words
  pub smaller_before : (i : ℕ) → i < at → key_at words i < key
  pub greater_after : (i : ℕ) → at ≤ i → i < length words → key < key_at words i

-- the key has this value now, and all others have what they had
pub record SetsOnly (old new : Pairs) (key value : ℕ) : Type 0 where
  pub this_key : get new key ≡ Some value
  pub other_keys : (other : ℕ) → other ≢ key → get new other ≡ get old other

-- the first pair of one of both lists, and what is left of each
abbrev pub IsTaken : Pairs → Pairs → ℕ × ℕ → Pairs → Pairs → Type 0
IsTaken a b word rest_a rest_b = ((a ≡ word ∷ rest_a) × (b ≡ rest_b)) ⊎ ((a ≡ rest_a) × (b ≡ word ∷ rest_b))
