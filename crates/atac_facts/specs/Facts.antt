-- The order of facts, and the word and the bit that stand for a fact.
use Rattle.std.specs.Prelude.{Bool, ◌&&◌, ◌<◌, nat_lt, ℕ, ◌+◌, ◌*◌, ◌/◌, ◌%◌, ◌^◌}
use Rattle.atac_facts.specs.declared.fact.Fact.{Fact}
use Rattle.atac_facts.specs.declared.fact.Fact.TheVariants.{Block, Outcome, Pair, PUse}

-- A fact's number in the order: by kind, then by the numbers in order. A number of 16 bits has 16 bits
-- in it and one of 32 bits 32.
abbrev pub rank : Fact → ℕ
rank (Block k) = k
rank (Outcome k o) = 2 ^ 64 + k * 2 ^ 32 + o
rank (Pair d u) = 2 * 2 ^ 64 + d * 2 ^ 16 + u
rank (PUse d u o) = 3 * 2 ^ 64 + d * 2 ^ 48 + u * 2 ^ 32 + o

-- The word that has the fact's bit: its kind, its numbers but the last, and the last divided by 64.
abbrev pub key_of : Fact → ℕ
key_of (Block k) = k / 64
key_of (Outcome k o) = 2 ^ 58 + k * 2 ^ 26 + o / 64
key_of (Pair d u) = 2 * 2 ^ 58 + d * 2 ^ 10 + u / 64
key_of (PUse d u o) = 3 * 2 ^ 58 + d * 2 ^ 42 + u * 2 ^ 26 + o / 64

-- The place of its bit in the word.
abbrev pub place_of : Fact → ℕ
place_of (Block k) = k % 64
place_of (Outcome k o) = o % 64
place_of (Pair d u) = u % 64
place_of (PUse d u o) = o % 64

-- The fact's numbers have 16 bits, an outcome's number 32.
abbrev pub fits : Fact → Bool
fits (Block k) = nat_lt k 65536
fits (Outcome k o) = nat_lt k 65536 && nat_lt o 4294967296
fits (Pair d u) = nat_lt d 65536 && nat_lt u 65536
fits (PUse d u o) = nat_lt d 65536 && (nat_lt u 65536 && nat_lt o 4294967296)

-- The keys that facts have: those of each kind stand together.
abbrev pub IsKey : ℕ → Type 0
IsKey key = (key < 2 ^ 58 → key < 2 ^ 10) × (key < 2 * 2 ^ 58 → key < 2 ^ 58 + 2 ^ 42) × (key < 3 * 2 ^ 58 → key < 2 * 2 ^ 58 + 2 ^ 26) × (key < 2 ^ 60)
