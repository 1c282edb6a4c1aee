-- Lists of records: which are orderly, and how bytes are read as such.
use Rattle.std.specs.Prelude.{ℕ, zero, suc, ◌+◌, ◌*◌, ◌^◌, ◌<◌, ◌≤◌, Bool, true, false, if◌then◌else◌, List, [], ◌∷◌, ◌++◌, length, take, drop, slice_index_or, Option, Some, None, nat_lt, ◌==◌}
use Rattle.byteorder.specs.Endian.{big_number}
use Rattle.atac_facts.specs.declared.fact.Fact.{Fact}
use Rattle.atac_facts.specs.declared.fact.Fact.TheVariants.{Block, Outcome, Pair, PUse}
use Rattle.atac_facts.specs.declared.tally.Counted.{Counted}
use Rattle.atac_facts.specs.Facts.{rank}
use Rattle.trace_file.specs.declared.kind.Kind.{Kind}
use Rattle.trace_file.specs.declared.kind.Kind.TheVariants.{Blocks, Outcomes, Pairs, PUses}

-- A block's, decision's, definition's or use's number.
abbrev pub IsNumber : ℕ → Type 0
IsNumber n = (1 ≤ n) × (n ≤ 16383)

-- An outcome's number, or a count.
abbrev pub IsCount : ℕ → Type 0
IsCount n = (1 ≤ n) × (n < 2 ^ 32)

abbrev pub SoundFact : Fact → Type 0
SoundFact (Block k) = IsNumber k
SoundFact (Outcome k o) = IsNumber k × IsCount o
SoundFact (Pair d u) = IsNumber d × IsNumber u
SoundFact (PUse d u o) = IsNumber d × IsNumber u × IsCount o

abbrev pub SoundRow : Counted → Type 0
SoundRow row = SoundFact row.fact × IsCount row.count

-- Sound rows, strictly ascending from a rank on. The ranks of a list's facts are below those of the
-- next list's, so this is the order within each of the four lists.
abbrev pub Orderly : ℕ → List Counted → Type 0
Orderly low [] = Unit {0}
Orderly low (row ∷ rows) = (low ≤ rank row.fact) × SoundRow row × Orderly (rank row.fact + 1) rows

-- How many bytes a record takes.
abbrev pub size_of_numbers : Kind → ℕ
size_of_numbers Blocks = 2
size_of_numbers Outcomes = 6
size_of_numbers Pairs = 4
size_of_numbers PUses = 8

abbrev pub size : Bool → Kind → ℕ
size true kind = size_of_numbers kind + 4
size false kind = size_of_numbers kind

-- A byte has 8 bits.
abbrev pub IsBytes : List ℕ → Type 0
IsBytes bytes = (i : ℕ) → slice_index_or bytes i 0 < 256

-- The record that bytes begin with. Where no count stands, it is 1.
abbrev pub fact_at : Kind → List ℕ → Fact
fact_at Blocks bytes = Block (big_number 2 bytes)
fact_at Outcomes bytes = Outcome (big_number 2 bytes) (big_number 4 (drop 2 bytes))
fact_at Pairs bytes = Pair (big_number 2 bytes) (big_number 2 (drop 2 bytes))
fact_at PUses bytes = PUse (big_number 2 bytes) (big_number 2 (drop 2 bytes)) (big_number 4 (drop 4 bytes))

abbrev pub count_at : Bool → List ℕ → ℕ
count_at true bytes = big_number 4 bytes
count_at false bytes = 1

abbrev pub row_at : Bool → Kind → List ℕ → Counted
row_at counted kind bytes = record { fact = fact_at kind bytes; count = count_at counted (drop (size_of_numbers kind) bytes) }

-- The first n records.
abbrev pub rows_at : Bool → Kind → ℕ → List ℕ → List Counted
rows_at counted kind zero bytes = []
rows_at counted kind (suc n) bytes = row_at counted kind bytes ∷ rows_at counted kind n (drop (size counted kind) bytes)

-- A list of the file: how many records it has, their bytes, and the bytes after them.
pub record Listed : Type 0 where
  pub count : ℕ
  pub records : List ℕ
  pub rest : List ℕ

pub record FourLists : Type 0 where
  pub blocks : Listed
  pub outcomes : Listed
  pub pairs : Listed
  pub p_uses : Listed

infixl 10 ◌>>=◌
abbrev pub ◌>>=◌ : {A B : Type 0} → Option A → (A → Option B) → Option B
(Some x) >>= f = f x
None >>= f = None

-- The list that bytes begin with; none where they are too few to hold its count, or the records that it counts.
abbrev pub part_at : Bool → Kind → List ℕ → Option Listed
part_at counted kind bytes =
    if nat_lt (length bytes) 4 then None else
    (let count = big_number 4 bytes in
    let len = count * size counted kind in
    if nat_lt (length (drop 4 bytes)) len then None else
    Some (record { count = count; records = take len (drop 4 bytes); rest = drop len (drop 4 bytes) }))

-- How many bytes stand before the lists.
abbrev pub opening_size : Bool → ℕ
opening_size true = 46
opening_size false = 42

-- The four lists, where the length is what their counts say by the layout of the version: the trailer's 32 bytes are left.
unfoldable pub parts_of : Bool → List ℕ → Option FourLists
parts_of counted bytes =
    if nat_lt (length bytes) (opening_size counted) then None else
    (part_at counted Blocks (drop (opening_size counted) bytes) >>= λ blocks.
    part_at counted Outcomes blocks.rest >>= λ outcomes.
    part_at counted Pairs outcomes.rest >>= λ pairs.
    part_at counted PUses pairs.rest >>= λ p_uses.
    if length p_uses.rest == 32 then Some (record { blocks = blocks; outcomes = outcomes; pairs = pairs; p_uses = p_uses }) else None)

abbrev pub rows_of : Bool → FourLists → List Counted
rows_of counted parts =
    rows_at counted Blocks parts.blocks.count parts.blocks.records
    ++ (rows_at counted Outcomes parts.outcomes.count parts.outcomes.records
    ++ (rows_at counted Pairs parts.pairs.count parts.pairs.records
    ++ rows_at counted PUses parts.p_uses.count parts.p_uses.records))

abbrev pub version_at : List ℕ → ℕ
version_at bytes = big_number 2 (drop 4 bytes)

-- Version 2 has counts.
abbrev pub counted_at : List ℕ → Bool
counted_at bytes = version_at bytes == 2

-- The four lists; none where the length isn't what the list counts say, or is too short to hold the version or the list counts.
abbrev pub layout : List ℕ → Option FourLists
layout bytes = if nat_lt (length bytes) 6 then None else parts_of (counted_at bytes) bytes

-- The rows of the four lists; none where there are no such lists.
abbrev pub rows_laid : Bool → Option FourLists → List Counted
rows_laid counted None = []
rows_laid counted (Some parts) = rows_of counted parts

abbrev pub file_rows : List ℕ → List Counted
file_rows bytes = rows_laid (counted_at bytes) (layout bytes)
