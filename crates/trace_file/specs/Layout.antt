-- The trace file as a function of the trace. All numbers are big-endian.
use Rattle.std.specs.Prelude.{◌≡◌, ℕ, ◌<◌, ◌^◌, Bool, true, false, List, [], ◌∷◌, ◌++◌, length}
use Rattle.std.specs.List.{filter, flat_map, AllByRecursion}
use Rattle.byteorder.specs.Endian.{big_bytes}
use Rattle.sha2.specs.Sha256.{sha256}
use Rattle.atac_facts.specs.declared.fact.Fact.{Fact}
use Rattle.atac_facts.specs.declared.fact.Fact.TheVariants.{Block, Outcome, Pair, PUse}
use Rattle.atac_facts.specs.declared.tally.Counted.{Counted}
use Rattle.trace_file.specs.declared.kind.Kind.{Kind}
use Rattle.trace_file.specs.declared.kind.Kind.TheVariants.{Blocks, Outcomes, Pairs, PUses}
use Rattle.trace_file.specs.declared.trace.Trace.{Trace}
pub use Rattle.trace_file.specs.Lists.{size_of_numbers, size}

-- The list that a fact stands in.
abbrev pub kind_of : Fact → Kind
kind_of (Block k) = Blocks
kind_of (Outcome k o) = Outcomes
kind_of (Pair d u) = Pairs
kind_of (PUse d u o) = PUses

abbrev pub same_kind : Kind → Kind → Bool
same_kind Blocks Blocks = true
same_kind Outcomes Outcomes = true
same_kind Pairs Pairs = true
same_kind PUses PUses = true
same_kind _ _ = false

-- A record is the fact's numbers, and in version 2, which is counted, in how many runs it was met.
abbrev pub numbers : Fact → List ℕ
numbers (Block k) = big_bytes 2 k
numbers (Outcome k o) = big_bytes 2 k ++ big_bytes 4 o
numbers (Pair d u) = big_bytes 2 d ++ big_bytes 2 u
numbers (PUse d u o) = big_bytes 2 d ++ (big_bytes 2 u ++ big_bytes 4 o)

abbrev pub count_bytes : Bool → ℕ → List ℕ
count_bytes true n = big_bytes 4 n
count_bytes false n = []

abbrev pub record_of : Bool → Counted → List ℕ
record_of counted row = numbers row.fact ++ count_bytes counted row.count

-- A list is the number of its records, and the records.
abbrev pub rows_in : Kind → List Counted → List Counted
rows_in kind rows = filter (λ row. same_kind (kind_of row.fact) kind) rows

abbrev pub list_of : Bool → Kind → List Counted → List ℕ
list_of counted kind rows = big_bytes 4 (length (rows_in kind rows)) ++ flat_map (record_of counted) (rows_in kind rows)

abbrev pub lists_of : Bool → List Counted → List ℕ
lists_of counted rows = list_of counted Blocks rows ++ (list_of counted Outcomes rows ++ (list_of counted Pairs rows ++ list_of counted PUses rows))

-- `ATAC`, the version, the digest of the program, the number of runs, and in version 2 that of old runs.
abbrev pub atac : List ℕ
atac = 65 ∷ 84 ∷ 65 ∷ 67 ∷ []

abbrev pub version : Bool → ℕ
version true = 2
version false = 1

abbrev pub opening_of : Bool → Trace → List ℕ
opening_of counted t = atac ++ (big_bytes 2 (version counted) ++ (t.digest ++ (big_bytes 4 t.runs ++ count_bytes counted t.old_runs)))

-- All bytes before the trailer, which is their digest.
abbrev pub front_of : Bool → Trace → List ℕ
front_of counted t = opening_of counted t ++ lists_of counted t.tally

abbrev pub spelling : Bool → Trace → List ℕ
spelling counted t = front_of counted t ++ sha256 (front_of counted t)

-- The one spelling in version 2.
abbrev pub bytes_of : Trace → List ℕ
bytes_of t = spelling true t

-- The one spelling in version 1. It has no counts, so it is there where all runs are old and each count is 1.
abbrev pub old_bytes_of : Trace → List ℕ
old_bytes_of t = spelling false t

-- Version 2 says all of a trace, version 1 only what it has no bytes for.
abbrev pub IsSaid : Bool → Trace → Type 0
IsSaid true t = Unit {0}
IsSaid false t = (t.old_runs ≡ t.runs) × AllByRecursion (λ row. row.count ≡ 1) t.tally

-- The number of a list's records is written in 4 bytes.
abbrev pub ListsFit : List Counted → Type 0
ListsFit rows = (kind : Kind) → length (rows_in kind rows) < 2 ^ 32

-- The bytes are the spelling of the trace in one of the two versions.
abbrev pub Spells : List ℕ → Trace → Type 0
Spells bytes t = (counted : Bool) × (bytes ≡ spelling counted t) × IsSaid counted t × ListsFit t.tally
