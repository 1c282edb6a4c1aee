-- Reading a trace file from left to right, and what each refusal says of the bytes.
use Rattle.std.specs.Prelude.{◌≡◌, ◌≢◌, ℕ, ◌-◌, ◌*◌, ◌^◌, ◌≤◌, Bool, true, false, List, ◌++◌, length, take, drop, Some, None}
use Rattle.byteorder.specs.Endian.{big_number}
use Rattle.sha2.specs.Sha256.{sha256}
use Rattle.atac_facts.specs.Tallies.{end_from}
use Rattle.atac_facts.specs.declared.tally.Counted.{Counted}
use Rattle.trace_file.specs.declared.kind.Kind.{Kind}
use Rattle.trace_file.specs.declared.kind.Kind.TheVariants.{Blocks, Outcomes, Pairs, PUses}
use Rattle.trace_file.specs.declared.reading.Head.{Head}
use Rattle.trace_file.specs.declared.reading.Part.{Part}
use Rattle.trace_file.specs.declared.reading.Parts.{Parts}
use Rattle.trace_file.specs.declared.refusal.DecodeRefusal.{DecodeRefusal}
use Rattle.trace_file.specs.declared.refusal.DecodeRefusal.TheVariants.{NotATrace, Version, Length, Order, Damaged, NoMemory}
use Rattle.trace_file.specs.declared.trace.Trace.{Trace}
use Rattle.trace_file.specs.Layout.{atac}
use Rattle.trace_file.specs.Sound.{IsSound}
use Rattle.trace_file.specs.Lists.{Orderly, size}
pub use Rattle.trace_file.specs.Lists.{IsBytes, fact_at, count_at, row_at, rows_at, Listed, FourLists, ◌>>=◌, part_at, opening_size, rows_of, version_at, counted_at, layout, rows_laid, file_rows}
unfoldable pub use Rattle.trace_file.specs.Lists.{parts_of}

abbrev pub old_runs_at : Bool → List ℕ → ℕ
old_runs_at true bytes = big_number 4 (drop 42 bytes)
old_runs_at false bytes = big_number 4 (drop 38 bytes)

abbrev pub trace_at : Bool → List ℕ → FourLists → Trace
trace_at counted bytes parts = record {
  digest = take 32 (drop 6 bytes);
  runs = big_number 4 (drop 38 bytes);
  old_runs = old_runs_at counted bytes;
  tally = rows_of counted parts;
}

-- What stands before the lists, with rows behind it.
abbrev pub headed : Head → List Counted → Trace
headed head rows = record { digest = head.digest; runs = head.runs; old_runs = head.old_runs; tally = rows }

-- Rows that are orderly from a rank on, and the least rank that may follow them.
pub record EndsAt (low : ℕ) (rows : List Counted) (end : ℕ) : Type 0 where
  pub orderly : Orderly low rows
  pub end_is : end ≡ end_from low rows
  pub small : end ≤ 2 ^ 66

-- What the functions of the code return, without where it lies in memory.
abbrev pub seen : Part → Listed
seen part = record { count = part.count; records = part.records.now; rest = part.rest.now }

abbrev pub all_seen : Parts → FourLists
all_seen parts = record { blocks = seen parts.blocks; outcomes = seen parts.outcomes; pairs = seen parts.pairs; p_uses = seen parts.p_uses }

-- Reading of records stops: these records aren't orderly, whatever follows them. Else memory was wanted.
abbrev pub StopsAt : DecodeRefusal → List Counted → Type 0
StopsAt Order rows = (more : List Counted) → Orderly 0 (rows ++ more) → ⊥
StopsAt NoMemory rows = Unit {0}
StopsAt _ rows = ⊥

-- Reading of a trace stops: it isn't sound, or memory was wanted.
abbrev pub StopsTrace : DecodeRefusal → Trace → Type 0
StopsTrace Order t = IsSound t → ⊥
StopsTrace NoMemory t = Unit {0}
StopsTrace _ t = ⊥

-- The bytes of each list's records are as many as its count says.
pub record PartFits (counted : Bool) (kind : Kind) (part : Listed) : Type 0 where
  pub len : length part.records ≡ part.count * size counted kind

pub record PartsFit (counted : Bool) (parts : FourLists) : Type 0 where
  pub blocks : PartFits counted Blocks parts.blocks
  pub outcomes : PartFits counted Outcomes parts.outcomes
  pub pairs : PartFits counted Pairs parts.pairs
  pub p_uses : PartFits counted PUses parts.p_uses

-- The bytes begin with `ATAC`.
abbrev pub Begins : List ℕ → Type 0
Begins bytes = take 4 bytes ≡ atac

-- At least six bytes, and a version other than 1 and 2.
abbrev pub IsOther : List ℕ → Type 0
IsOther bytes = (6 ≤ length bytes) × (version_at bytes ≢ 1) × (version_at bytes ≢ 2)

-- The trailer is the digest of all bytes before it.
abbrev pub IsSigned : List ℕ → Type 0
IsSigned bytes = drop (length bytes - 32) bytes ≡ sha256 (take (length bytes - 32) bytes)

-- The conditions are tried in this order: each refusal says that those before it don't hold.
abbrev pub IsKnown : List ℕ → Type 0
IsKnown bytes = Begins bytes × (IsOther bytes → ⊥)

abbrev pub IsLaidOut : List ℕ → FourLists → Type 0
IsLaidOut bytes parts = IsKnown bytes × (layout bytes ≡ Some parts)

abbrev pub Refuses : List ℕ → DecodeRefusal → Type 0
Refuses bytes NotATrace = Begins bytes → ⊥
Refuses bytes Version = Begins bytes × IsOther bytes
Refuses bytes Length = IsKnown bytes × (layout bytes ≡ None)
Refuses bytes Order = (parts : FourLists) × IsLaidOut bytes parts × (IsSound (trace_at (counted_at bytes) bytes parts) → ⊥)
Refuses bytes Damaged = (parts : FourLists) × IsLaidOut bytes parts × IsSound (trace_at (counted_at bytes) bytes parts) × (IsSigned bytes → ⊥)
Refuses bytes NoMemory = Unit {0}

abbrev pub Accepts : List ℕ → Trace → Type 0
Accepts bytes t = (parts : FourLists) × IsLaidOut bytes parts × (t ≡ trace_at (counted_at bytes) bytes parts) × IsSound t × IsSigned bytes
