-- What the outside of a call says and does: shelves that hold bytes under names, and sinks that take bytes.
use Rattle.std.specs.Prelude.{◌≡◌, Bool, true, ℕ, ◌+◌, ◌-◌, ◌^◌, ◌<◌, ◌≤◌, min, List, [], ◌++◌, length, Option, None, Some, Result, Ok, Err, option_map}
use Rattle.std.specs.BTreeMap.{BTreeMap, get_by_text}
use Rattle.std.specs.Prelude.{String, Vec}
use Rattle.std.specs.Global.{Global}
use Rattle.atac_base.specs.declared.outside.Fetched.{Fetched}
use Rattle.atac_base.specs.declared.outside.Fetched.TheVariants.{Whole, Absent, Long}
use Rattle.atac_base.specs.declared.outside.FetchErr.{FetchErr}

-- A count that never falls rose: it is greater than before, or stands at the end of its type.
abbrev pub Rose : ℕ → ℕ → Type 0
Rose before now = min (before + 1) (2 ^ 64 - 1) ≤ now

-- A count of faults never falls, and where the call failed it rose.
pub record Counts (before now : ℕ) (Failed : Type 0) : Type 0 where
  pub later : before ≤ now
  pub cause : Failed → Rose before now

-- What a shelf says of one name: nothing; or what it holds under it, which is nothing or bytes.
abbrev pub Said : Type 0
Said = Option (Option (List ℕ))

-- What is known of a shelf: whether it tells, what it says of each name, and its two counts of faults.
pub record ShelfState : Type 0 where
  pub tells : Bool
  pub says : List ℕ → Said
  pub read_faults : ℕ
  pub keep_faults : ℕ

-- What is known of a sink: its bytes so far, where it tells them, and its counts of faults and of wants of memory.
pub record SinkState : Type 0 where
  pub bytes : Option (List ℕ)
  pub faults : ℕ
  pub wants : ℕ

-- What was found is not against what was said.
abbrev pub Agrees : Said → Option (List ℕ) → Type 0
Agrees None found = Unit {0}
Agrees (Some held) found = found ≡ held

-- What a fetch answers, and what it leaves in the buffer.
abbrev pub Fetches : Said → ℕ → Result Fetched FetchErr → List ℕ → Type 0
Fetches said most (Ok Whole) bytes = (length bytes ≤ most) × Agrees said (Some bytes)
Fetches said most (Ok Absent) bytes = (bytes ≡ []) × Agrees said None
Fetches said most (Ok Long) bytes = (bytes ≡ []) × ((held : List ℕ) × (most < length held) × Agrees said (Some held))
Fetches said most (Err e) bytes = bytes ≡ []

-- The first bytes of a piece.
abbrev pub IsFront : List ℕ → List ℕ → Type 0
IsFront front piece = (rest : List ℕ) × (piece ≡ front ++ rest)

-- What a map of files says of a name.
abbrev pub said_by : BTreeMap (String Global) (Vec ℕ Global) → List ℕ → Said
said_by files name = Some (option_map (λ bytes. bytes.items) (get_by_text files name))

-- A new shelf in memory holds no name, and a new sink in memory no byte.
abbrev pub empty_shelf : ShelfState
empty_shelf = record { tells = true; says = (λ name. Some None); read_faults = 0; keep_faults = 0 }

abbrev pub empty_sink : SinkState
empty_sink = record { bytes = Some []; faults = 0; wants = 0 }
