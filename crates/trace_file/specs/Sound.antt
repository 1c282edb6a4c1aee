-- Which traces there are.
use Rattle.std.specs.Prelude.{◌≡◌, ◌<◌, ◌≤◌, ◌^◌, length}
use Rattle.trace_file.specs.declared.trace.Trace.{Trace}
pub use Rattle.trace_file.specs.Lists.{IsNumber, IsCount, SoundFact, SoundRow, Orderly}

abbrev pub IsSound : Trace → Type 0
IsSound t = (t.old_runs ≤ t.runs) × Orderly 0 t.tally

-- What the type `Trace` says by itself: a digest is 32 bytes, and the number of runs has 32 bits.
pub record IsTyped (t : Trace) : Type 0 where
  pub digest : length t.digest ≡ 32
  pub runs : t.runs < 2 ^ 32
