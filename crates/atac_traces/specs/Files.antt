-- What is found in a file that should be a trace of the program with a given digest.
use Rattle.std.specs.Prelude.{◌≡◌, ◌≢◌, ℕ, List, [], ◌∷◌, Option, None, Some, Result, Ok, Err}
use Rattle.atac_base.specs.Outside.{ShelfState, Agrees}
use Rattle.trace_file.specs.Reading.{Accepts, Refuses}
use Rattle.trace_file.specs.declared.trace.Trace.{Trace}
use Rattle.trace_file.specs.declared.refusal.DecodeRefusal.TheVariants as decode
use Rattle.atac_steps.specs.Ends.{End, NoTrace, NotHeld, OutOfMemory}
use Rattle.atac_steps.specs.Got.{gets, Gets, Stops}
use Rattle.atac_steps.specs.Grows.{ShelfGrows}
use Rattle.atac_steps.specs.Steps.{FetchStops}
use Rattle.atac_steps.specs.Stops.{end_of}
use Rattle.atac_steps.specs.declared.stop.Stop.{Stop}
use Rattle.atac_steps.specs.declared.stop.TraceFault.{TraceFault}
use Rattle.atac_steps.specs.declared.stop.TraceFault.TheVariants.{NotATrace, Version, Length, Order, Damaged, OtherProgram, TooMuch}

-- The most bytes of a trace.
abbrev pub trace_most : ℕ
trace_most = 67108864

-- The bytes are this trace, and it is of the program.
abbrev pub IsTraceOf : List ℕ → List ℕ → Trace → Type 0
IsTraceOf digest bytes t = Accepts bytes t × (t.digest ≡ digest)

-- Why they are none: they are no trace, or one of another program.
abbrev pub IsFaulty : List ℕ → List ℕ → TraceFault → Type 0
IsFaulty digest bytes NotATrace = Refuses bytes decode.NotATrace
IsFaulty digest bytes Version = Refuses bytes decode.Version
IsFaulty digest bytes Length = Refuses bytes decode.Length
IsFaulty digest bytes Order = Refuses bytes decode.Order
IsFaulty digest bytes Damaged = Refuses bytes decode.Damaged
IsFaulty digest bytes OtherProgram = (t : Trace) × Accepts bytes t × (t.digest ≢ digest)
IsFaulty digest bytes TooMuch = ⊥

-- What is read in the bytes.
pub data Read : Type 0 where
  Has : (t : Trace) → Read
  Bad : (why : TraceFault) → Read

abbrev pub IsRead : List ℕ → List ℕ → Read → Type 0
IsRead digest bytes (Has t) = IsTraceOf digest bytes t
IsRead digest bytes (Bad why) = IsFaulty digest bytes why

-- The bytes are read: as a trace, or why they are none, whatever the program.
abbrev pub StopsFor : List ℕ → List ℕ → End → Type 0
StopsFor bytes name (NoTrace file why) = (file ≡ name) × ((digest : List ℕ) → IsFaulty digest bytes why)
StopsFor bytes name OutOfMemory = Unit {0}
StopsFor bytes name end = ⊥

abbrev pub ReadsAs : List ℕ → List ℕ → Result Trace Stop → Type 0
ReadsAs bytes name (Ok t) = Accepts bytes t
ReadsAs bytes name (Err stop) = StopsFor bytes name (end_of stop)

-- A trace is held to the program's digest.
abbrev pub OfProgram : Trace → List ℕ → List ℕ → Result Trace Stop → Type 0
OfProgram t digest name (Ok u) = (u ≡ t) × (t.digest ≡ digest)
OfProgram t digest name (Err stop) = (end_of stop ≡ NoTrace name OtherProgram) × (t.digest ≢ digest)

-- A fetch of a trace that stops: as each fetch does, or since the bytes are none.
abbrev pub AnyStops : ShelfState → ShelfState → List ℕ → Option (List ℕ) → End → Type 0
AnyStops shelf shelf' name found (NoTrace file why) =
    (file ≡ name) × ((bytes : List ℕ) × (gets name trace_most found ≡ Gets bytes) × ((digest : List ℕ) → IsFaulty digest bytes why))
AnyStops shelf shelf' name found end = FetchStops shelf shelf' name trace_most found end

-- The same where the bytes may be a trace of another program.
abbrev pub TraceStops : ShelfState → ShelfState → List ℕ → List ℕ → Option (List ℕ) → End → Type 0
TraceStops shelf shelf' digest name found (NoTrace file why) =
    (file ≡ name) × ((bytes : List ℕ) × (gets name trace_most found ≡ Gets bytes) × IsFaulty digest bytes why)
TraceStops shelf shelf' digest name found end = FetchStops shelf shelf' name trace_most found end

-- What comes of a fetch of a trace of any program,
abbrev pub AnyGives : ShelfState → ShelfState → List ℕ → Option (List ℕ) → Result Trace Stop → Type 0
AnyGives shelf shelf' name found (Ok t) = (bytes : List ℕ) × (gets name trace_most found ≡ Gets bytes) × Accepts bytes t
AnyGives shelf shelf' name found (Err stop) = AnyStops shelf shelf' name found (end_of stop)

-- of the program with this digest,
abbrev pub TraceGives : ShelfState → ShelfState → List ℕ → List ℕ → Option (List ℕ) → Result Trace Stop → Type 0
TraceGives shelf shelf' digest name found (Ok t) = (bytes : List ℕ) × (gets name trace_most found ≡ Gets bytes) × IsTraceOf digest bytes t
TraceGives shelf shelf' digest name found (Err stop) = TraceStops shelf shelf' digest name found (end_of stop)

-- and of one where nothing may be held under the name.
abbrev pub OldStops : ShelfState → ShelfState → List ℕ → List ℕ → Option (List ℕ) → End → Type 0
OldStops shelf shelf' digest name found (NotHeld file) = ⊥
OldStops shelf shelf' digest name found end = TraceStops shelf shelf' digest name found end

abbrev pub OldGives : ShelfState → ShelfState → List ℕ → List ℕ → Option (List ℕ) → Result (Option Trace) Stop → Type 0
OldGives shelf shelf' digest name found (Ok None) = gets name trace_most found ≡ Stops (NotHeld name)
OldGives shelf shelf' digest name found (Ok (Some t)) = (bytes : List ℕ) × (gets name trace_most found ≡ Gets bytes) × IsTraceOf digest bytes t
OldGives shelf shelf' digest name found (Err stop) = OldStops shelf shelf' digest name found (end_of stop)

-- Such a fetch changes nothing.
pub record FetchesBy (shelf shelf' : ShelfState) (name : List ℕ) (Gives : Option (List ℕ) → Type 0) : Type 0 where
  pub found : Option (List ℕ)
  pub agrees : Agrees (shelf.says name) found
  pub gives : Gives found
  pub says : shelf'.says ≡ shelf.says
  pub grows : ShelfGrows shelf shelf'
