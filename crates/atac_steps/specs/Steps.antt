-- The steps that reach the outside, as the commands take them.
use Rattle.std.specs.Prelude.{◌≡◌, ◌≢◌, ℕ, ◌≤◌, length, List, Option, Some, Result, Ok, Err, Vec, IsTrue}
use Rattle.std.specs.Global.{Global}
use Rattle.std.specs.Io.KnownBytes.{append_known}
use Rattle.atac_base.specs.Outside.{ShelfState, SinkState, Agrees, Rose, IsFront}
use Rattle.atac_steps.specs.Ends.{End, NotHeld, TooLong, ReadFailed, WriteFailed, KeepFailed, OutOfMemory}
use Rattle.atac_steps.specs.Got.{gets, Gets, Stops}
use Rattle.atac_steps.specs.Grows.{ShelfGrows, SinkGrows}
use Rattle.atac_steps.specs.declared.stop.Stop.{Stop}
use Rattle.atac_steps.specs.Stops.{end_of}

-- A fetch that stops: by what it found; for a fault; for want of memory.
abbrev pub FetchStops : ShelfState → ShelfState → List ℕ → ℕ → Option (List ℕ) → End → Type 0
FetchStops shelf shelf' name most found (NotHeld file) = gets name most found ≡ Stops (NotHeld file)
FetchStops shelf shelf' name most found (TooLong file) = gets name most found ≡ Stops (TooLong file)
FetchStops shelf shelf' name most found (ReadFailed file) = (file ≡ name) × Rose shelf.read_faults shelf'.read_faults
FetchStops shelf shelf' name most found OutOfMemory = Unit {0}
FetchStops shelf shelf' name most found end = ⊥

abbrev pub FetchGives : ShelfState → ShelfState → List ℕ → ℕ → Option (List ℕ) → Result (Vec ℕ Global) Stop → Type 0
FetchGives shelf shelf' name most found (Ok bytes) = gets name most found ≡ Gets bytes.items
FetchGives shelf shelf' name most found (Err stop) = FetchStops shelf shelf' name most found (end_of stop)

-- the bytes that were got are few enough
abbrev pub FetchFew : ℕ → Result (Vec ℕ Global) Stop → Type 0
FetchFew most (Ok bytes) = length bytes.items ≤ most
FetchFew most (Err stop) = Unit {0}

pub record Fetches (shelf shelf' : ShelfState) (name : List ℕ) (most : ℕ) (result : Result (Vec ℕ Global) Stop) : Type 0 where
  pub found : Option (List ℕ)
  pub agrees : Agrees (shelf.says name) found
  pub gives : FetchGives shelf shelf' name most found result
  pub few : FetchFew most result
  pub says : shelf'.says ≡ shelf.says
  pub grows : ShelfGrows shelf shelf'

-- A put that stops, after some front of the piece.
abbrev pub PutStops : SinkState → SinkState → End → Type 0
PutStops out out' WriteFailed = Rose out.faults out'.faults
PutStops out out' OutOfMemory = Rose out.wants out'.wants
PutStops out out' end = ⊥

abbrev pub PutGives : SinkState → SinkState → List ℕ → Result (Unit {0}) Stop → Type 0
PutGives out out' piece (Ok x) = out'.bytes ≡ append_known out.bytes piece
PutGives out out' piece (Err stop) =
    ((front : List ℕ) × IsFront front piece × (out'.bytes ≡ append_known out.bytes front)) × PutStops out out' (end_of stop)

pub record Puts (out out' : SinkState) (piece : List ℕ) (result : Result (Unit {0}) Stop) : Type 0 where
  pub gives : PutGives out out' piece result
  pub grows : SinkGrows out out'

-- A keep that stops.
abbrev pub KeepStops : ShelfState → ShelfState → List ℕ → End → Type 0
KeepStops shelf shelf' name (KeepFailed file) = (file ≡ name) × Rose shelf.keep_faults shelf'.keep_faults
KeepStops shelf shelf' name OutOfMemory = Unit {0}
KeepStops shelf shelf' name end = ⊥

abbrev pub KeepGives : ShelfState → ShelfState → List ℕ → List ℕ → Result (Unit {0}) Stop → Type 0
KeepGives shelf shelf' name bytes (Ok x) = IsTrue shelf.tells → shelf'.says name ≡ Some (Some bytes)
KeepGives shelf shelf' name bytes (Err stop) = KeepStops shelf shelf' name (end_of stop)

pub record KeepsAs (shelf shelf' : ShelfState) (name bytes : List ℕ) (result : Result (Unit {0}) Stop) : Type 0 where
  pub gives : KeepGives shelf shelf' name bytes result
  pub others : (other : List ℕ) → other ≢ name → shelf'.says other ≡ shelf.says other
  pub grows : ShelfGrows shelf shelf'
