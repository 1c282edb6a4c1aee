-- Traces that are fetched one after the other and added up.
use Rattle.std.specs.Prelude.{◌≡◌, List, [], ◌∷◌, ◌++◌, ℕ, Option, None, Some, Result, Ok, Err}
use Rattle.atac_base.specs.Outside.{ShelfState, Agrees}
use Rattle.trace_file.specs.declared.trace.Trace.{Trace}
use Rattle.atac_steps.specs.Ends.{End, OutOfMemory}
use Rattle.atac_steps.specs.Got.{gets, Gets, AllAgree}
use Rattle.atac_steps.specs.Grows.{ShelfGrows}
use Rattle.atac_steps.specs.Stops.{end_of}
use Rattle.atac_steps.specs.declared.stop.Stop.{Stop}
use Rattle.atac_traces.specs.Files.{trace_most, IsTraceOf, TraceStops}
use Rattle.atac_traces.specs.Totals.{AddsUp}

-- Under each name a trace of the program was found.
abbrev pub AreTraces : List ℕ → List (List ℕ) → List (Option (List ℕ)) → List Trace → Type 0
AreTraces digest [] [] [] = Unit {0}
AreTraces digest (name ∷ names) (f ∷ found) (t ∷ ts) =
    ((bytes : List ℕ) × (gets name trace_most f ≡ Gets bytes) × IsTraceOf digest bytes t) × AreTraces digest names found ts
AreTraces digest names found ts = ⊥

-- How far the names were gone through: under those so far traces were found, which add up to `sum`.
pub record Came (shelf shelf' : ShelfState) (old : Trace) (names left : List (List ℕ)) (sum : Trace) : Type 0 where
  pub done : List (List ℕ)
  pub at : names ≡ done ++ left
  pub found : List (Option (List ℕ))
  pub agrees : AllAgree shelf.says done found
  pub traces : List Trace
  pub are : AreTraces old.digest done found traces
  pub adds : AddsUp old traces sum
  pub says : shelf'.says ≡ shelf.says
  pub grows : ShelfGrows shelf shelf'

-- What stops it at a name: its fetch, or want of memory for the sum.
pub record StopsAt (shelf shelf' : ShelfState) (old : Trace) (names : List (List ℕ)) (end : End) : Type 0 where
  pub name : List ℕ
  pub left : List (List ℕ)
  pub mid : ShelfState
  pub sum : Trace
  pub came : Came shelf mid old names (name ∷ left) sum
  pub found : Option (List ℕ)
  pub agrees : Agrees (mid.says name) found
  pub stops : TraceStops mid shelf' old.digest name found end
  pub says : shelf'.says ≡ mid.says
  pub grows : ShelfGrows mid shelf'

abbrev pub Joins : ShelfState → ShelfState → Trace → List (List ℕ) → Trace → Result (Unit {0}) Stop → Type 0
Joins shelf shelf' old names new (Ok x) = Came shelf shelf' old names [] new
Joins shelf shelf' old names new (Err stop) = StopsAt shelf shelf' old names (end_of stop)
