-- A trace that is held to a program's digest.
use Rattle.std.proofs.Common.{◌≡◌, ap, sym, ◌∙◌, refl, subst, List, ℕ, Option}
use Rattle.std.specs.Prelude.{Result, Ok, Err}
use Rattle.atac_base.specs.Outside.{ShelfState}
use Rattle.trace_file.specs.Reading.{Accepts}
use Rattle.trace_file.specs.declared.trace.Trace.{Trace}
use Rattle.atac_steps.specs.Got.{gets, Gets}
use Rattle.atac_steps.specs.declared.stop.Stop.{Stop}
use Rattle.atac_traces.specs.Files.{trace_most, OfProgram, TraceStops, TraceGives}

pub held_to : (shelf shelf' : ShelfState) (digest name : List ℕ) (found : Option (List ℕ)) (bytes : List ℕ) (t : Trace) → gets name trace_most found ≡ Gets bytes → Accepts bytes t → (r : Result Trace Stop) → OfProgram t digest name r
    → TraceGives shelf shelf' digest name found r
held_to shelf shelf' digest name found bytes t got accepts (Ok u) h = (bytes, got, (subst (λ (x : Trace). Accepts bytes x) (sym h.0) accepts, ap (λ (x : Trace). x.digest) h.0 ∙ h.1))
held_to shelf shelf' digest name found bytes t got accepts (Err stop) h =
    subst (TraceStops shelf shelf' digest name found) (sym h.0) (refl, (bytes, got, (t, accepts, h.1)))
