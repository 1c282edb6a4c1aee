-- A trace as bytes that may be kept.
use Rattle.std.specs.Prelude.{◌≡◌, ◌<◌, ◌≤◌, ℕ, List, length, Result, Ok, Err, Vec}
use Rattle.std.specs.Global.{Global}
use Rattle.trace_file.specs.Layout.{bytes_of}
use Rattle.trace_file.specs.declared.trace.Trace.{Trace}
use Rattle.atac_steps.specs.Ends.{End, NoTrace, OutOfMemory}
use Rattle.atac_steps.specs.Stops.{end_of}
use Rattle.atac_steps.specs.declared.stop.Stop.{Stop}
use Rattle.atac_steps.specs.declared.stop.TraceFault.TheVariants.{TooMuch}
use Rattle.atac_traces.specs.Files.{trace_most}

-- Its bytes are more than a trace may have, or memory was wanted for them.
abbrev pub SpellStops : List ℕ → Trace → End → Type 0
SpellStops name t (NoTrace file TooMuch) = (file ≡ name) × (trace_most < length (bytes_of t))
SpellStops name t OutOfMemory = Unit {0}
SpellStops name t end = ⊥

abbrev pub SpelledAs : List ℕ → Trace → Result (Vec ℕ Global) Stop → Type 0
SpelledAs name t (Ok bytes) = (bytes.items ≡ bytes_of t) × (length (bytes_of t) ≤ trace_most)
SpelledAs name t (Err stop) = SpellStops name t (end_of stop)
