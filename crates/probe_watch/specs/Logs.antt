-- What the runs of a program on several inputs come to, and what they log, one after the other.
use Rattle.std.specs.Prelude.{ℕ, List, map, flat_map, Vec}
use Rattle.std.specs.Global.{Global}
use Rattle.c_events.specs.declared.events.Event.{Event}
use Rattle.c_meaning.specs.declared.end.RunEnd.{RunEnd}
use Rattle.c_meaning.specs.Calls.{Source}
use Rattle.c_meaning.specs.Runs.{Outcome, run}

-- an input's bytes
abbrev pub bytes_in : Vec ℕ Global → List ℕ
bytes_in input = input.items

-- what a run shows of an outcome
abbrev pub end_of : Outcome → RunEnd
end_of o = record { output = o.output; turns = o.turns; end = o.end }

-- the ends of the runs on these inputs
abbrev pub ends_of : Source → ℕ → List (List ℕ) → List RunEnd
ends_of P limit = map (λ input. end_of (run P input limit))

-- what these runs log
abbrev pub log_of : Source → ℕ → List (List ℕ) → List Event
log_of P limit = flat_map (λ input. (run P input limit).log)
