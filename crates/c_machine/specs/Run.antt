-- A run that has ended, as the outcome that it is.
use Rattle.std.specs.Prelude.{List, [], Option}
use Rattle.c_events.specs.declared.events.Event.{Event}
use Rattle.c_store.specs.declared.value.Value.{Value}
use Rattle.c_tables.specs.Tables.{TablesShape}
use Rattle.c_meaning.specs.declared.end.End.{End}
use Rattle.c_meaning.specs.declared.end.RunEnd.{RunEnd}
use Rattle.c_meaning.specs.State.{State}
use Rattle.c_meaning.specs.Results.{Got, Gives, Stops}
use Rattle.c_meaning.specs.Runs.{Outcome, returned_end, stopped_end}
use Rattle.c_machine.specs.declared.running.Ended.{Ended}
use Rattle.c_machine.specs.declared.running.Ended.TheVariants as ended

-- main has returned, or the run was stopped
abbrev pub ended_as : Ended → State → Got (Option Value)
ended_as (ended.Returned v) s = Gives v s
ended_as (ended.Stopped why) s = Stops why s

-- the end in that state
abbrev pub end_as : TablesShape → Ended → State → End
end_as t (ended.Returned v) s = returned_end v
end_as t (ended.Stopped why) s = stopped_end t why s

-- with what it logged, and nothing observed
abbrev pub outcome_of : RunEnd → List Event → Outcome
outcome_of r l = record { output = r.output; turns = r.turns; end = r.end; deeds = []; log = l }
