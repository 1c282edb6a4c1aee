use Rattle.std.proofs.Common.{◌≡◌, List, length}
use Rattle.c_events.specs.declared.events.Event.{Event}
use Rattle.c_meaning.specs.declared.end.Flow.{Flow}
use Rattle.c_meaning.specs.State.{State}
use Rattle.c_meaning.specs.Results.{Got}
use Rattle.c_meaning.specs.Statements.{marks_log}
use Rattle.c_world.specs.World.{state_of}
use Rattle.c_machine_direct.specs.Kept.{Kept}
use Rattle.c_machine_direct.proofs.marks.log_each.Given as goal

abbrev pub invariant-loop-mark : goal.invariant-loop-mark
invariant-loop-mark l = record {
  told : (h : List Event) (go : State → Got Flow) → marks_log l.rest (state_of l.world h) go ≡ marks_log l.fn.marks (state_of l.fn.world h) go;
  kept : Kept l.fn.world l.world;
}

abbrev pub decreases-loop-mark : goal.decreases-loop-mark
decreases-loop-mark l = length l.rest
