use Rattle.std.proofs.Common.{◌≡◌, List, Option}
use Rattle.c_events.specs.declared.events.Event.{Event}
use Rattle.c_syntax.specs.Shape.{def}
use Rattle.c_syntax.specs.View.{node_shape}
use Rattle.c_store.specs.declared.value.Value.{Value}
use Rattle.c_meaning.specs.State.{State, tells, repeats}
use Rattle.c_meaning.specs.Results.{Got}
use Rattle.c_meaning.specs.Firsts.{quiet}
use Rattle.c_meaning.specs.Places.{cells_defined, first_of, marks}
use Rattle.c_world.specs.World.{state_of}
use Rattle.c_eval_once.specs.Forms.{Kept}
use Rattle.c_eval_once.proofs.copying.tell_cells_defined.Given as goal

abbrev pub invariant-loop-left : goal.invariant-loop-left
invariant-loop-left l = record {
  told : (h : List Event) (go : State → Got (Option Value)) → cells_defined tells (marks def (node_shape l.node)) (quiet 0) (first_of l.fn.at) l.fn.at.size (state_of l.fn.world h) go ≡ cells_defined repeats (marks def (node_shape l.node)) (quiet 0) l.cell l.left (state_of l.world h) go;
  kept : Kept l.fn.world l.world;
  turns : l.world.turns ≡ l.fn.world.turns;
}

abbrev pub decreases-loop-left : goal.decreases-loop-left
decreases-loop-left l = l.left
