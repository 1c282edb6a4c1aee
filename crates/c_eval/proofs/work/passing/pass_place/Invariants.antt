use Rattle.std.proofs.Common.{◌≡◌, List}
use Rattle.c_events.specs.declared.events.Event.{Event}
use Rattle.c_syntax.specs.View.{node_shape}
use Rattle.c_tables.specs.Tables.{TablesShape}
use Rattle.c_meaning.specs.Knot.{Knot}
use Rattle.c_world.specs.World.{state_of}
use Rattle.c_eval_once.specs.Parts.{place}
use Rattle.c_eval_once.specs.Forms.{Kept}
use Rattle.c_eval.proofs.work.passing.pass_place.Given as goal

abbrev pub invariant-loop-inner : goal.invariant-loop-inner
invariant-loop-inner l = ((t : TablesShape) (k : Knot) (h : List Event) → place t k (node_shape l.inner) (state_of l.world h) ≡ place t k (node_shape l.fn.node) (state_of l.fn.world h)) × (l.world.turns ≡ l.fn.world.turns) × Kept l.fn.world l.world
