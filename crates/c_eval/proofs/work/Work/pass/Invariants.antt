use Rattle.std.proofs.Common.{◌≡◌, List}
use Rattle.c_events.specs.declared.events.Event.{Event}
use Rattle.c_syntax.specs.View.{node_shape}
use Rattle.c_tables.specs.Tables.{TablesShape}
use Rattle.c_meaning.specs.Results.{then_do}
use Rattle.c_meaning.specs.Knot.{Knot}
use Rattle.c_world.specs.World.{state_of}
use Rattle.c_eval.specs.Rest.{to_value, left, weights}
use Rattle.c_eval_once.specs.Parts.{value}
use Rattle.c_eval_once.specs.Forms.{Kept}
use Rattle.c_eval.proofs.work.Work.pass.Given as goal

abbrev pub invariant-loop-inner : goal.invariant-loop-inner
invariant-loop-inner l = ((t : TablesShape) (k : Knot) (h : List Event) → then_do (value t k (node_shape l.inner) (state_of l.world h)) (to_value (left t k l.self)) ≡ then_do (value t k (node_shape l.fn.node) (state_of l.fn.world h)) (to_value (left t k l.fn.self))) × (weights l.self.stack.items ≡ weights l.fn.self.stack.items) × (l.world.turns ≡ l.fn.world.turns) × Kept l.fn.world l.world
