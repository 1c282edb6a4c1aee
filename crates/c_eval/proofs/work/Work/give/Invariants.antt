use Rattle.std.proofs.Common.{◌≡◌, List, length}
use Rattle.c_events.specs.declared.events.Event.{Event}
use Rattle.c_tables.specs.Tables.{TablesShape}
use Rattle.c_meaning.specs.Knot.{Knot}
use Rattle.c_world.specs.World.{state_of}
use Rattle.c_eval.specs.Rest.{Val, left, weights}
use Rattle.c_eval_once.specs.Forms.{Kept}
use Rattle.c_eval.proofs.work.Work.give.Given as goal

abbrev pub decreases-loop-frame : goal.decreases-loop-frame
decreases-loop-frame l = length l.self.stack.items

abbrev pub invariant-loop-frame : goal.invariant-loop-frame
invariant-loop-frame l = ((t : TablesShape) (k : Knot) (h : List Event) → left t k l.self (Val l.fn.value) (state_of l.world h) ≡ left t k l.fn.self (Val l.fn.value) (state_of l.fn.world h)) × (weights l.self.stack.items ≡ weights l.fn.self.stack.items) × (l.world.turns ≡ l.fn.world.turns) × Kept l.fn.world l.world
