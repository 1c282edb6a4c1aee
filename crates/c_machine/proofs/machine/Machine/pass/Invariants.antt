use Rattle.std.proofs.Common.{◌≡◌, ◌+◌, ◌*◌, ◌≤◌, List, length}
use Rattle.c_events.specs.declared.events.Event.{Event}
use Rattle.c_tables.specs.Tables.{tables_shape}
use Rattle.c_world.specs.World.{state_of, Same}
use Rattle.c_machine.specs.Todo.{behind, knot_of, Tied, all_weights}
use Rattle.c_machine.proofs.machine.Machine.pass.Given as goal

abbrev pub invariant-loop-waiting : goal.invariant-loop-waiting
invariant-loop-waiting l = record {
  passed : (h : List Event) → behind (tables_shape l.plan.program.now.tables) (knot_of l.plan.program.now) l.self l.flow (state_of l.world h) ≡ behind (tables_shape l.plan.program.now.tables) (knot_of l.plan.program.now) l.fn.self l.flow (state_of l.fn.world h);
  tied : Tied l.self l.world;
  size : 12 * l.world.turns + all_weights l.self.waiting.items ≤ 12 * l.fn.world.turns + all_weights l.fn.self.waiting.items;
  same : Same l.fn.world l.world;
}

abbrev pub decreases-loop-waiting : goal.decreases-loop-waiting
decreases-loop-waiting l = length l.self.waiting.items
