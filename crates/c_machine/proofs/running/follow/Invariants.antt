use Rattle.std.proofs.Common.{◌≡◌, ◌+◌, ◌*◌, ◌++◌, List}
use Rattle.c_events.specs.declared.events.Event.{Event}
use Rattle.c_tables.specs.Tables.{tables_shape}
use Rattle.c_world.specs.World.{state_of, Same}
use Rattle.c_machine.specs.Todo.{left_in, knot_of, Tied, machine_size}
use Rattle.c_machine.proofs.running.follow.Given as goal

abbrev pub decreases-loop-step : goal.decreases-loop-step
decreases-loop-step g l = 12 * l.world.turns + machine_size l.machine

abbrev pub invariant-loop-step : goal.invariant-loop-step
invariant-loop-step g l =
    ((m : List Event) → (m' : List Event) × ((h : List Event) → g.P.Probes.stands_for l.fn.probes (h ++ m) → g.P.Probes.stands_for l.probes (h ++ m')) × (left_in (tables_shape l.plan.program.now.tables) (knot_of l.plan.program.now) l.machine (state_of l.world m') ≡ left_in (tables_shape l.plan.program.now.tables) (knot_of l.plan.program.now) l.fn.machine (state_of l.fn.world m)))
    × Tied l.machine l.world × Same l.fn.world l.world × (g.P.Probes.owners l.probes ≡ g.P.Probes.owners l.fn.probes)
