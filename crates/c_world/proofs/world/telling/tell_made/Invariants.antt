use Rattle.std.proofs.Common.{◌≡◌, List, drop, ◌⊎◌}
use Rattle.c_events.specs.declared.events.Event.{Event}
use Rattle.c_events.specs.declared.events.Cell.{Cell}
use Rattle.c_world.specs.Shown.{Rising, HasCell}
use Rattle.c_world.proofs.world.telling.tell_made.Given as goal

abbrev pub invariant-loop-made : goal.invariant-loop-made
invariant-loop-made g l = record {
  goes_by : g.P.Probes.owners l.probes ≡ g.P.Probes.owners l.fn.probes;
  kept : (h : List Event) → g.P.Probes.stands_for l.fn.probes h → g.P.Probes.stands_for l.probes h;
  stay : (cell : Cell) → g.P.Probes.takes l.fn.probes cell → g.P.Probes.takes l.probes cell;
  rising : Rising (g.P.Probes.top l.fn.probes) l.fn.fresh → Rising (g.P.Probes.top l.probes) (drop l.made-index l.fn.fresh);
  taken : Rising (g.P.Probes.top l.fn.probes) l.fn.fresh → (cell : Cell) → HasCell cell l.fn.fresh → g.P.Probes.takes l.probes cell ⊎ HasCell cell (drop l.made-index l.fn.fresh);
}
