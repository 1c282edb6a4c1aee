use Rattle.std.proofs.Common.{◌≡◌, List, ◌++◌, take}
use Rattle.c_events.specs.declared.events.Event.{Event}
use Rattle.c_events.specs.declared.events.Cell.{Cell}
use Rattle.c_world.proofs.world.telling.tell_all.Given as goal

abbrev pub invariant-loop-event : goal.invariant-loop-event
invariant-loop-event g l = record {
  goes_by : g.P.Probes.owners l.probes ≡ g.P.Probes.owners l.fn.probes;
  told : (h log : List Event) → g.P.Probes.stands_for l.fn.probes (h ++ log) → g.P.Probes.stands_for l.probes (h ++ (log ++ take l.event-index l.events));
  stay : (cell : Cell) → g.P.Probes.takes l.fn.probes cell → g.P.Probes.takes l.probes cell;
}
