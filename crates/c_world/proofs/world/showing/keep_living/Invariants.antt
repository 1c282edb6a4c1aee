use Rattle.std.proofs.Common.{◌≡◌, List, ◌++◌, take}
use Rattle.c_events.specs.declared.events.Event.{Event}
use Rattle.c_events.specs.declared.events.Cell.{Cell}
use Rattle.c_store.specs.Cells.{IsLive}
use Rattle.c_world.specs.Shown.{living_of}
use Rattle.c_world.proofs.world.showing.keep_living.Given as goal

abbrev pub invariant-loop-made : goal.invariant-loop-made
invariant-loop-made g l = record {
  goes_by : g.P.Probes.owners l.probes ≡ g.P.Probes.owners l.fn.probes;
  shown : l.shown.items ≡ l.fn.shown.items ++ living_of (take l.made-index l.fresh) l.store;
  kept : (h : List Event) → g.P.Probes.stands_for l.fn.probes h → g.P.Probes.stands_for l.probes h;
  stay : (cell : Cell) → IsLive cell.instance l.store → g.P.Probes.takes l.fn.probes cell → g.P.Probes.takes l.probes cell;
}
