use Rattle.std.proofs.Common.{◌≡◌, ℕ, List, ◌++◌, length, false}
use Rattle.std.specs.Prelude.{All}
use Rattle.c_events.specs.declared.events.Event.{Event}
use Rattle.c_events.specs.declared.events.Cell.{Cell}
use Rattle.c_store.specs.Cells.{IsLive}
use Rattle.c_world.specs.Shown.{is_live}
use Rattle.c_world.proofs.world.showing.tell_ended.Given as goal

abbrev pub invariant-loop-instance : goal.invariant-loop-instance
invariant-loop-instance g l = record {
  goes_by : g.P.Probes.owners l.probes ≡ g.P.Probes.owners l.fn.probes;
  gone : (gone : List ℕ) × (l.fn.shown.items ≡ l.shown.items ++ gone) × All (λ j. is_live j l.store ≡ false) gone;
  kept : (h : List Event) → g.P.Probes.stands_for l.fn.probes h → g.P.Probes.stands_for l.probes h;
  stay : (cell : Cell) → IsLive cell.instance l.store → g.P.Probes.takes l.fn.probes cell → g.P.Probes.takes l.probes cell;
}

abbrev pub decreases-loop-instance : goal.decreases-loop-instance
decreases-loop-instance g l = length l.shown.items
