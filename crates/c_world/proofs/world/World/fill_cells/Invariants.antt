use Rattle.std.proofs.Common.{◌≡◌, List, length}
use Rattle.c_events.specs.declared.events.Event.{Event}
use Rattle.c_world.specs.Steps.{filled_at}
use Rattle.c_world.specs.World.{state_of, Same}
use Rattle.c_world.proofs.world.World.fill_cells.Given as goal

abbrev pub invariant-loop-cell : goal.invariant-loop-cell
invariant-loop-cell l = record {
  filled : (h : List Event) → filled_at l.fn.site l.at l.cells (state_of l.self h) ≡ filled_at l.fn.site l.fn.at l.fn.cells (state_of l.fn.self h);
  same : Same l.fn.self l.self;
  names : l.self.names ≡ l.fn.self.names;
}

abbrev pub decreases-loop-cell : goal.decreases-loop-cell
decreases-loop-cell l = length l.cells
