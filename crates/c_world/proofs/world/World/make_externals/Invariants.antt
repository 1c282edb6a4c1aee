use Rattle.std.proofs.Common.{◌≡◌, List, length, map}
use Rattle.c_events.specs.declared.events.Event.{Event}
use Rattle.c_syntax.specs.View.{external_shape}
use Rattle.c_meaning.specs.Firsts.{quiet}
use Rattle.c_meaning.specs.Runs.{externals_made, silent}
use Rattle.c_world.specs.World.{state_of, tables_of, Same}
use Rattle.c_world.proofs.world.World.make_externals.Given as goal

abbrev pub invariant-loop-external : goal.invariant-loop-external
invariant-loop-external l = record {
  made : (h : List Event) → externals_made (tables_of l.self) (map external_shape l.externals) (quiet l.before) (state_of l.self h) ≡ externals_made (tables_of l.fn.self) (map external_shape l.fn.externals) silent (state_of l.fn.self h);
  same : Same l.fn.self l.self;
  calls : l.self.names.calls ≡ l.fn.self.names.calls;
}

abbrev pub decreases-loop-external : goal.decreases-loop-external
decreases-loop-external l = length l.externals
