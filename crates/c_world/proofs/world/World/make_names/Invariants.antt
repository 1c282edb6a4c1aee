use Rattle.std.proofs.Common.{◌≡◌, List, length}
use Rattle.c_events.specs.declared.events.Event.{Event}
use Rattle.c_syntax.specs.View.{declarator_list}
use Rattle.c_meaning.specs.Firsts.{quiet}
use Rattle.c_meaning.specs.Declarations.{file_names}
use Rattle.c_world.specs.World.{state_of, tables_of, Same}
use Rattle.c_world.proofs.world.World.make_names.Given as goal

abbrev pub invariant-loop-name : goal.invariant-loop-name
invariant-loop-name l = record {
  made : (h : List Event) → file_names (tables_of l.self) (declarator_list l.names) (quiet l.before) (state_of l.self h) ≡ file_names (tables_of l.fn.self) (declarator_list l.fn.names) (quiet l.fn.before) (state_of l.fn.self h);
  same : Same l.fn.self l.self;
  calls : l.self.names.calls ≡ l.fn.self.names.calls;
}

abbrev pub decreases-loop-name : goal.decreases-loop-name
decreases-loop-name l = length l.names
