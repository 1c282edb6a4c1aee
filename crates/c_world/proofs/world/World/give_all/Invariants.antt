use Rattle.std.proofs.Common.{◌≡◌, List, length}
use Rattle.c_events.specs.declared.events.Event.{Event}
use Rattle.c_syntax.specs.View.{param_list}
use Rattle.c_meaning.specs.Firsts.{quiet}
use Rattle.c_meaning.specs.Calls.{given}
use Rattle.c_world.specs.Names.{IsActive, scope_counts}
use Rattle.c_world.specs.World.{state_of, tables_of, Same}
use Rattle.c_world.proofs.world.World.give_all.Given as goal

abbrev pub invariant-loop-param : goal.invariant-loop-param
invariant-loop-param l = record {
  given : (h : List Event) → given (tables_of l.self) (param_list l.params) (quiet l.before) l.args (state_of l.self h) ≡ given (tables_of l.fn.self) (param_list l.fn.params) (quiet l.fn.before) l.fn.args (state_of l.fn.self h);
  active : IsActive l.self.names.calls;
  counts : scope_counts l.self.names.calls ≡ scope_counts l.fn.self.names.calls;
  same : Same l.fn.self l.self;
}

abbrev pub decreases-loop-param : goal.decreases-loop-param
decreases-loop-param l = length l.params
