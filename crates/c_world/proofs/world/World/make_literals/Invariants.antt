use Rattle.std.proofs.Common.{◌≡◌, List, drop}
use Rattle.c_events.specs.declared.events.Event.{Event}
use Rattle.c_meaning.specs.Runs.{literals_made}
use Rattle.c_world.specs.World.{state_of, tables_of, Same}
use Rattle.c_world.proofs.world.World.make_literals.Given as goal

abbrev pub invariant-loop-i : goal.invariant-loop-i
invariant-loop-i l = record {
  made : (h : List Event) → literals_made (drop l.i (tables_of l.fn.self).literals) (state_of l.self h) ≡ literals_made (tables_of l.fn.self).literals (state_of l.fn.self h);
  same : Same l.fn.self l.self;
  names : l.self.names ≡ l.fn.self.names;
}
