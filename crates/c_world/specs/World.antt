-- A world as a state of the definition, in which nothing is observed, and so much was told before what is pending.
use Rattle.std.specs.Prelude.{◌≡◌, ◌++◌, List, [], Option, Some, None}
use Rattle.c_events.specs.declared.events.Event.{Event}
use Rattle.c_tables.specs.Tables.{TablesShape, tables_shape}
use Rattle.c_meaning.specs.declared.end.Stop.{Stop}
use Rattle.c_meaning.specs.declared.end.Flow.{Flow}
use Rattle.c_meaning.specs.declared.end.Flow.TheVariants.{Next}
use Rattle.c_meaning.specs.State.{State}
use Rattle.c_meaning.specs.Results.{Got, Gives, Stops}
use Rattle.c_world.specs.declared.world.World.{World}

abbrev pub state_of : World → List Event → State
state_of w h = record {
  store = w.store;
  file = w.names.file;
  input = w.input.now;
  output = w.output;
  turns = w.turns;
  last = w.last;
  calls = w.names.calls;
  deeds = [];
  log = h ++ w.pending.items;
}

abbrev pub tables_of : World → TablesShape
tables_of w = tables_shape w.program.now.tables

-- it is of one program, with one limit of turns
pub record Same (v w : World) : Type 0 where
  pub program : w.program.now ≡ v.program.now
  pub limit : w.limit ≡ v.limit

-- nothing, or why the run stops
abbrev pub answered : Option Stop → State → Got Flow
answered None s = Gives Next s
answered (Some why) s = Stops why s
