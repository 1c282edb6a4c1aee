-- What the checker knows, wherever it lies in memory.
use Rattle.std.specs.Prelude.{List, Bool, Option, Some, None, map, Vec}
use Rattle.std.specs.Global.{Global}
use Rattle.c_syntax.specs.View.{type_of}
use Rattle.c_type_rules.specs.Layouts.{measures}
use Rattle.c_tables.specs.Tables.{tables_shape}
use Rattle.c_tree.specs.State as states
use Rattle.c_checker.specs.declared.checker.Seen.{Seen}
use Rattle.c_checker.specs.declared.checker.Checker.{Checker}

abbrev pub seen_of : Seen → states.Seen
seen_of s = record { blocks = s.blocks; tests = s.tests; uses = s.uses; defs = s.defs }

abbrev pub known_of : Option (Vec Bool Global) → Option (List Bool)
known_of None = None
known_of (Some known) = Some known.items

abbrev pub state_of : Checker → states.State
state_of c = record {
  at = c.at;
  names = c.names;
  tags = c.tags;
  tables = tables_shape c.tables;
  rooms = measures c.rooms.items;
  begun = c.begun.items;
  params = map type_of c.params.items;
  listed = c.listed;
  seen = seen_of c.seen;
  quiet = c.quiet;
  side = c.side;
  file = c.file;
  function = c.function;
  known = known_of c.known;
  complaints = c.complaints.items;
}
