-- The items so far, wherever they lie in memory.
use Rattle.std.specs.Prelude.{map}
use Rattle.c_walk.specs.declared.walker.Walker.{Walker}
use Rattle.c_walk.specs.ItemView.{item_shape}
use Rattle.c_walk.specs.Walked.{Walked}

abbrev pub walked : Walker → Walked
walked w = record { items = map item_shape w.items.items; decisions = w.decisions; variables = w.variables }
