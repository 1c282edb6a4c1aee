-- The cells that events speak of.
use Rattle.std.specs.Prelude.{⊤}
use Rattle.c_events.specs.declared.events.Cell.{Cell}
use Rattle.c_events.specs.declared.events.Event.{Event}
use Rattle.c_events.specs.declared.events.Event.TheVariants as event

-- the cell that the event speaks of is one of these
abbrev pub IsOf : (Cell → Type 0) → Event → Type 0
IsOf cells (event.Block k) = ⊤
IsOf cells (event.Def d c) = cells c
IsOf cells (event.Use u c a) = cells c
IsOf cells (event.Test k o a) = ⊤
