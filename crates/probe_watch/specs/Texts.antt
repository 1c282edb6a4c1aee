-- The lines of events: numbers are decimal, a cell is its instance and its index.
use Rattle.std.specs.Prelude.{ℕ, List, [], ◌∷◌, ◌++◌, flat_map, codes}
use Rattle.std.specs.Fmt.{decimal}
use Rattle.c_events.specs.declared.events.Cell.{Cell}
use Rattle.c_events.specs.declared.events.Event.{Event}
use Rattle.c_events.specs.declared.events.Event.TheVariants as event

-- a blank, and the cell as I:X
abbrev pub cell_text : Cell → List ℕ
cell_text c = (codes " " ++ decimal c.instance) ++ (codes ":" ++ decimal c.index)

abbrev pub event_words : Event → List ℕ
event_words (event.Block k) = codes "block " ++ decimal k
event_words (event.Def d c) = (codes "def " ++ decimal d) ++ cell_text c
event_words (event.Use u c a) = (codes "use " ++ decimal u) ++ (cell_text c ++ (codes " " ++ decimal a))
event_words (event.Test k o a) = (codes "test " ++ decimal k) ++ ((codes " " ++ decimal o) ++ (codes " " ++ decimal a))

abbrev pub event_line : Event → List ℕ
event_line e = event_words e ++ 10 ∷ []

-- a line for each event, in their order
abbrev pub events_text : List Event → List ℕ
events_text = flat_map event_line

-- block K COUNT
abbrev pub count_line : ℕ → ℕ → List ℕ
count_line k n = (codes "block " ++ decimal k) ++ ((codes " " ++ decimal n) ++ 10 ∷ [])
