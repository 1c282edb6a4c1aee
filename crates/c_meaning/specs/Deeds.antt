-- What was done in a run: the events of all of it, and what one activation did by itself, without the calls inside it.
use Rattle.std.specs.Prelude.{ℕ, List, [], ◌∷◌, nat_eq, if◌then◌else◌}
use Rattle.c_events.specs.declared.events.Event.{Event}
use Rattle.c_meaning.specs.State.{Act, tells, repeats, Deed}

-- ahead of the events of what follows
abbrev pub told_by : Act → List Event → List Event
told_by (tells e) rest = e ∷ rest
told_by (repeats e) rest = e ∷ rest
told_by a rest = rest

abbrev pub told : List Deed → List Event
told [] = []
told (d ∷ rest) = told_by d.act (told rest)

-- of the activation with that number; each call has its own
abbrev pub own : ℕ → List Deed → List Act
own a [] = []
own a (d ∷ rest) = if nat_eq d.activation a then d.act ∷ own a rest else own a rest
