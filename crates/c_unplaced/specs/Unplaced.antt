-- What is typed of a unit without its places: the same, without its places.
use Rattle.std.specs.Prelude.{◌≡◌, List, map, Bool, Option}
use Rattle.c_syntax.specs.Shape.{UnitShape}
use Rattle.c_syntax.specs.Start.{start}
use Rattle.c_placing.specs.Unplaced.{unplaced}
use Rattle.c_tree.specs.declared.meaning.Complaint.{Complaint}
use Rattle.c_tree.specs.State.{State}
use Rattle.c_tree.specs.Units.{type_unit}

-- each complaint at line 1, column 1; its token stays
abbrev pub unplaced_complaint : Complaint → Complaint
unplaced_complaint c = record c { pos = start }

abbrev pub unplaced_state : State → State
unplaced_state s = record s { complaints = map unplaced_complaint s.complaints }

-- typing sees no place: a unit without its places has the types, tables and complaints of the unit, these without their places
abbrev pub TypingSeesNoPlace : Type 0
TypingSeesNoPlace = (known : Option (List Bool)) (u : UnitShape) →
    ((type_unit known (unplaced u)).unit ≡ unplaced (type_unit known u).unit) × ((type_unit known (unplaced u)).state ≡ unplaced_state (type_unit known u).state)
