-- What is typed of a unit in the first pass, where nothing is complained of in the second one: the same.
use Rattle.std.specs.Prelude.{◌≡◌, List, [], Bool, Some, None}
use Rattle.c_syntax.specs.Shape.{UnitShape}
use Rattle.c_tree.specs.State.{State}
use Rattle.c_tree.specs.Units.{type_unit}

-- the first pass knows of no bodies, and allows each call
abbrev pub first_pass : State → State
first_pass s = record s { known = None }

-- a unit of which nothing is complained, where the functions of some list count as defined, has the same types and tables where all do
abbrev pub PassesAgree : Type 0
PassesAgree = (defined : List Bool) (u : UnitShape) → (type_unit (Some defined) u).state.complaints ≡ [] →
    type_unit None u ≡ record { unit = (type_unit (Some defined) u).unit; state = first_pass (type_unit (Some defined) u).state }
