-- A direct place is at the part of its variable that it is called by.
use Rattle.std.specs.Prelude.{◌≡◌, ℕ, Some}
use Rattle.c_syntax.specs.Shape.{TypeOf, array, NodeShape}
use Rattle.c_store.specs.declared.value.Value.{Value}
use Rattle.c_store.specs.declared.value.Value.TheVariants.{At}
use Rattle.c_store.specs.declared.value.Pointer.{Pointer}
use Rattle.c_tables.specs.Tables.{TablesShape}
use Rattle.c_walk.specs.declared.around.Taken.{Taken}
use Rattle.c_walk.specs.Items.{Direct}
use Rattle.c_walk.specs.Places.{direct}
use Rattle.c_meaning.specs.State.{State}
use Rattle.c_meaning.specs.Results.{Gives}
use Rattle.c_meaning.specs.Firsts.{First}
use Rattle.c_meaning.specs.Knot.{Knot}
use Rattle.c_meaning.specs.Expressions.{meaning}
use Rattle.flow_names.specs.Keeping.{HasSameNames, KeepsNames}
use Rattle.flow_leaves.specs.Kinded.{kind_of, IsKinded}
use Rattle.flow_leaves.specs.Standing.{root_of, StandsAt, BeginsAt}

-- wherever the place is found
abbrev pub DirectPlacesStand : Type 0
DirectPlacesStand = (t : TablesShape) (k : Knot) → KeepsNames k → (a : NodeShape) (d : Direct) → IsKinded t a → direct a ≡ Some d → (r : Taken) (i : First) (s u : State) (q : Pointer)
    → (meaning t k a).place r i s ≡ Gives q u → HasSameNames s u × StandsAt t (root_of a) d u q

-- and the value of one that is an array is a pointer to its first element
abbrev pub DirectArraysBegin : Type 0
DirectArraysBegin = (t : TablesShape) (k : Knot) → KeepsNames k → (a : NodeShape) (d : Direct) (y : TypeOf) (n : ℕ) → IsKinded t a → direct a ≡ Some d → kind_of a ≡ Some (array y n) → (i : First) (s u : State) (v : Value)
    → (meaning t k a).value i s ≡ Gives (Some v) u → HasSameNames s u × ((q : Pointer) × (v ≡ At q) × BeginsAt t (root_of a) d y n u q)
