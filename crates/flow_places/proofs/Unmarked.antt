-- Round a place whose sites may be told of stands no probe.
use Rattle.std.proofs.Common.{◌≡◌, [], refl, List}
use Rattle.c_base.specs.declared.place.Pos.{Pos}
use Rattle.c_syntax.specs.Shape.{NoteShape, NodeShape, node, ExprShape, leaf, paren, call, prefix, size_of_type, cast, suffix, two, choose, probe, Probing}
use Rattle.c_tables.specs.Tables.{TablesShape}
use Rattle.c_walk.specs.declared.around.Around.{Around}
use Rattle.c_walk.specs.declared.around.Taken.{Taken}
use Rattle.c_walk.specs.Walked.{Walked}
use Rattle.c_meaning.specs.State.{Bound}
use Rattle.c_meaning.specs.Places.{marks, marks_in}
use Rattle.flow_calls.specs.Placing.{Sites}
use Rattle.flow_places.specs.Sited.{IsSited, IsFormSited}

module _ (S : Sites) (F : List Bound) (t : TablesShape) where
  mutual
    pub unmarked : (u : Probing) (c : Around) (r : Taken) (a : NodeShape) (w : Walked) → IsSited S F t c r a w → marks u a ≡ []
    unmarked u c r (node p o n f) w h = form_unmarked u c r p n f w h

    form_unmarked : (u : Probing) (c : Around) (r : Taken) (p : Pos) (n : NoteShape) (f : ExprShape) (w : Walked) → IsFormSited S F t c r p n f w → marks_in u f ≡ []
    form_unmarked u c r p n (leaf l) w h = refl
    form_unmarked u c r p n (paren a) w h = unmarked u c r a w h
    form_unmarked u c r p n (call x args) w h = refl
    form_unmarked u c r p n (prefix x a) w h = refl
    form_unmarked u c r p n (size_of_type y) w h = refl
    form_unmarked u c r p n (cast y a) w h = refl
    form_unmarked u c r p n (suffix a x) w h = refl
    form_unmarked u c r p n (two x a b) w h = refl
    form_unmarked u c r p n (choose a b d) w h = refl
    form_unmarked u c r p n (probe x a) w h = absurd h
