-- A list that is kept for the next call changes nothing of what is still to do.
use Rattle.std.proofs.Common.{◌≡◌, refl, Vec, Global}
use Rattle.c_store.specs.declared.value.Value.{Value}
use Rattle.c_tables.specs.Tables.{TablesShape}
use Rattle.c_meaning.specs.State.{State}
use Rattle.c_meaning.specs.Knot.{Knot}
use Rattle.c_eval.specs.declared.work.Work.{Work}
use Rattle.c_machine.specs.declared.machine.Machine.{Machine}
use Rattle.c_machine.specs.declared.parts.Active.{Active}
use Rattle.c_machine.specs.declared.parts.Active.TheVariants as active
use Rattle.c_machine.specs.declared.parts.Use.{Use}
use Rattle.c_machine.specs.declared.parts.Step.{Step}
use Rattle.c_machine.specs.declared.parts.Step.TheVariants as step
use Rattle.c_machine.specs.Todo.{Leaver, active_left, behind, left_after}

spare_left : (t : TablesShape) (k : Knot) (a : Active) (w : Work) (x : Vec Value Global) (u : Use) (go : Leaver) (s : State) → active_left t k a (record w { spare = x }) u go s ≡ active_left t k a w u go s
spare_left t k (active.Open p) w x u go s = refl
spare_left t k (active.Left f) w x u go s = refl
spare_left t k (active.Turn l) w x u go s = refl
spare_left t k active.Busy w x u go s = refl

pub spare_after : (t : TablesShape) (k : Knot) (a : Step) (m : Machine) (x : Vec Value Global) (s : State) → left_after t k a (record m { work = record m.work { spare = x } }) s ≡ left_after t k a m s
spare_after t k step.More m x s = spare_left t k m.active m.work x m.used (behind t k m) s
spare_after t k step.Ended m x s = refl
