use Rattle.std.proofs.Common.{ap, subst, sym}
use Rattle.c_plan.specs.Routines.{routine_of}
use Rattle.c_meaning.specs.Sources.{source_of}
use Rattle.c_plan.specs.Extents.{Begins}
use Rattle.c_plan.specs.Starts.{IsStart}
use Rattle.c_plan.proofs.Planned.{added, added_none, added_some, begins_same}
use Rattle.c_plan.proofs.plan.add_function.Goals as goal
use Rattle.c_plan.proofs.plan.add_function.Goals.{in-None, in-Some+in_ok-start-in-Some}

pub returns-in-Ok-clause-starts : goal.returns-in-Ok-clause-starts
returns-in-Ok-clause-starts c =
    let P = source_of c.args.program.now in
    let m = c.match-find in
    let add = added P c.args.function c.args.starts.now.items c.push.new.self.items c.args.extents.now.items m.extents.items m.start c.requires.next c.in-Ok.ensures.items in
    elim m.branch [
      | in-None w ↦ add (begins_same _ _ (ap (λ v. v.items) w.extents-is)) (added_none P c.args.function c.find.result m.start m.extents.items c.find.ensures w.in-None.is)
      | in-Some+in_ok-start-in-Some w ↦ add
          (subst (λ v. Begins c.args.extents.now.items v.items) (sym w.extents-is) w.in_ok-start-in-Some.ensures.grown)
          (added_some P c.args.function c.find.result w.in-Some.routine m.start m.extents.items c.find.ensures w.in-Some.is
          (subst (λ v. IsStart (routine_of w.in-Some.routine) m.start v.items) (sym w.extents-is) (subst (λ s. IsStart (routine_of w.in-Some.routine) s w.put_function.new.extents.items) (sym w.start-is) w.in_ok-start-in-Some.ensures.start)))
    ]
