use Rattle.std.proofs.Common.{◌∙◌, ap, sym, refl, rules}
use Rattle.std.proofs.lemmas.Result.{err_from_is_err_and}
use Rattle.c_tables.specs.Tables.{tables_shape}
use Rattle.c_world.specs.World.{state_of}
use Rattle.c_eval.proofs.Advanced.{grown_later, front_pending}
use Rattle.c_machine.specs.Run.{ended_as}
use Rattle.c_machine.specs.Todo.{left_after, left_in, knot_of}
use Rattle.c_machine.proofs.Runs.{same_grown}
use Rattle.c_machine.proofs.Grown.{machine_grown, machine_after}
use Rattle.c_machine.proofs.running.follow.Goals as goal

pub returns-in_err-step-clause-front : goal.returns-in_err-step-clause-front
returns-in_err-step-clause-front g c = let p = err_from_is_err_and c.from_residual.result c.from_residual.ensures.1 in rw p.1 (λ m.
    let P = c.args.plan.now.program.now in
    let w = c.loop-step.invariant.0 m in
    (w.0, w.1, same_grown w.0 _ _ (sym w.2) (machine_grown P c.loop-step.machine (state_of c.loop-step.world w.0) w.0 (front_pending w.0 c.loop-step.world.pending.items))))

pub returns-in_err-tell-clause-front : goal.returns-in_err-tell-clause-front
returns-in_err-tell-clause-front g c = let p = err_from_is_err_and c.from_residual-in_err-tell.result c.from_residual-in_err-tell.ensures.1 in rw p.1 (λ m.
    let P = c.args.plan.now.program.now in
    let w = c.loop-step.invariant.0 m in
    let v = c.in_err-tell.ensures.front w.0 in
    let s = state_of c.step.new.world w.0 in
    (v.0, (λ h at. v.1 h (w.1 h at)), same_grown v.0 _ _ (sym w.2 ∙ sym (c.in_ok-step.ensures.left w.0)) (grown_later v.0 s (left_after (tables_shape P.tables) (knot_of P) c.in_ok-step.step c.step.new.self s) v.2 (machine_after P c.in_ok-step.step c.step.new.self s))))

pub loop-step-init : goal.loop-step-init
loop-step-init g c = ((λ m. (m, (λ h at. at), refl)), c.requires.tied, search rules, refl)

pub loop-step-preserved : goal.loop-step-preserved
loop-step-preserved g c =
    let P = c.args.plan.now.program.now in
    let t = tables_shape P.tables in
    let k = knot_of P in (
      (λ m.
          let w = c.loop-step.invariant.0 m in
          let v = c.in_ok-tell.ensures.told w.0 in
          (v.0, (λ h at. v.1 h (w.1 h at)), ap (λ s. left_in t k c.step.new.self s) v.2 ∙ sym (ap (λ a. left_after t k a c.step.new.self (state_of c.step.new.world w.0)) c.in-More.is) ∙ c.in_ok-step.ensures.left w.0 ∙ w.2)),
      search rules,
      search rules,
      search rules,
    )

pub returns-in-Ended-clause-done : goal.returns-in-Ended-clause-done
returns-in-Ended-clause-done g c = λ m.
    let P = c.args.plan.now.program.now in
    let t = tables_shape P.tables in
    let k = knot_of P in
    let w = c.loop-step.invariant.0 m in
    let v = c.in_ok-tell.ensures.told w.0 in
    (v.0, (λ h at. v.1 h (w.1 h at)), sym w.2 ∙ sym (c.in_ok-step.ensures.left w.0) ∙ ap (λ a. left_after t k a c.step.new.self (state_of c.step.new.world w.0)) c.in-Ended.is ∙ ap (λ s. ended_as c.step.new.self.ended s) (sym v.2))
