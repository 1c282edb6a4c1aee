use Rattle.std.proofs.Common.{◌∙◌, ap, sym, []}
use Rattle.std.proofs.lemmas.Result.{err_from_is_err_and}
use Rattle.c_tables.specs.Tables.{tables_shape}
use Rattle.c_meaning.specs.Results.{Stops}
use Rattle.c_meaning.specs.Runs.{silent}
use Rattle.c_meaning.proofs.SteadyRuns.{calls_later}
use Rattle.c_meaning.specs.Sources.{source_of}
use Rattle.c_world.specs.World.{state_of}
use Rattle.c_eval.proofs.Advanced.{grown_later, front_pending}
use Rattle.c_machine.specs.Todo.{begun_left, left_in, knot_of}
use Rattle.c_machine.proofs.Runs.{same_grown}
use Rattle.c_machine.proofs.Grown.{begun_later}
use Rattle.c_machine.proofs.running.call.Goals as goal

pub returns-in_err-begun-clause-front : goal.returns-in_err-begun-clause-front
returns-in_err-begun-clause-front g c = let p = err_from_is_err_and c.from_residual.result c.from_residual.ensures.1 in rw p.1 (λ l.
    let P = c.args.plan.now.program.now in
    let s = state_of c.args.world.now l in
    (l, (λ h at. at), grown_later l s ((knot_of P).call c.args.function [] s) (front_pending l c.args.world.now.pending.items) ((calls_later (source_of P) silent).call_keeps c.args.function [] s)))

pub returns-in_err-tell-clause-front : goal.returns-in_err-tell-clause-front
returns-in_err-tell-clause-front g c = let p = err_from_is_err_and c.from_residual-in_err-tell.result c.from_residual-in_err-tell.ensures.1 in rw p.1 (λ l.
    let P = c.args.plan.now.program.now in
    let w = c.in_err-tell.ensures.front l in
    let s = state_of c.begin_run.new.world l in
    (w.0, w.1, same_grown w.0 _ _ (sym (c.in_ok-begun.ensures.left l)) (grown_later w.0 s (begun_left (tables_shape P.tables) (knot_of P) c.in_ok-begun.begun s) w.2 (begun_later P c.in_ok-begun.begun s))))

pub returns-in-Stopped-clause-done : goal.returns-in-Stopped-clause-done
returns-in-Stopped-clause-done g c = λ l.
    let P = c.args.plan.now.program.now in
    let w = c.in_ok-tell.ensures.told l in
    (w.0, w.1, sym (c.in_ok-begun.ensures.left l) ∙ ap (λ b. begun_left (tables_shape P.tables) (knot_of P) b (state_of c.begin_run.new.world l)) c.in-Stopped.is ∙ ap (λ s. Stops c.in-Stopped.why s) (sym w.2))

pub returns-in_ok-ended-in-Running-clause-done : goal.returns-in_ok-ended-in-Running-clause-done
returns-in_ok-ended-in-Running-clause-done g c = λ l.
    let P = c.args.plan.now.program.now in
    let w = c.in_ok-tell.ensures.told l in
    let v = c.in_ok-ended-in-Running.ensures.done w.0 in
    (v.0, (λ h at. v.1 h (w.1 h at)), sym (c.in_ok-begun.ensures.left l) ∙ ap (λ b. begun_left (tables_shape P.tables) (knot_of P) b (state_of c.begin_run.new.world l)) c.in-Running.is ∙ ap (λ s. left_in (tables_shape P.tables) (knot_of P) c.in-Running.machine s) (sym w.2) ∙ v.2)

pub returns-in_err-ended-in-Running-clause-front : goal.returns-in_err-ended-in-Running-clause-front
returns-in_err-ended-in-Running-clause-front g c = let p = err_from_is_err_and c.from_residual-in_err-ended-in-Running.result c.from_residual-in_err-ended-in-Running.ensures.1 in rw p.1 (λ l.
    let P = c.args.plan.now.program.now in
    let w = c.in_ok-tell.ensures.told l in
    let v = c.in_err-ended-in-Running.ensures.front w.0 in
    (v.0, (λ h at. v.1 h (w.1 h at)), same_grown v.0 _ _ (sym (c.in_ok-begun.ensures.left l) ∙ ap (λ b. begun_left (tables_shape P.tables) (knot_of P) b (state_of c.begin_run.new.world l)) c.in-Running.is ∙ ap (λ s. left_in (tables_shape P.tables) (knot_of P) c.in-Running.machine s) (sym w.2)) v.2))
