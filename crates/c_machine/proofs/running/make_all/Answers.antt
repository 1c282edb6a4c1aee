use Rattle.std.proofs.Common.{ap, sym, ◌∙◌}
use Rattle.std.proofs.lemmas.Result.{err_from_is_err_and}
use Rattle.c_meaning.specs.Lasting.{IsLater}
use Rattle.c_meaning.specs.Runs.{all_made, silent}
use Rattle.c_meaning.proofs.SteadyRuns.{all_made_kept, later_lasts}
use Rattle.c_meaning.specs.Sources.{source_of}
use Rattle.c_world.specs.World.{state_of, answered}
use Rattle.c_eval.proofs.Advanced.{grown_later, front_pending}
use Rattle.c_machine.proofs.Runs.{answered_grown}
use Rattle.c_machine.proofs.running.make_all.Goals as goal

pub returns-in_err-made-clause-front : goal.returns-in_err-made-clause-front
returns-in_err-made-clause-front g c = let p = err_from_is_err_and c.from_residual.result c.from_residual.ensures.1 in rw p.1 (λ l.
    let P = source_of c.args.world.now.program.now in
    let s = state_of c.args.world.now l in
    (l, (λ h at. at), grown_later l s (all_made P silent s) (front_pending l c.args.world.now.pending.items) (all_made_kept IsLater IsLater IsLater IsLater later_lasts P silent s)))

pub returns-in_err-tell-clause-front : goal.returns-in_err-tell-clause-front
returns-in_err-tell-clause-front g c = let p = err_from_is_err_and c.from_residual-in_err-tell.result c.from_residual-in_err-tell.ensures.1 in rw p.1 (λ l.
    let P = source_of c.args.world.now.program.now in
    let w = c.in_err-tell.ensures.front l in
    (w.0, w.1, answered_grown w.0 (all_made P silent (state_of c.args.world.now l)) c.in_ok-made.made (state_of c.begin.new.self l) (c.in_ok-made.ensures.done l) w.2))

pub returns-clause-done : goal.returns-clause-done
returns-clause-done g c = λ l.
    let w = c.in_ok-tell.ensures.told l in
    (w.0, w.1, c.in_ok-made.ensures.done l ∙ ap (answered c.in_ok-made.made) (sym w.2))
