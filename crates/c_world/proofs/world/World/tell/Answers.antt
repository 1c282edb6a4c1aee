use Rattle.std.proofs.Common.{List, ◌++◌, length, sym, subst, ◌∙◌}
use Rattle.std.proofs.Math.Seq.{take-length}
use Rattle.std.proofs.lemmas.Result.{err_from_is_err_and}
use Rattle.c_events.specs.declared.events.Event.{Event}
use Rattle.c_world.proofs.world.World.tell.Goals as goal

pub returns-in_err-keep_living-clause-up_to : goal.returns-in_err-keep_living-clause-up_to
returns-in_err-keep_living-clause-up_to g c =
    let es = c.args.self.now.pending.items in
    let p = err_from_is_err_and c.from_residual-in_err-keep_living.result c.from_residual-in_err-keep_living.ensures.1 in
    rw p.1 (
      length es,
      (λ h l at.
          subst (λ (xs : List Event). g.P.Probes.stands_for c.keep_living.new.probes (h ++ (l ++ xs))) (c.deref-2.ensures.value ∙ sym (take-length es))
          (c.keep_living.ensures.kept _ (c.tell_ended.ensures.kept _ (c.in_ok-tell_all.ensures.told h l (c.tell_made.ensures.kept _ at))))),
    )

pub returns-in_err-keep_living-clause-front : goal.returns-in_err-keep_living-clause-front
returns-in_err-keep_living-clause-front g c =
    let es = c.args.self.now.pending.items in
    let p = err_from_is_err_and c.from_residual-in_err-keep_living.result c.from_residual-in_err-keep_living.ensures.1 in
    rw p.1 (λ h l at. (
      length es,
      subst (λ (xs : List Event). g.P.Probes.stands_for c.keep_living.new.probes (h ++ (l ++ xs))) (c.deref-2.ensures.value ∙ sym (take-length es))
          (c.keep_living.ensures.kept _ (c.tell_ended.ensures.kept _ (c.in_ok-tell_all.ensures.told h l (c.tell_made.ensures.kept _ at)))),
    ))
