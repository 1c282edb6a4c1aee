use Rattle.std.proofs.Common.{◌++◌, [], take, refl, ap}
use Rattle.std.proofs.lemmas.Result.{err_from_is_err_and}
use Rattle.c_eval.proofs.Advanced.{front_taken, none_pending}
use Rattle.c_machine.proofs.running.tell.Goals as goal

pub returns-in_err-tell-clause-front : goal.returns-in_err-tell-clause-front
returns-in_err-tell-clause-front g c = let p = err_from_is_err_and c.from_residual.result c.from_residual.ensures.1 in rw p.1 (λ l.
    let w = c.in_err-tell.ensures.up_to in
    (l ++ take w.0 c.args.world.now.pending.items, (λ h. w.1 h l), front_taken l c.args.world.now.pending.items w.0))

pub returns-clause-told : goal.returns-clause-told
returns-clause-told g c = λ l. (l ++ c.args.world.now.pending.items, (λ h. c.in_ok-tell.ensures.told h l), c.in_ok-tell.ensures.rest l)

pub returns-clause-empty : goal.returns-clause-empty
returns-clause-empty g c = none_pending c.args.world.now.pending.items c.tell.new.self.pending.items _ _ refl refl (c.in_ok-tell.ensures.rest [])

pub returns-clause-turns : goal.returns-clause-turns
returns-clause-turns g c = ap (λ s. s.turns) (c.in_ok-tell.ensures.rest [])
