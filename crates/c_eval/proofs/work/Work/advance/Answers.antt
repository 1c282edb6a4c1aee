use Rattle.std.proofs.Common.{◌≡◌, ◌∙◌, ◌+◌, ◌*◌, [], ap, subst}
use Rattle.std.proofs.lemmas.Result.{err_from_is_err_and}
use Rattle.c_tables.specs.Tables.{tables_shape}
use Rattle.c_world.specs.World.{state_of, tables_of}
use Rattle.c_eval.specs.Rest.{rest, rest_after, size}
use Rattle.c_eval.specs.Advance.{advance_of}
use Rattle.c_eval.proofs.Advanced.{advanced, fallen, work_grown, after_grown, front_pending}
use Rattle.c_eval.proofs.work.Work.advance.Goals as goal

pub returns-in_err-step-clause-front : goal.returns-in_err-step-clause-front
returns-in_err-step-clause-front g c = let p = err_from_is_err_and c.from_residual.result c.from_residual.ensures.1 in rw p.1 (λ k keeps h l at.
    (l, at, work_grown (tables_of c.args.world.now) k keeps c.args.self.now (state_of c.args.world.now l) l (front_pending l c.args.world.now.pending.items)))

pub returns-in_err-advance-clause-front : goal.returns-in_err-advance-clause-front
returns-in_err-advance-clause-front g c = let p = err_from_is_err_and c.from_residual-in_err-advance.result c.from_residual-in_err-advance.ensures.1 in rw p.1 (λ k keeps h l at.
    let w = c.in_err-advance.ensures.front h l at in
    let e = subst (λ t. rest_after (tables_shape t) k c.in_ok-step.step c.step.new.self (state_of c.step.new.world l) ≡ rest (tables_shape t) k c.args.self.now (state_of c.args.world.now l)) c.tables.ensures (c.in_ok-step.ensures.rest k l) in
    (w.0, w.1, after_grown (tables_of c.args.world.now) k keeps c.in_ok-step.step c.step.new.self (state_of c.step.new.world l) w.0 (rest (tables_of c.args.world.now) k c.args.self.now (state_of c.args.world.now l)) e w.2))

pub returns-clause-rest : goal.returns-clause-rest
returns-clause-rest g c = λ k h l at.
    let w = c.in_ok-advance.ensures.told h l at in
    let e = subst (λ t. rest_after (tables_shape t) k c.in_ok-step.step c.step.new.self (state_of c.step.new.world l) ≡ rest (tables_shape t) k c.args.self.now (state_of c.args.world.now l)) c.tables.ensures (c.in_ok-step.ensures.rest k l) in
    let is = c.in_ok-advance.ensures.advance l ∙ ap (λ p. advance_of (tables_shape p.tables) (state_of c.step.new.world l) c.in_ok-step.step) c.in_ok-step.ensures.kept.program in
    (w.0, w.1, advanced (tables_of c.args.world.now) k c.in_ok-step.step c.in_ok-advance.advance c.step.new.self (state_of c.step.new.world l) (state_of c.tell.new.world w.0) (rest (tables_of c.args.world.now) k c.args.self.now (state_of c.args.world.now l)) is w.2 e)

pub returns-clause-falls : goal.returns-clause-falls
returns-clause-falls g c =
    fallen (tables_of c.step.new.world) c.in_ok-step.step c.in_ok-advance.advance c.step.new.self (state_of c.step.new.world [])
    (4 * c.args.world.now.turns + size c.args.self.now) c.step.new.world.turns c.tell.new.world.turns (c.in_ok-advance.ensures.advance []) c.in_ok-advance.ensures.turns c.in_ok-step.ensures.falls
