use Rattle.std.proofs.Common.{◌≡◌, ◌∙◌, ap, subst}
use Rattle.c_syntax.specs.View.{node_shape}
use Rattle.c_tables.specs.Tables.{tables_shape}
use Rattle.c_meaning.specs.Results.{then_do}
use Rattle.c_world.specs.World.{state_of}
use Rattle.c_eval.specs.declared.frame.Wait.TheVariants as wait
use Rattle.c_eval.proofs.Opened.{second_opens}
use Rattle.c_eval_once.proofs.Once.{once_given}
use Rattle.c_eval_once.specs.declared.reply.Answer.TheVariants as answer
use Rattle.c_eval.specs.Rest.{Val, waiting, left}
use Rattle.c_eval_once.specs.Parts.{value}
use Rattle.c_eval_once.specs.Forms.{Meets}
use Rattle.c_eval.proofs.work.Work.binary.Goals as goal

pub returns-in_ok-step-in-None-clause-rest : goal.returns-in_ok-step-in-None-clause-rest
returns-in_ok-step-in-None-clause-rest c = λ k h.
    let t = tables_shape c.args.tables.now in
    c.in_ok-step-in-None.ensures.rest t k (state_of c.direct.new.world h)
    ∙ ap (λ s. then_do (value t k (node_shape c.args.a.now) s) (λ v s. waiting t k c.args.node.now wait.Operand (left t k c.args.self.now) (Val v) s)) (c.in-None.ensures.is k h)

pub returns-in_ok-step-in-Some-Value-clause-rest : goal.returns-in_ok-step-in-Some-Value-clause-rest
returns-in_ok-step-in-Some-Value-clause-rest c = λ k h.
    let t = tables_shape c.args.tables.now in
    let s = state_of c.direct.new.world h in
    let go = left t k c.args.self.now in
    let i : c.in-Some-Value.field-0 ≡ answer.Value c.in-Some-Value.value = c.in-Some-Value.field-0-is in
    c.in_ok-step-in-Some-Value.ensures.rest k h
    ∙ second_opens t k c.args.node.now s go c.args.op (node_shape c.args.a.now) (node_shape c.args.b.now) c.in-Some-Value.value c.requires
    ∙ once_given (value t k (node_shape c.args.a.now) (state_of c.args.world.now h)) c.in-Some-Value.value s (λ v s. waiting t k c.args.node.now wait.Operand go (Val v) s) (subst (λ a. Meets a s (value t k (node_shape c.args.a.now) (state_of c.args.world.now h))) i (c.in-Some-Value.ensures.is k h))
