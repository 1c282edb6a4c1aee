use Rattle.std.proofs.Common.{◌≡◌, ◌∙◌, ◌++◌, ◌∷◌, ap, sym, refl, subst, map, arith}
use Rattle.c_syntax.specs.View.{note_shape, node_shape, node_list, type_of}
use Rattle.c_tables.specs.Tables.{tables_shape}
use Rattle.c_meaning.specs.Firsts.{quiet}
use Rattle.c_meaning.specs.Results.{then_do}
use Rattle.c_meaning.specs.Builtins.{called, as_parameter}
use Rattle.c_meaning.specs.Expressions.{arguments}
use Rattle.c_world.specs.World.{state_of}
use Rattle.c_eval.specs.declared.frame.Wait.TheVariants as wait
use Rattle.c_eval_once.specs.declared.reply.Answer.TheVariants as answered
use Rattle.c_eval.specs.Rest.{Val, waiting, all_do, answer, left, to_value, weights}
use Rattle.c_eval_once.specs.Parts.{value}
use Rattle.c_eval_once.specs.Forms.{Meets}
use Rattle.c_eval.proofs.Opened.{no_arguments, argument_opens, argument_taken}
use Rattle.c_eval.proofs.Roles.{kept_further}
use Rattle.c_eval.proofs.work.Work.arguments.Goals as goal

pub returns-in_default-clause-rest : goal.returns-in_default-clause-rest
returns-in_default-clause-rest c = λ k h.
    let t = tables_shape c.args.tables.now in
    let n = note_shape c.args.node.now.note in
    let s = state_of c.loop-first.world h in
    let done = c.loop-first.done.items in
    c.in_ok-step.ensures.rest k h
    ∙ ap (λ fs. then_do (called t k n done s) (to_value (all_do t k fs answer))) c.loop-first.invariant.0
    ∙ no_arguments t k n c.loop-first.others.now (map type_of c.loop-first.kinds.now) s done (to_value (left t k c.args.self.now)) c.in_default.ensures.cases
    ∙ c.loop-first.invariant.1 k h

pub returns-in_default-clause-size : goal.returns-in_default-clause-size
returns-in_default-clause-size c = omega (arith, c.in_ok-step.ensures.size, ap weights c.loop-first.invariant.0)

pub returns-in-None-clause-rest : goal.returns-in-None-clause-rest
returns-in-None-clause-rest c = λ k h.
    let t = tables_shape c.args.tables.now in
    let n = note_shape c.args.node.now.note in
    let s = state_of c.direct.new.world h in
    let go = left t k c.args.self.now in
    let done = c.loop-first.done in
    let ts = map type_of c.loop-first.kinds.now in
    let a = c.in-Some.first.now in
    c.in_ok-step-in-None.ensures.rest t k s
    ∙ ap (λ fs. then_do (value t k (node_shape a) s) (λ v s. waiting t k c.args.node.now (wait.Argument c.loop-first.kinds c.in-Some.behind done) (all_do t k fs answer) (Val v) s)) c.loop-first.invariant.0
    ∙ argument_opens t k c.args.node.now s go a c.in-Some.behind c.loop-first.kinds done ts done.items refl refl
    ∙ ap (λ s. then_do (then_do (arguments t k (node_list (a ∷ c.in-Some.behind.now)) ts (quiet 0) s) (λ vs. called t k n (done.items ++ vs))) (to_value go)) (c.in-None.ensures.is k h)
    ∙ ap (λ xs. then_do (then_do (arguments t k (node_list xs) ts (quiet 0) (state_of c.loop-first.world h)) (λ vs. called t k n (done.items ++ vs))) (to_value go)) (sym c.in-Some.ensures.cases.0)
    ∙ c.loop-first.invariant.1 k h

pub returns-in-None-clause-size : goal.returns-in-None-clause-size
returns-in-None-clause-size c = omega (arith, c.in_ok-step-in-None.ensures.size, ap weights c.loop-first.invariant.0)

pub loop-first-preserved : goal.loop-first-preserved
loop-first-preserved c = (
  c.loop-first.invariant.0,
  λ k h.
      let t = tables_shape c.args.tables.now in
      let i : c.in-Some-Value.field-0 ≡ answered.Value c.in-Some-Value.value = c.in-Some-Value.field-0-is in
      argument_taken t k (note_shape c.args.node.now.note) c.in-Some.first.now c.loop-first.others.now c.in-Some.behind.now (map type_of c.loop-first.kinds.now) (map type_of c.behind_first-kinds.result.now) (state_of c.loop-first.world h) (state_of c.direct.new.world h) c.in-Some-Value.value c.parameter.result c.loop-first.done.items c.push.new.self.items (to_value (left t k c.args.self.now)) (subst (λ a. Meets a (state_of c.direct.new.world h) (value t k (node_shape c.in-Some.first.now) (state_of c.loop-first.world h))) i (c.in-Some-Value.ensures.is k h)) c.in-Some.ensures.cases.0 c.behind_first-kinds.ensures (c.parameter.ensures ∙ ap (as_parameter (map type_of c.loop-first.kinds.now)) c.in-Some-Value.value-is) c.in-Ok.ensures.items
      ∙ c.loop-first.invariant.1 k h,
  omega (arith, c.in-Some-Value.ensures.turns, c.loop-first.invariant.2),
  kept_further _ _ _ c.loop-first.invariant.3 c.in-Some-Value.ensures.kept,
)
