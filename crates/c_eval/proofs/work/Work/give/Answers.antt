use Rattle.std.proofs.Common.{◌∙◌, ap, sym}
use Rattle.c_tables.specs.Tables.{tables_shape}
use Rattle.c_world.specs.World.{state_of}
use Rattle.c_eval.specs.Rest.{Val, answer, all_do}
use Rattle.c_eval_once.specs.Forms.{told}
use Rattle.c_eval.proofs.Roles.{give_told, probe_weight, kept_further}
use Rattle.c_eval.proofs.work.Work.give.Goals as goal

pub returns-then-not-branch-clause-rest : goal.returns-then-not-branch-clause-rest
returns-then-not-branch-clause-rest c = λ k h.
    let t = tables_shape c.args.tables.now in
    let s' = state_of c.tell_waiting.new.world h in
    sym (give_told t k c.loop-frame.self.stack.items c.pop.new.self.items c.in-Some.frame c.args.value c.in_ok-tell_waiting.field-0 (state_of c.loop-frame.world h) s' (sym c.is_probe.ensures ∙ c.if-not-is_probe.false) c.in-Some.ensures.items (λ go. c.in_ok-tell_waiting.ensures.told t k go h)
    ∙ ap (λ b. told b s' (λ s. all_do t k c.pop.new.self.items answer (Val c.args.value) s)) c.if-not-branch.true)
    ∙ c.loop-frame.invariant.0 t k h

pub loop-frame-preserved : goal.loop-frame-preserved
loop-frame-preserved c =
    let is = sym c.is_probe.ensures ∙ c.if-not-is_probe.false in (
      λ t k h.
          let s' = state_of c.tell_waiting.new.world h in
          sym (give_told t k c.loop-frame.self.stack.items c.pop.new.self.items c.in-Some.frame c.args.value c.in_ok-tell_waiting.field-0 (state_of c.loop-frame.world h) s' is c.in-Some.ensures.items (λ go. c.in_ok-tell_waiting.ensures.told t k go h)
          ∙ ap (λ b. told b s' (λ s. all_do t k c.pop.new.self.items answer (Val c.args.value) s)) c.if-not-branch.false)
          ∙ c.loop-frame.invariant.0 t k h,
      probe_weight c.loop-frame.self.stack.items c.pop.new.self.items c.in-Some.frame is c.in-Some.ensures.items ∙ c.loop-frame.invariant.1,
      c.in_ok-tell_waiting.ensures.turns ∙ c.loop-frame.invariant.2,
      kept_further _ _ _ c.loop-frame.invariant.3 c.in_ok-tell_waiting.ensures.kept,
    )
