use Rattle.std.proofs.Common.{◌∙◌, ap}
use Rattle.c_syntax.specs.Shape.{probe}
use Rattle.c_syntax.specs.View.{node_shape, probe_shape}
use Rattle.c_syntax.proofs.Open.{select_open}
use Rattle.c_world.specs.World.{state_of}
use Rattle.c_eval.proofs.Roles.{test_opens, select_opens, probe_pushed}
use Rattle.c_eval_once.proofs.Told.{probe_form}
use Rattle.c_eval.proofs.work.Work.pass.Goals as goal

pub loop-inner-preserved-in-Test-1 : goal.loop-inner-preserved-in-Test-1
loop-inner-preserved-in-Test-1 c =
    let a = c.deref-inner-in-Test.result.now in (
      λ t k h. test_opens t k c.loop-inner.inner (state_of c.loop-inner.world h) c.loop-inner.self.stack.items c.push.new.self.stack.items (node_shape a) _ c.in_ok-push-in-Test.ensures.pushed (probe_form c.loop-inner.inner.now a c.in-Probe.probe c.in-Probe.next c.in-Probe.is c.deref-inner-in-Test.ensures ∙ ap (λ u. probe (probe_shape u) (node_shape a)) c.in-Test.is) ∙ c.loop-inner.invariant.0 t k h,
      probe_pushed c.loop-inner.self.stack.items c.push.new.self.stack.items c.loop-inner.inner c.in_ok-push-in-Test.ensures.pushed ∙ c.loop-inner.invariant.1,
      c.loop-inner.invariant.2,
      c.loop-inner.invariant.3,
    )

pub loop-inner-preserved : goal.loop-inner-preserved
loop-inner-preserved c =
    let a = c.deref-inner-in-Select.result.now in (
      λ t k h. select_opens t k c.loop-inner.inner (state_of c.loop-inner.world h) c.loop-inner.self.stack.items c.push-in-Select.new.self.stack.items (node_shape a) _ _ c.in_ok-push-in-Select.ensures.pushed (probe_form c.loop-inner.inner.now a c.in-Probe.probe c.in-Probe.next c.in-Probe.is c.deref-inner-in-Select.ensures ∙ ap (λ p. probe p (node_shape a)) (ap probe_shape c.in-Select.is ∙ select_open _ _)) ∙ c.loop-inner.invariant.0 t k h,
      probe_pushed c.loop-inner.self.stack.items c.push-in-Select.new.self.stack.items c.loop-inner.inner c.in_ok-push-in-Select.ensures.pushed ∙ c.loop-inner.invariant.1,
      c.loop-inner.invariant.2,
      c.loop-inner.invariant.3,
    )
