-- One pair is taken out, or stays.
use Rattle.std.proofs.Common.{subst, arith, List}
use Rattle.cover_parts.specs.declared.pending.Wait.{Wait}
use Rattle.cover_parts.specs.Waits.{Bounds}
use Rattle.cover_parts.proofs.Order.{all_at_first, others_at_last, one_out}
use Rattle.cover_parts.proofs.pending.forget_in.Goals as goal

pub loop-i-init : goal.loop-i-init
loop-i-init c =
    let b = subst (λ (l : List Wait). Bounds c.args.activation l c.bounds-low.result.0 c.bounds-low.result.1) c.deref.ensures.value c.bounds-low.ensures in
    record { from = b.order; to = omega arith; items = all_at_first c.args.decision c.args.activation c.args.waits.now.items _ _ b }

pub loop-i-preserved-then-index-decision : goal.loop-i-preserved-then-index-decision
loop-i-preserved-then-index-decision c =
    let b = subst (λ (l : List Wait). Bounds c.args.activation l c.bounds-low.result.0 c.bounds-low.result.1) c.deref.ensures.value c.bounds-low.ensures in
    let v = c.loop-i.invariant in
    record {
      from = omega arith;
      to = omega arith;
      items = one_out c.args.decision c.args.activation c.args.waits.now.items c.loop-i.waits.items c.remove.new.self.items _ _ c.loop-i.i _ c.index.result.now b (omega arith) (omega arith) v.to v.items c.index.ensures c.if-index-decision.true c.remove.ensures.items;
    }

pub returns : goal.returns
returns c =
    let b = subst (λ (l : List Wait). Bounds c.args.activation l c.bounds-low.result.0 c.bounds-low.result.1) c.deref.ensures.value c.bounds-low.ensures in
    others_at_last c.args.decision c.args.activation c.args.waits.now.items c.loop-i.waits.items _ _ c.loop-i.i b (omega arith) c.loop-i.invariant.items
