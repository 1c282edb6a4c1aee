-- The part between the bounds.
use Rattle.std.proofs.Common.{◌∙◌, ap, subst, List, take, drop, ◌-◌}
use Rattle.cover_parts.specs.declared.pending.Wait.{Wait}
use Rattle.cover_parts.specs.Waits.{those_in, Bounds}
use Rattle.cover_parts.proofs.Order.{range_is}
use Rattle.cover_parts.proofs.pending.Pending.those_in.Goals as goal

pub returns : goal.returns
returns c =
    let b = subst (λ (l : List Wait). Bounds c.args.activation l c.bounds-low.result.0 c.bounds-low.result.1) c.deref.ensures.value c.bounds-low.ensures in
    ap (λ l. take (c.bounds-low.result.1 - c.bounds-low.result.0) (drop c.bounds-low.result.0 l)) c.deref-2.ensures.value ∙ range_is c.args.activation c.self.inside.waits.items c.bounds-low.result.0 c.bounds-low.result.1 b ∙ ap (those_in c.args.activation) c.self.view_is
