use Rattle.std.proofs.Common.{pos, arith, rules}
use Rattle.probe_expr.proofs.Lists.{constant_onto}
use Rattle.probe_expr.proofs.selects.constants_at.Goals as goal

pub loop-value-preserved : goal.loop-value-preserved
loop-value-preserved c =
    constant_onto _ _ _ _ _ c.args.values.now c.loop-value.value-index (pos 0) _ _ c.in_ok-put_inner.ensures (omega arith) c.in_ok-made.ensures (search rules) c.loop-value.invariant
