use Rattle.std.proofs.Common.{rules, arith}
use Rattle.c_types.proofs.Rows.{body_next}
use Rattle.c_types.proofs.units.bodies.Goals as goal

pub loop-i-preserved : goal.loop-i-preserved
loop-i-preserved c = body_next _ c.loop-i.i _ _ c.function.ensures (omega arith) c.is_some-has_body.result c.loop-i.bodies.items _ c.is_some-has_body.ensures c.loop-i.invariant (search rules)
