use Rattle.std.proofs.Common.{◌+◌, rules, arith}
use Rattle.c_types_decl.proofs.Named.{bodies_first, bodies_next, bodies_last}
use Rattle.c_types_decl.proofs.bodies.give_bodies.Goals as goal

pub loop-i-init : goal.loop-i-init
loop-i-init c = record { same = bodies_first _ _; count = search rules }

pub loop-i-preserved : goal.loop-i-preserved
loop-i-preserved c = record {
  same = bodies_next c.args.name.now c.loop-i.i (c.loop-i.i + 1) _ _ _ (omega arith) c.give_body_at.ensures.rows c.loop-i.invariant.same;
  count = search rules;
}

pub returns : goal.returns
returns c = bodies_last _ _ _ _ (omega arith) c.loop-i.invariant.same
