-- The first word that has one.
use Rattle.std.proofs.Common.{refl}
use Rattle.atac_facts.proofs.facts.first_bit.Goals as goal

pub returns-in-Some-clause-some : goal.returns-in-Some-clause-some
returns-in-Some-clause-some c =
    (c.loop-i.i, record { from = c.loop-i.auto.i; within = c.loop-i-test.true; key_is = refl; here = c.in-Some.ensures.some; before = λ j from lt b small. c.loop-i.invariant j from lt b })
