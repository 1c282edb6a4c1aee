-- One pair after the other, and the outcome at the end.
use Rattle.std.proofs.Common.{arith, refl, inl}
use Rattle.atac_facts.specs.declared.fact.Fact.TheVariants as fact
use Rattle.cover_parts.specs.Gaining.{Has}
use Rattle.cover_parts.proofs.Settling.{count_more, count_all, outcome_lacks, test_false, read_same}
use Rattle.cover_parts.proofs.settle.lacking.Goals as goal

pub loop-w-preserved : goal.loop-w-preserved
loop-w-preserved c = record {
  few = omega (arith, c.loop-w.invariant.few, c.lacks-count.ensures.small);
  rest = count_more c.args.facts.now c.args.decision c.args.outcome c.args.waits.now c.loop-w.w-index c.loop-w.count c.lacks-count.result _ c.loop-w-test.true (read_same c.args.waits.now c.loop-w.w-index _ c.loop-w-test.true) c.lacks-count.ensures.adds c.loop-w.invariant.rest;
}

pub returns-then-has : goal.returns-then-has
returns-then-has c = inl (c.if-has.ensures.0 refl, count_all c.args.facts.now c.args.decision c.args.outcome c.args.waits.now c.loop-w.w-index c.loop-w.count c.loop-w-test.false c.loop-w.invariant.rest)

pub returns-else-has : goal.returns-else-has
returns-else-has c = outcome_lacks c.args.facts.now c.args.decision c.args.outcome c.loop-w.count c.args.waits.now (test_false (Has c.args.facts.now (fact.Outcome c.args.decision c.args.outcome)) c.if-has.ensures.1) (count_all c.args.facts.now c.args.decision c.args.outcome c.args.waits.now c.loop-w.w-index c.loop-w.count c.loop-w-test.false c.loop-w.invariant.rest)
