-- The least row of both lists.
use Rattle.atac_facts.proofs.Sums.{left_first, right_first}
use Rattle.atac_facts.proofs.sum.least.Goals as goal

pub returns-then-is_before-clause-some : goal.returns-then-is_before-clause-some
returns-then-is_before-clause-some c = λ low oa ob.
    left_first low c.args.a.now c.args.b.now c.in-Some-Some.rest_a.now c.in-Some-Some.rest_b.now c.in-Some-Some.p.now c.in-Some-Some.q.now c.same_row-first.result c.same_row-second.result c.is_before.result
    c.in-Some-Some.ensures.cases.0 c.in-Some-Some.ensures'.cases.0 c.same_row-first.ensures.value c.same_row-first.ensures.small c.same_row-second.ensures.value c.if-is_before.true c.is_before.ensures oa ob

pub returns-then-is_before-2-clause-some : goal.returns-then-is_before-2-clause-some
returns-then-is_before-2-clause-some c = λ low oa ob.
    right_first low c.args.a.now c.args.b.now c.in-Some-Some.rest_a.now c.in-Some-Some.rest_b.now c.in-Some-Some.p.now c.in-Some-Some.q.now c.same_row-first.result c.same_row-second.result c.is_before-in-Some-Some.result
    c.in-Some-Some.ensures.cases.0 c.in-Some-Some.ensures'.cases.0 c.same_row-first.ensures.value c.same_row-second.ensures.value c.same_row-second.ensures.small c.if-is_before-2.true c.is_before-in-Some-Some.ensures oa ob
