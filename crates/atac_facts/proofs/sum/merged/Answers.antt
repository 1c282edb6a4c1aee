-- One row more of the sum.
use Rattle.std.proofs.Common.{List, subst, sym}
use Rattle.atac_facts.specs.declared.tally.Counted.{Counted}
use Rattle.atac_facts.proofs.Sums.{Keeps, begins, keeps_on, ends}
use Rattle.atac_facts.proofs.sum.merged.Goals as goal

pub loop-row-init : goal.loop-row-init
loop-row-init c =
    subst (λ (s : List Counted). Keeps s c.args.first.now c.args.second.now c.args.first.now c.args.second.now) (sym c.new-sum.ensures) (begins c.args.first.now c.args.second.now c.requires.first c.requires.second)

pub append-requires-clause-last : goal.append-requires-clause-last
append-requires-clause-last c = (c.in-Some.ensures.some _ c.loop-row.invariant.order_a c.loop-row.invariant.order_b).from

pub append-requires-clause-met : goal.append-requires-clause-met
append-requires-clause-met c = (c.in-Some.ensures.some _ c.loop-row.invariant.order_a c.loop-row.invariant.order_b).met

pub loop-row-preserved : goal.loop-row-preserved
loop-row-preserved c =
    keeps_on c.loop-row.sum c.append.new.self c.loop-row.a.now c.loop-row.b.now c.in-Some.rest_a.now c.in-Some.rest_b.now c.args.first.now c.args.second.now c.in-Some.row c.loop-row.invariant c.in-Some.ensures.some c.in_ok-append.ensures.ok

pub returns : goal.returns
returns c =
    ends c.loop-row.sum c.loop-row.a.now c.loop-row.b.now c.args.first.now c.args.second.now c.loop-row.invariant c.in_default.ensures.none
