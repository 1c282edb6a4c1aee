-- The next fact of the set is the next row.
use Rattle.trace_file.proofs.OneRun.{kept_more, all_counted}
use Rattle.trace_file.proofs.sums.facts_tally.Goals as goal

pub loop-fact-preserved : goal.loop-fact-preserved
loop-fact-preserved c = kept_more _ _ _ _ _ c.loop-fact.invariant c.in-Some.ensures.some c.in_ok-append.ensures.ok

pub returns-clause-counts : goal.returns-clause-counts
returns-clause-counts c = all_counted _ _ _ c.loop-fact.invariant c.in_default.ensures.none
