-- The facts up to the last one are there.
use Rattle.std.proofs.Common.{◌-◌, ◌^◌}
use Rattle.atac_facts.specs.Sets.{start_of}
use Rattle.trace_file.proofs.OneRun.{Kept}
use Rattle.trace_file.proofs.sums.facts_tally.Given as goal

abbrev pub invariant-loop-fact : goal.invariant-loop-fact
invariant-loop-fact l = Kept l.facts l.last l.tally

abbrev pub decreases-loop-fact : goal.decreases-loop-fact
decreases-loop-fact l = 2 ^ 66 - start_of l.last
