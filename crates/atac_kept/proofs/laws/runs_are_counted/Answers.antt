-- The lemmas themselves: a search gets lost in what they are said of.
use Rattle.atac_kept.proofs.Recorded.{one_more_run_is_counted, traces_tell_of_runs, sums_count_runs}
use Rattle.atac_kept.proofs.laws.runs_are_counted.Goals as goal

pub returns-clause-one : goal.returns-clause-one
returns-clause-one c = one_more_run_is_counted

pub returns-clause-all : goal.returns-clause-all
returns-clause-all c = traces_tell_of_runs

pub returns-clause-sum : goal.returns-clause-sum
returns-clause-sum c = sums_count_runs
