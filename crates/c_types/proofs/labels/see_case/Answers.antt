use Rattle.c_types.specs.LabelsView.{neither, both}
use Rattle.c_types.proofs.labels.see_case.Goals as goal

pub returns-in_ok-complain-in-None-clause-labels : goal.returns-in_ok-complain-in-None-clause-labels
returns-in_ok-complain-in-None-clause-labels c = rw c.in-None.is neither

pub returns-in_ok-demand-in-Some-clause-labels : goal.returns-in_ok-demand-in-Some-clause-labels
returns-in_ok-demand-in-Some-clause-labels c = rw c.in-Some.is (both c.in_ok-fresh-in-Some.ensures.seen)
