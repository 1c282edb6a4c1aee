use Rattle.c_counted.proofs.Labels as labels
use Rattle.c_counted.proofs.laws.labels_are_no_more.Goals as goal

pub returns : goal.returns
returns c = labels.labels_are_no_more
