use Rattle.c_types.proofs.Labelled.{same_labels}
use Rattle.c_types.proofs.labels.type_label.Goals as goal

pub returns-in_ok-see_default-in-Default-clause-labels : goal.returns-in_ok-see_default-in-Default-clause-labels
returns-in_ok-see_default-in-Default-clause-labels c = rw c.in-Default.is (same_labels _ _ c.in_ok-see_default-in-Default.ensures.labels)
