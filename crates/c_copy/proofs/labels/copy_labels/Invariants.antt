use Rattle.std.proofs.Common.{◌≡◌, map, take}
use Rattle.c_syntax.specs.View.{label_shape}
use Rattle.c_copy.proofs.labels.copy_labels.Given as goal

abbrev pub invariant-loop-label : goal.invariant-loop-label
invariant-loop-label l = map label_shape l.copies.items ≡ map label_shape (take l.label-index l.labels)
