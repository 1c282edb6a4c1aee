use Rattle.std.proofs.Common.{◌≡◌, map, take}
use Rattle.c_syntax.specs.View.{label_shape}
use Rattle.c_tree.specs.Erased.{erased_label}
use Rattle.probe_out.proofs.statements.erased_labels.Given as goal

abbrev pub invariant-loop-label : goal.invariant-loop-label
invariant-loop-label l = map label_shape l.made.items ≡ map erased_label (map label_shape (take l.label-index l.labels))
