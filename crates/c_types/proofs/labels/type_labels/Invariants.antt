use Rattle.std.proofs.Common.{◌≡◌, length, take, map}
use Rattle.c_syntax.specs.View.{label_shape}
use Rattle.c_tree.specs.Stating.{type_labels}
use Rattle.c_checker.specs.CheckerView.{state_of}
use Rattle.c_types.specs.LabelsView.{labels_in, LabelsAlike}
use Rattle.c_types.proofs.Labelled.{behind, rest_of}
use Rattle.c_types.proofs.labels.type_labels.Given as goal

-- the labels that are left lead to the same
abbrev pub invariant-loop-i : goal.invariant-loop-i
invariant-loop-i l = record {
  same : LabelsAlike (behind (map label_shape (take l.i l.labels.items)) (type_labels (labels_in l.so_far) (rest_of l.i l.labels.items) (state_of l.checker))) (type_labels (labels_in l.fn.so_far) (map label_shape l.fn.labels.items) (state_of l.fn.checker));
  count : length l.labels.items ≡ l.i-end;
}
