use Rattle.std.proofs.Common.{◌≡◌, ◌+◌, ◌++◌, drop, map, Some}
use Rattle.c_syntax.specs.View.{item_list, label_shape}
use Rattle.c_meaning.specs.Constants.{case_constants, label_constants, number_among}
use Rattle.c_compute.proofs.constants.case_among.Given as goal

abbrev pub invariant-loop-item : goal.invariant-loop-item
invariant-loop-item l =
    l.passed + number_among l.value (case_constants (Some l.kind) (item_list (drop l.item-index l.items))) ≡ number_among l.value (case_constants (Some l.kind) (item_list l.items))

abbrev pub invariant-loop-label : goal.invariant-loop-label
invariant-loop-label l =
    l.passed + number_among l.value (label_constants (Some l.kind) (map label_shape (drop l.label-index l.label-items)) ++ case_constants (Some l.kind) (item_list (drop (l.item-index + 1) l.items))) ≡ number_among l.value (case_constants (Some l.kind) (item_list l.items))
