use Rattle.std.proofs.Common.{◌≡◌, ◌+◌, ◌++◌, drop, map, length, Option}
use Rattle.c_base.specs.declared.place.IntKind.{IntKind}
use Rattle.c_syntax.specs.View.{item_list, label_shape}
use Rattle.c_meaning.specs.Constants.{case_constants, label_constants}
use Rattle.c_compute.proofs.constants.case_count.Given as goal

abbrev pub invariant-loop-item : goal.invariant-loop-item
invariant-loop-item l =
    (k : Option IntKind) → l.count + length (case_constants k (item_list (drop l.item-index l.items))) ≡ length (case_constants k (item_list l.items))

abbrev pub invariant-loop-label : goal.invariant-loop-label
invariant-loop-label l =
    (k : Option IntKind) → l.count + length (label_constants k (map label_shape (drop l.label-index l.label-items)) ++ case_constants k (item_list (drop (l.item-index + 1) l.items))) ≡ length (case_constants k (item_list l.items))
