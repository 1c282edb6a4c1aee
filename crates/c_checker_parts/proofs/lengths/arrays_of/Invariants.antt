use Rattle.std.proofs.Common.{◌≡◌, ◌≤◌, length, take, map}
use Rattle.c_type_rules.specs.Kinds.{type_in}
use Rattle.c_tree.specs.Parts.{arrays_of}
use Rattle.c_checker_parts.specs.LengthView.{length_shape}
use Rattle.c_checker_parts.proofs.lengths.arrays_of.Given as goal

-- the lengths that are left lead to the same
abbrev pub invariant-loop-left : goal.invariant-loop-left
invariant-loop-left l = record {
  kind : arrays_of (map length_shape (take l.left l.lengths)) (type_in l.kind) ≡ arrays_of (map length_shape l.lengths) (type_in l.fn.kind);
  within : l.left ≤ length l.lengths;
}

abbrev pub decreases-loop-left : goal.decreases-loop-left
decreases-loop-left l = l.left
