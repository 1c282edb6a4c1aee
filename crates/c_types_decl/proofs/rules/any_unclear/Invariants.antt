use Rattle.std.proofs.Common.{◌≡◌, drop, map}
use Rattle.c_tree.specs.Declaring.{any_unclear}
use Rattle.c_checker_parts.specs.LengthView.{length_shape}
use Rattle.c_types_decl.proofs.rules.any_unclear.Given as goal

-- the lengths that are left decide
abbrev pub invariant-loop-i : goal.invariant-loop-i
invariant-loop-i l = any_unclear (map length_shape (drop l.i l.lengths)) ≡ any_unclear (map length_shape l.lengths)
