use Rattle.std.proofs.Common.{◌≡◌, drop}
use Rattle.c_tree.specs.Stating.{type_marks}
use Rattle.c_checker.specs.CheckerView.{state_of}
use Rattle.c_types.proofs.expressions.type_marks.Given as goal

-- the probes that are left lead to the same
abbrev pub invariant-loop-mark : goal.invariant-loop-mark
invariant-loop-mark l = type_marks (drop l.mark-index l.marks) (state_of l.checker) ≡ type_marks l.marks (state_of l.fn.checker)
