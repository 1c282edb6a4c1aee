use Rattle.std.proofs.Common.{◌≡◌, ◌++◌}
use Rattle.c_syntax.specs.View.{type_of}
use Rattle.c_meaning.specs.Constants.{string_cells}
use Rattle.c_compute.proofs.strings.push_string.Given as goal

abbrev pub invariant-loop-left : goal.invariant-loop-left
invariant-loop-left l = l.cells.items ++ string_cells (type_of l.kind) l.left l.bytes ≡ l.fn.cells.items ++ string_cells (type_of l.kind) l.length l.fn.bytes

abbrev pub decreases-loop-left : goal.decreases-loop-left
decreases-loop-left l = l.left
