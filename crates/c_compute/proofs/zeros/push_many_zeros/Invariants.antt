use Rattle.std.proofs.Common.{◌≡◌, ◌++◌, replicate}
use Rattle.c_syntax.specs.View.{type_of}
use Rattle.c_tables.specs.Tables.{tables_shape}
use Rattle.c_meaning.specs.Constants.{all_zeros}
use Rattle.c_compute.proofs.zeros.push_many_zeros.Given as goal

abbrev pub invariant-loop-left : goal.invariant-loop-left
invariant-loop-left l = l.cells.items ++ all_zeros (tables_shape l.tables) (replicate l.left (type_of l.kind)) ≡ l.fn.cells.items ++ all_zeros (tables_shape l.tables) (replicate l.count (type_of l.kind))

abbrev pub decreases-loop-left : goal.decreases-loop-left
decreases-loop-left l = l.left
