-- The rows so far.
use Rattle.std.proofs.Common.{take}
use Rattle.std.specs.List.{All}
use Rattle.trace_file.specs.Sums.{RowFits}
use Rattle.trace_file.proofs.sums.rows_fit.Given as goal

abbrev pub invariant-loop-row : goal.invariant-loop-row
invariant-loop-row l = All RowFits (take l.row-index l.rows)
