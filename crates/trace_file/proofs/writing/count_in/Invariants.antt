-- How many rows so far stand in the list.
use Rattle.std.proofs.Common.{◌≡◌, ◌≤◌, length, take}
use Rattle.trace_file.specs.Layout.{rows_in}
use Rattle.trace_file.proofs.writing.count_in.Given as goal

abbrev pub invariant-loop-row : goal.invariant-loop-row
invariant-loop-row l = record {
  count : l.count ≡ length (rows_in l.kind (take l.row-index l.rows));
  few : l.count ≤ l.row-index;
}
