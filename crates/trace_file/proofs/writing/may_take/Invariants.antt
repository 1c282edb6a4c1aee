-- How many bytes the rows so far take.
use Rattle.std.proofs.Common.{◌≡◌, ◌≤◌, true, take}
use Rattle.std.specs.List.{sum_by}
use Rattle.trace_file.specs.Layout.{size, kind_of}
use Rattle.trace_file.proofs.writing.may_take.Given as goal

abbrev pub invariant-loop-row : goal.invariant-loop-row
invariant-loop-row l = record {
  len : l.len ≡ sum_by (λ row. size true (kind_of row.fact)) (take l.row-index l.rows);
  few : l.len ≤ l.most;
}
