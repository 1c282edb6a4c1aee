-- What is left of the records tells whether all of them are orderly.
use Rattle.std.proofs.Common.{◌-◌, ◌*◌, ◌≤◌, length}
use Rattle.trace_file.specs.Layout.{size}
use Rattle.trace_file.specs.Reading.{rows_at}
use Rattle.trace_file.proofs.Loop.{Checks}
use Rattle.trace_file.proofs.reading.end_of.Given as goal

abbrev pub invariant-loop : goal.invariant-loop
invariant-loop l = record {
  checks : Checks l.fn.low l.low (rows_at l.counted l.kind l.part.count l.part.records.now) (rows_at l.counted l.kind (l.part.count - l.counter) l.rest);
  long : (l.part.count - l.counter) * size l.counted l.kind ≤ length l.rest;
}
