-- The facts so far, and those of the records that are left.
use Rattle.std.proofs.Common.{◌-◌, ◌*◌, ◌≤◌, length}
use Rattle.trace_file.specs.Layout.{size}
use Rattle.trace_file.specs.Reading.{rows_at}
use Rattle.trace_file.proofs.Gaining.{Gaining}
use Rattle.trace_file.proofs.reading.add_list.Given as goal

abbrev pub invariant-loop : goal.invariant-loop
invariant-loop l = record {
  gaining : Gaining l.fn.facts l.facts (rows_at l.counted l.kind l.part.count l.part.records.now) (rows_at l.counted l.kind (l.part.count - l.counter) l.rest);
  long : (l.part.count - l.counter) * size l.counted l.kind ≤ length l.rest;
}
