-- The rows so far, and those that the bytes behind them have.
use Rattle.std.proofs.Common.{◌≡◌, ◌++◌, ◌-◌, ◌*◌, ◌≤◌, length}
use Rattle.trace_file.specs.Layout.{size}
use Rattle.trace_file.specs.Sound.{Orderly}
use Rattle.trace_file.specs.Reading.{rows_at}
use Rattle.trace_file.proofs.reading.read_rows.Given as goal

abbrev pub invariant-loop : goal.invariant-loop
invariant-loop l = record {
  whole : l.tally ++ rows_at l.counted l.kind (l.part.count - l.counter) l.rest ≡ l.fn.tally ++ rows_at l.counted l.kind l.part.count l.part.records.now;
  orderly : Orderly 0 l.fn.tally → Orderly 0 l.tally;
  long : (l.part.count - l.counter) * size l.counted l.kind ≤ length l.rest;
}
