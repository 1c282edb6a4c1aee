-- The four lists, one after the other.
use Rattle.std.proofs.lemmas.Result.{err_from_is_err_and}
use Rattle.trace_file.proofs.Loop.{stops_third}
use Rattle.trace_file.proofs.reading.read_tally.Goals as goal

pub returns-in_err-read_rows-3-clause-err : goal.returns-in_err-read_rows-3-clause-err
returns-in_err-read_rows-3-clause-err c =
    let p = err_from_is_err_and c.from_residual-in_err-read_rows-3.result c.from_residual-in_err-read_rows-3.ensures.1 in
    rw (p.1, p.2) (stops_third c.in_err-read_rows-3.field-0.0 _ _ _ _ c.new-tally.result c.read_rows.new.tally c.read_rows-2.new.tally c.new-tally.ensures c.in_ok-read_rows.ensures.ok c.in_ok-read_rows-2.ensures.ok c.in_err-read_rows-3.ensures.err)
