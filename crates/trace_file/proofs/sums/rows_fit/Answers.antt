-- One row more, and then all.
use Rattle.std.proofs.Common.{sym}
use Rattle.std.proofs.lemmas.List.{take_all}
use Rattle.std.proofs.lemmas.List.Elements.{All-more, All-same}
use Rattle.trace_file.specs.Sums.{RowFits}
use Rattle.trace_file.proofs.sums.rows_fit.Goals as goal

pub loop-row-preserved : goal.loop-row-preserved
loop-row-preserved c = All-more RowFits _ _ _ c.loop-row-test.true c.loop-row.invariant c.row_fits.ensures

pub returns : goal.returns
returns c = All-same RowFits _ _ (sym (take_all _ _ c.loop-row-test.false)) c.loop-row.invariant
