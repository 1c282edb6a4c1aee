-- The rows ascend, and their numbers fit.
use Rattle.std.proofs.Common.{sym}
use Rattle.std.proofs.lemmas.List.Elements.{All-same, recursion_from_All}
use Rattle.trace_file.specs.Sums.{RowFits}
use Rattle.trace_file.proofs.Adding.{orderly_from}
use Rattle.trace_file.proofs.sums.law_of_rows.Goals as goal

pub returns : goal.returns
returns c = λ sound. orderly_from 0 c.args.tally.now c.rows.ensures.ordered (recursion_from_All RowFits _ (All-same RowFits _ _ (sym c.rows.ensures.value) c.rows_fit.ensures)) sound
