use Rattle.std.proofs.Common.{◌≡◌, ◌++◌, map, vec_len}
use Rattle.std.specs.Prelude.{reverse}
use Rattle.flow_graph.specs.Flow.{flow_row}
use Rattle.flow_graph.proofs.flow.rows_for_marks.Given as goal

abbrev pub invariant-loop-row : goal.invariant-loop-row
invariant-loop-row l = l.flow.items ++ map flow_row (reverse l.rest.items) ≡ map flow_row l.fn.rows.items

abbrev pub decreases-loop-row : goal.decreases-loop-row
decreases-loop-row l = vec_len l.rest
