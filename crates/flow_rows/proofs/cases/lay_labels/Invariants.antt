use Rattle.std.proofs.Common.{take}
use Rattle.flow_rows.specs.View.{rows_of}
use Rattle.flow_rows.proofs.Labels.{LabelsLed}
use Rattle.flow_rows.proofs.cases.lay_labels.Given as goal

abbrev pub invariant-loop-label : goal.invariant-loop-label
invariant-loop-label l = LabelsLed (rows_of l.fn.rows) (rows_of l.rows) l.decision l.fn.from.order l.fn.from.at l.entry l.others.at l.others.order (take l.label-index l.labels)
