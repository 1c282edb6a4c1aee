use Rattle.std.proofs.Common.{◌≡◌, drop, map}
use Rattle.c_syntax.specs.View.{label_shape}
use Rattle.c_walk.specs.Stating.{has_default}
use Rattle.flow_rows.proofs.cases.has_default.Given as goal

abbrev pub invariant-loop-label : goal.invariant-loop-label
invariant-loop-label l = has_default (map label_shape (drop l.label-index l.labels)) ≡ has_default (map label_shape l.labels)
