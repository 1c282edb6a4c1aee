use Rattle.std.proofs.Common.{◌≡◌, ◌++◌, drop, map}
use Rattle.c_syntax.specs.View.{label_shape}
use Rattle.c_walk.specs.Tests.{label_values}
use Rattle.c_walk.proofs.tests.put_label_values.Given as goal

abbrev pub invariant-loop-label : goal.invariant-loop-label
invariant-loop-label l = l.values.items ++ label_values l.kind (map label_shape (drop l.label-index l.labels)) ≡ l.initial.values.items ++ label_values l.kind (map label_shape l.labels)
