use Rattle.std.proofs.Common.{◌≡◌, max, drop, map}
use Rattle.c_syntax.specs.View.{label_shape}
use Rattle.c_syntax.specs.Levels.{labels_height}
use Rattle.c_syntax.proofs.height.labels_height.Given as goal

abbrev pub invariant-loop-label : goal.invariant-loop-label
invariant-loop-label l = max l.most (labels_height (map label_shape (drop l.label-index l.labels))) ≡ labels_height (map label_shape l.labels)
