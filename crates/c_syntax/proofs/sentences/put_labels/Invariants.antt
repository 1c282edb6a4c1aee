use Rattle.std.proofs.Common.{◌≡◌, ◌++◌, drop, map}
use Rattle.c_syntax.specs.Forms.{kinds}
use Rattle.c_syntax.specs.View.{label_shape}
use Rattle.c_syntax.specs.Grammar.{labels_form}
use Rattle.c_syntax.proofs.sentences.put_labels.Given as goal

abbrev pub invariant-loop-label : goal.invariant-loop-label
invariant-loop-label l = l.out ++ kinds (labels_form (map label_shape (drop l.label-index l.labels))) ≡ l.initial.out ++ kinds (labels_form (map label_shape l.labels))
