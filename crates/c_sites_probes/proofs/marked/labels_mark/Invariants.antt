use Rattle.std.proofs.Common.{◌≡◌, drop, map}
use Rattle.c_syntax.specs.View.{label_shape}
use Rattle.c_sites_probes.specs.Marked.{labels_mark}
use Rattle.c_sites_probes.proofs.marked.labels_mark.Given as goal

abbrev pub invariant-loop-label : goal.invariant-loop-label
invariant-loop-label l = labels_mark (map label_shape (drop l.label-index l.labels)) ≡ labels_mark (map label_shape l.labels)
