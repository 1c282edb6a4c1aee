use Rattle.std.proofs.Common.{◌≡◌, drop, map}
use Rattle.c_syntax.specs.View.{label_shape}
use Rattle.c_sites_probes.specs.Owned.{own_labels}
use Rattle.c_sites_probes.proofs.owned.own_labels.Given as goal

abbrev pub invariant-loop-label : goal.invariant-loop-label
invariant-loop-label l = own_labels (map label_shape (drop l.label-index l.labels)) l.out.items ≡ own_labels (map label_shape l.labels) l.initial.out.items
