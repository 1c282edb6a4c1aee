use Rattle.std.proofs.Common.{◌≡◌, drop, map}
use Rattle.c_syntax.specs.View.{external_shape}
use Rattle.c_sites_probes.specs.Marked.{externals_mark}
use Rattle.c_sites_probes.proofs.marked.unit_mark.Given as goal

abbrev pub invariant-loop-external : goal.invariant-loop-external
invariant-loop-external l = externals_mark (map external_shape (drop l.external-index l.external-items)) ≡ externals_mark (map external_shape l.external-items)
