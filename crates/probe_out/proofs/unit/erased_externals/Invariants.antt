use Rattle.std.proofs.Common.{◌≡◌, map, take}
use Rattle.c_syntax.specs.View.{external_shape}
use Rattle.c_tree.specs.Erased.{erased_external}
use Rattle.probe_out.proofs.unit.erased_externals.Given as goal

abbrev pub invariant-loop-external : goal.invariant-loop-external
invariant-loop-external l = map external_shape l.made.items ≡ map erased_external (map external_shape (take l.external-index l.externals))
