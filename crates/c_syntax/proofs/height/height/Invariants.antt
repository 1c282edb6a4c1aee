use Rattle.std.proofs.Common.{◌≡◌, max, drop, map}
use Rattle.c_syntax.specs.View.{external_shape}
use Rattle.c_syntax.specs.Levels.{externals_height}
use Rattle.c_syntax.proofs.height.height.Given as goal

abbrev pub invariant-loop-external : goal.invariant-loop-external
invariant-loop-external l = max l.most (externals_height (map external_shape (drop l.external-index l.external-items))) ≡ externals_height (map external_shape l.external-items)
