use Rattle.std.proofs.Common.{◌≡◌, ◌++◌, drop, map}
use Rattle.c_syntax.specs.Forms.{kinds}
use Rattle.c_syntax.specs.View.{external_shape}
use Rattle.c_syntax.specs.Grammar.{externals_form}
use Rattle.c_syntax.proofs.sentences.tokens_of.Given as goal

abbrev pub invariant-loop-external : goal.invariant-loop-external
invariant-loop-external l = l.out ++ kinds (externals_form (map external_shape (drop l.external-index l.external-items))) ≡ l.initial.out ++ kinds (externals_form (map external_shape l.external-items))
