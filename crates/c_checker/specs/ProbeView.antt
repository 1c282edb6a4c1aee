-- The kinds of probes that have no case constants.
use Rattle.c_syntax.specs.Shape as shape
use Rattle.c_checker.specs.declared.probes.Probing.{Probing}
use Rattle.c_checker.specs.declared.probes.Probing.TheVariants.{Block, Test, Use, Def}

abbrev pub probing_of : Probing → shape.Probing
probing_of Block = shape.block
probing_of Test = shape.test
probing_of Use = shape.used
probing_of Def = shape.def
