use Rattle.std.proofs.Common.{arith}
use Rattle.c_type_rules.proofs.Rounded.{array_small}
use Rattle.c_type_rules.proofs.layout.array.Goals as goal

pub invariant_of-result-clause-small : goal.invariant_of-result-clause-small
invariant_of-result-clause-small c = let e = array_small c.args.length c.args.element.size c.args.element.cells c.args.element.small in grind (arith, e)
