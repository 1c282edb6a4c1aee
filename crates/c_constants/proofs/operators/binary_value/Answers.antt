use Rattle.c_constants.proofs.Held.{truth_held}
use Rattle.c_constants.proofs.operators.binary_value.Goals as goal

pub returns-clause-truth : goal.returns-clause-truth
returns-clause-truth c = truth_held c.args.op c.arith_of.result c.binary.result c.ok.result c.arith_of.ensures c.binary.ensures.truth c.ok.ensures.value
