use Rattle.c_constants.proofs.Exact.{binary_exact}
use Rattle.c_constants.proofs.laws.binary_is_arithmetic.Goals as goal

pub returns : goal.returns
returns c = binary_exact c.args.op c.args.left c.args.right
