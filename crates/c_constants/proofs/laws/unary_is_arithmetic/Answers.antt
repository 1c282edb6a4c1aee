use Rattle.c_constants.proofs.Exact.{unary_exact}
use Rattle.c_constants.proofs.laws.unary_is_arithmetic.Goals as goal

pub returns : goal.returns
returns c = unary_exact c.args.op
