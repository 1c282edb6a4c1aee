use Rattle.c_syntax.proofs.Made.{param_made}
use Rattle.c_copy.proofs.build.param_of.Goals as goal

pub returns : goal.returns
returns c = param_made c.args.pos c.args.specs c.args.name
