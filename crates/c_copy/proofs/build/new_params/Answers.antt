use Rattle.c_syntax.proofs.Open.{params_open}
use Rattle.c_copy.proofs.build.new_params.Goals as goal

pub returns : goal.returns
returns c = params_open c.args.list
