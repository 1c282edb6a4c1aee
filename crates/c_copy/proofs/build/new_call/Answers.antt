use Rattle.c_syntax.proofs.Open.{call_open}
use Rattle.c_copy.proofs.build.new_call.Goals as goal

pub returns : goal.returns
returns c = call_open c.args.name c.args.args
