use Rattle.c_syntax.proofs.Open.{select_open}
use Rattle.c_copy.proofs.build.new_select.Goals as goal

pub returns : goal.returns
returns c = select_open c.args.number c.args.cases
