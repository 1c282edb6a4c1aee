use Rattle.c_syntax.proofs.Open.{inits_open}
use Rattle.c_copy.proofs.build.new_list.Goals as goal

pub returns : goal.returns
returns c = inits_open c.args.pos c.args.list c.args.last
