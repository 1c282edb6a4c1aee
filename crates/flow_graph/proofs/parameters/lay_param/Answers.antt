use Rattle.c_syntax.proofs.Open.{param_open}
use Rattle.flow_graph.proofs.parameters.lay_param.Goals as goal

pub returns : goal.returns
returns c t = rw (param_open c.args.param.now) (c.in_ok-lay_name.ensures t)
