use Rattle.c_syntax.proofs.Open.{call_open}
use Rattle.c_grammar.proofs.nodes.called.Goals as goal

pub returns : goal.returns
returns c = call_open c.args.name c.args.args
