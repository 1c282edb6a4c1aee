use Rattle.c_syntax.proofs.Open.{select_open}
use Rattle.c_grammar.proofs.nodes.selecting.Goals as goal

pub returns : goal.returns
returns c = select_open c.args.number c.args.cases
