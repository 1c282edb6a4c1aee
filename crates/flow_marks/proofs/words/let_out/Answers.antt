use Rattle.flow_marks.proofs.Passing.{out_bits}
use Rattle.flow_marks.proofs.words.let_out.Goals as goal

pub returns : goal.returns
returns c = out_bits c.args.gives c.args.held c.args.stops
