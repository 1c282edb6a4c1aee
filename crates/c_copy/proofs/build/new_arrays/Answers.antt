use Rattle.c_syntax.proofs.Open.{arrays_open}
use Rattle.c_copy.proofs.build.new_arrays.Goals as goal

pub returns : goal.returns
returns c = arrays_open c.args.lengths
