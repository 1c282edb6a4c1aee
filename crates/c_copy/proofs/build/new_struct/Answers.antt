use Rattle.c_syntax.proofs.Open.{struct_open}
use Rattle.c_copy.proofs.build.new_struct.Goals as goal

pub returns : goal.returns
returns c = struct_open c.args.name c.args.list
