use Rattle.c_syntax.proofs.Open.{enum_open}
use Rattle.c_copy.proofs.build.new_enum.Goals as goal

pub returns : goal.returns
returns c = enum_open c.args.name c.args.list
