use Rattle.std.proofs.Common.{Some}
use Rattle.c_syntax.proofs.Open.{enum_open}
use Rattle.c_grammar.proofs.build.new_enum.Goals as goal

pub returns : goal.returns
returns c = enum_open c.args.name (Some c.args.list)
