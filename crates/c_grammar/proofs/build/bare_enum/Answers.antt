use Rattle.std.proofs.Common.{None}
use Rattle.c_syntax.proofs.Open.{enum_open}
use Rattle.c_grammar.proofs.build.bare_enum.Goals as goal

pub returns : goal.returns
returns c = enum_open c.args.name None
