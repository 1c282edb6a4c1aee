use Rattle.c_syntax.proofs.Made.{type_made}
use Rattle.c_copy.proofs.build.new_type.Goals as goal

pub returns : goal.returns
returns c = type_made c.args.pos c.args.specs c.args.stars c.args.lengths
