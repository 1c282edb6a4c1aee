use Rattle.c_syntax.proofs.Made.{decl_made}
use Rattle.c_copy.proofs.build.new_decl.Goals as goal

pub returns : goal.returns
returns c = decl_made c.args.pos c.args.specs c.args.names
