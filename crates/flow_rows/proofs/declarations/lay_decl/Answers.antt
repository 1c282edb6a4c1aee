use Rattle.std.proofs.Common.{sym}
use Rattle.c_syntax.proofs.Open.{decl_open}
use Rattle.flow_rows.proofs.declarations.lay_decl.Goals as goal

pub returns : goal.returns
returns c = rw (decl_open c.args.decl.now, sym c.deref.ensures.value) c.in_ok-lay_declarators.ensures
