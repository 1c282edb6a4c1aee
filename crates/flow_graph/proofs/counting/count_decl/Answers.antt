use Rattle.std.proofs.Common.{sym}
use Rattle.c_syntax.proofs.Open.{decl_open}
use Rattle.flow_graph.proofs.counting.count_decl.Goals as goal

pub returns : goal.returns
returns c t f = rw (decl_open c.args.decl.now, sym c.deref.ensures.value) (c.in_ok-count_names.ensures t f)
