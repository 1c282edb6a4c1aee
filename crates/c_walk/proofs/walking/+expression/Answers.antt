use Rattle.std.proofs.Common.{sym}
use Rattle.c_syntax.proofs.Made.{nodes_made}
use Rattle.c_walk.proofs.walking.+expression.Goals as goal

pub walk_form-returns-in-Call : goal.walk_form-returns-in-Call
walk_form-returns-in-Call t c = rw (c.in-Call.is, nodes_made c.in-Call.args, sym c.deref.ensures.value) c.walk_nodes.ensures
