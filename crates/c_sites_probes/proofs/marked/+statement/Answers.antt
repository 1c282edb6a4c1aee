use Rattle.std.proofs.Common.{sym}
use Rattle.c_syntax.proofs.Made.{items_made}
use Rattle.c_sites_probes.proofs.marked.+statement.Goals as goal

pub body_mark-returns-in-Switch : goal.body_mark-returns-in-Switch
body_mark-returns-in-Switch t c = rw (c.in-Switch.is, items_made c.in-Switch.items, sym c.deref-in-Switch.ensures.value) c.switch_mark.ensures
