use Rattle.std.proofs.Common.{sym}
use Rattle.c_syntax.proofs.Made.{items_made}
use Rattle.c_walk.proofs.stating.+statement.Goals as goal

pub walk_body-returns-in-Switch : goal.walk_body-returns-in-Switch
walk_body-returns-in-Switch t c = rw (c.in-Switch.is, items_made c.in-Switch.items, sym c.deref-in-Switch.ensures.value) c.walk_switch.ensures
