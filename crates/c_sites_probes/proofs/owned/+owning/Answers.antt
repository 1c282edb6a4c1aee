use Rattle.std.proofs.Common.{sym}
use Rattle.c_syntax.proofs.Made.{items_made}
use Rattle.c_sites_probes.proofs.owned.+owning.Goals as goal

pub own_body-returns-in-Switch : goal.own_body-returns-in-Switch
own_body-returns-in-Switch t c = rw (c.in-Switch.is, items_made c.in-Switch.items, sym c.deref-in-Switch.ensures.value) c.own_switch.ensures
