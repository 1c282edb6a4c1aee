use Rattle.std.proofs.Common.{sym}
use Rattle.c_syntax.proofs.Made.{items_made}
use Rattle.c_plan.proofs.counts.+counts.Goals as goal

pub form_variables-returns-in-Switch : goal.form_variables-returns-in-Switch
form_variables-returns-in-Switch t c = rw (c.in-Switch.is, items_made c.in-Switch.items, sym c.deref-in-Switch.ensures.value) c.items_variables.ensures
