use Rattle.std.proofs.Common.{sym}
use Rattle.c_syntax.proofs.Made.{items_made}
use Rattle.c_syntax.proofs.sentences.+statement.Goals as goal

pub put_form-returns-in-Switch : goal.put_form-returns-in-Switch
put_form-returns-in-Switch t c = rw (c.in-Switch.is, items_made c.in-Switch.items, sym c.deref-in-Switch.ensures.value) c.put_switch.ensures
