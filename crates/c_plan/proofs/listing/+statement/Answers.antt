use Rattle.std.proofs.Common.{sym}
use Rattle.c_syntax.proofs.Made.{items_made}
use Rattle.c_plan.proofs.listing.+statement.Goals as goal

pub put_form-returns-in_ok-variables-in-Switch-clause-extents : goal.put_form-returns-in_ok-variables-in-Switch-clause-extents
put_form-returns-in_ok-variables-in-Switch-clause-extents t c = rw (c.in-Switch.is, items_made c.in-Switch.items, sym c.deref-in-Switch.ensures.value) c.in_ok-variables-in-Switch.ensures.extents

pub put_form-returns-in_ok-variables-in-Switch-clause-variables : goal.put_form-returns-in_ok-variables-in-Switch-clause-variables
put_form-returns-in_ok-variables-in-Switch-clause-variables t c = rw (c.in-Switch.is, items_made c.in-Switch.items, sym c.deref-in-Switch.ensures.value) c.in_ok-variables-in-Switch.ensures.variables
