use Rattle.std.proofs.Common.{ap, ◌∙◌, sym, Some}
use Rattle.c_plan.specs.Parts.{items_in}
use Rattle.c_plan.proofs.Forms.{switch_shape, switch_listed, switch_fits}
use Rattle.c_plan.proofs.placed.Placed.items.Goals as goal

pub of-requires-clause-listed : goal.of-requires-clause-listed
of-requires-clause-listed c = switch_listed _ c.in-Switch.field-0 c.in-Switch.items c.inner.result.now c.in-Switch.is c.inner.ensures

pub of-requires-clause-fits : goal.of-requires-clause-fits
of-requires-clause-fits c = switch_fits _ c.in-Switch.field-0 c.in-Switch.items c.args.self.before c.in-Switch.is c.args.self.fits

pub returns-in-Switch : goal.returns-in-Switch
returns-in-Switch c = (ap items_in (switch_shape _ c.in-Switch.field-0 c.in-Switch.items c.in-Switch.is) ∙ ap Some (sym c.of.ensures.items), c.of.ensures.before)
