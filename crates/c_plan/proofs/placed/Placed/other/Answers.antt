use Rattle.c_plan.proofs.Forms.{if_first}
use Rattle.c_plan.proofs.placed.Placed.other.Goals as goal

pub part-first-requires-clause-listed : goal.part-first-requires-clause-listed
part-first-requires-clause-listed c = if_first _ c.in-If.field-0 c.in-If.first c.in-If.other c.deref.result.now c.inner.result.now c.in-If.is c.deref.ensures c.inner.ensures
