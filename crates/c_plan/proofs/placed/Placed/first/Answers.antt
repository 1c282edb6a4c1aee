use Rattle.c_plan.proofs.Forms.{if_first}
use Rattle.c_plan.proofs.placed.Placed.first.Goals as goal

pub part-requires-clause-listed : goal.part-requires-clause-listed
part-requires-clause-listed c = if_first _ c.in-If.field-0 c.in-If.stmt c.in-If.field-2 c.deref.result.now c.inner.result.now c.in-If.is c.deref.ensures c.inner.ensures
