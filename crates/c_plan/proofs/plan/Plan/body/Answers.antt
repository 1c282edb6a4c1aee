use Rattle.c_plan.specs.Routines.{routine_of}
use Rattle.c_plan.proofs.Planned.{body_listed}
use Rattle.c_plan.proofs.plan.Plan.body.Goals as goal

pub of-requires-clause-listed : goal.of-requires-clause-listed
of-requires-clause-listed c = body_listed (routine_of c.args.called.now) c.start_of-start.result c.args.self.now.extents.items c.deref.result.now c.deref.ensures.value c.start_of-start.ensures.start
