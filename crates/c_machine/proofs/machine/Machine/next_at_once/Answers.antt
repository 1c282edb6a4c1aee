use Rattle.c_machine.proofs.Turning.{for_direct, some_direct}
use Rattle.c_machine.proofs.machine.Machine.next_at_once.Goals as goal

pub step_at_once-requires-clause-direct : goal.step_at_once-requires-clause-direct
step_at_once-requires-clause-direct c = some_direct c.in-For.node c.in-Some.node (for_direct c.args.turning.placed.stmt.now.form c.in-For.field-0 c.in-For.field-1 c.in-For.node c.in-For.field-3 c.args.turning.direct c.in-For.is).1 c.in-Some.is
