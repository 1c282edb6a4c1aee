use Rattle.std.proofs.Common.{ap}
use Rattle.c_meaning.specs.declared.end.End.TheVariants.{Fault}
use Rattle.c_eval.proofs.advance.stopped_end.Goals as goal

pub returns-in_ok-name-in-Fault : goal.returns-in_ok-name-in-Fault
returns-in_ok-name-in-Fault c = λ l. rw c.in-Fault.is (ap (λ x. Fault c.in-Fault.fault x) (c.in_ok-name-in-Fault.ensures l))
