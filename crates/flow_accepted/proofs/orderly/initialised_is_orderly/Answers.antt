use Rattle.flow_accepted.proofs.OrderlyPrograms.{accepted_calls_walk, accepted_calls_leave}
use Rattle.flow_accepted.proofs.orderly.initialised_is_orderly.Goals as goal

pub returns-clause-walks : goal.returns-clause-walks
returns-clause-walks c = accepted_calls_walk

pub returns-clause-leaves : goal.returns-clause-leaves
returns-clause-leaves c = accepted_calls_leave
