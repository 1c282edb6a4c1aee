use Rattle.flow_accepted.proofs.Programs.{taken_calls_walk, taken_calls_leave}
use Rattle.flow_accepted.proofs.laws.accepted_calls_are_walks.Goals as goal

pub returns-clause-walks : goal.returns-clause-walks
returns-clause-walks c = taken_calls_walk

pub returns-clause-leaves : goal.returns-clause-leaves
returns-clause-leaves c = taken_calls_leave
