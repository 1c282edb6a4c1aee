use Rattle.flow_accepted.proofs.Programs as programs
use Rattle.flow_accepted.proofs.laws.accepted_is_orderly.Goals as goal

pub returns-clause-orderly : goal.returns-clause-orderly
returns-clause-orderly c = programs.taken_is_orderly

pub returns-clause-parts : goal.returns-clause-parts
returns-clause-parts c = programs.taken_has_parts
