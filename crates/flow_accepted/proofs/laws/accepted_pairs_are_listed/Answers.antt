use Rattle.flow_accepted.proofs.Programs.{taken_pairs_are_listed, taken_p_uses_are_listed}
use Rattle.flow_accepted.proofs.laws.accepted_pairs_are_listed.Goals as goal

pub returns-clause-pairs : goal.returns-clause-pairs
returns-clause-pairs c = taken_pairs_are_listed

pub returns-clause-p_uses : goal.returns-clause-p_uses
returns-clause-p_uses c = taken_p_uses_are_listed
