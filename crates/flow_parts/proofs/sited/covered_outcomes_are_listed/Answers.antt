use Rattle.flow_parts.proofs.Tested.{covered_outcomes_are_listed, covered_p_uses_have_outcomes}
use Rattle.flow_parts.proofs.sited.covered_outcomes_are_listed.Goals as goal

pub returns-clause-outcomes : goal.returns-clause-outcomes
returns-clause-outcomes c = covered_outcomes_are_listed

pub returns-clause-p_uses : goal.returns-clause-p_uses
returns-clause-p_uses c = covered_p_uses_have_outcomes
