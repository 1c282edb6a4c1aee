use Rattle.flow_values.proofs.StatementsIn as statements
use Rattle.flow_values.proofs.bodies.bodies_are_initialised.Goals as goal

pub returns : goal.returns
returns c = statements.bodies_are_initialised
