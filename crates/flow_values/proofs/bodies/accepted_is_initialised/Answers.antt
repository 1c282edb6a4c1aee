use Rattle.flow_values.proofs.UnitsIn as units
use Rattle.flow_values.proofs.bodies.accepted_is_initialised.Goals as goal

pub returns : goal.returns
returns c = units.accepted_is_initialised
