use Rattle.flow_values.proofs.Typed as typed
use Rattle.flow_values.proofs.bodies.constants_suffice.Goals as goal

pub returns : goal.returns
returns c = typed.constants_suffice
