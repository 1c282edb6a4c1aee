use Rattle.flow_values.proofs.Begun as begun
use Rattle.flow_values.proofs.bodies.parameters_have_rows.Goals as goal

pub returns : goal.returns
returns c = begun.parameters_have_rows
