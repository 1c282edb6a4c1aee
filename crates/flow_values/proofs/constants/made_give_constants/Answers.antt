use Rattle.flow_values.proofs.Values as values
use Rattle.flow_values.proofs.constants.made_give_constants.Goals as goal

pub returns : goal.returns
returns c = values.made_give_constants
