use Rattle.flow_names.proofs.Names as names
use Rattle.flow_names.proofs.laws.calls_keep_names.Goals as goal

pub returns : goal.returns
returns c = names.calls_keep_names
