use Rattle.probe_cases.proofs.Select.{selects_are_typed}
use Rattle.probe_cases.proofs.laws.selects_are_typed.Goals as goal

pub returns : goal.returns
returns c = selects_are_typed
