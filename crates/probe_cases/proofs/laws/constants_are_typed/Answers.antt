use Rattle.probe_cases.proofs.Spelled.{constants_are_typed}
use Rattle.probe_cases.proofs.laws.constants_are_typed.Goals as goal

pub returns : goal.returns
returns c = constants_are_typed
