use Rattle.probe_cases.proofs.Spelled.{lists_are_typed}
use Rattle.probe_cases.proofs.laws.lists_are_typed.Goals as goal

pub returns : goal.returns
returns c = lists_are_typed
