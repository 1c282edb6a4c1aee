use Rattle.probe_cases.proofs.Choice.{choices_are_typed}
use Rattle.probe_cases.proofs.laws.choices_are_typed.Goals as goal

pub returns : goal.returns
returns c = choices_are_typed
