use Rattle.probe_cases.proofs.Known.{values_are_read}
use Rattle.probe_cases.proofs.laws.values_are_read.Goals as goal

pub returns : goal.returns
returns c = values_are_read
