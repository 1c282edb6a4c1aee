use Rattle.probe_cases.proofs.Select.{cases_differ}
use Rattle.probe_cases.proofs.laws.cases_differ.Goals as goal

pub returns : goal.returns
returns c = cases_differ
