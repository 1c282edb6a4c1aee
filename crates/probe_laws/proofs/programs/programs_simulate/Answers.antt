use Rattle.probe_laws.proofs.Laws.{taken_is_few}
use Rattle.probe_laws.proofs.Owners.{program_owns}
use Rattle.probe_laws.proofs.programs.programs_simulate.Goals as goal

pub returns-clause-few : goal.returns-clause-few
returns-clause-few c = taken_is_few

pub returns-clause-owns : goal.returns-clause-owns
returns-clause-owns c = program_owns
