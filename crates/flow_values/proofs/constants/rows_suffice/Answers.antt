use Rattle.flow_values.proofs.FilePrograms as programs
use Rattle.flow_values.proofs.constants.rows_suffice.Goals as goal

pub returns : goal.returns
returns c = programs.rows_suffice
