use Rattle.flow_values.proofs.FilePrograms as programs
use Rattle.flow_values.proofs.constants.constants_have_values.Goals as goal

pub returns : goal.returns
returns c = programs.programs_have_constants
