use Rattle.flow_owned.proofs.Programs as programs
use Rattle.flow_owned.proofs.laws.programs_have_apart_fields.Goals as goal

pub returns : goal.returns
returns c = record { apart = programs.programs_have_apart_fields }
