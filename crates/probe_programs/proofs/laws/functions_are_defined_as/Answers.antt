use Rattle.probe_programs.proofs.Params.{function_typed}
use Rattle.probe_programs.proofs.laws.functions_are_defined_as.Goals as goal

pub returns : goal.returns
returns c = function_typed
