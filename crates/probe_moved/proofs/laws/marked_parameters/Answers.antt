use Rattle.probe_moved.proofs.laws.marked_parameters.Goals as goal
use Rattle.probe_moved.proofs.Moves.{marked_parameters}

-- src/laws.rt:30:1
pub returns : goal.returns
returns c = marked_parameters
