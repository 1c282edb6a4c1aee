use Rattle.probe_moved.proofs.laws.marked_variables.Goals as goal
use Rattle.probe_moved.proofs.Moves.{marked_variables}

-- src/laws.rt:24:1
pub returns : goal.returns
returns c = marked_variables
