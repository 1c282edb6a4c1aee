use Rattle.c_unnoted.proofs.laws.typing_sees_no_note.Goals as goal
use Rattle.c_unnoted.proofs.Units.{unit_typed}

-- src/laws.rt:6:1
pub returns : goal.returns
returns c = unit_typed
