use Rattle.c_copies.proofs.Faults as faults
use Rattle.c_copies.proofs.laws.copies_are_made.Goals as goal

pub returns : goal.returns
returns c = faults.copies_are_made
