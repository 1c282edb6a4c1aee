use Rattle.c_scopes.proofs.Lawful as law
use Rattle.c_scopes.proofs.laws.left_as_before.Goals as goal

pub returns : goal.returns
returns g c = law.left_before
