use Rattle.c_scopes.proofs.Lawful as law
use Rattle.c_scopes.proofs.laws.inner_hides.Goals as goal

pub returns : goal.returns
returns g c = law.inner_found
