use Rattle.c_scopes.proofs.Lawful as law
use Rattle.c_scopes.proofs.laws.declared_is_found.Goals as goal

pub returns : goal.returns
returns g c = law.declared_found
