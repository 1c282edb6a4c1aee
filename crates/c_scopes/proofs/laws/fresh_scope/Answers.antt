use Rattle.c_scopes.proofs.Lawful as law
use Rattle.c_scopes.proofs.laws.fresh_scope.Goals as goal

pub returns-clause-same : goal.returns-clause-same
returns-clause-same g c = law.fresh_same
