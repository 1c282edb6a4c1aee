use Rattle.c_scopes.proofs.Lawful as law
use Rattle.c_scopes.proofs.laws.others_stay.Goals as goal

pub returns : goal.returns
returns g c = record { everywhere = law.others_stay; here = law.others_stay_here }
