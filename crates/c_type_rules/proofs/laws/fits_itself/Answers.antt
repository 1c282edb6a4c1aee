use Rattle.c_type_rules.proofs.Turned as law
use Rattle.c_type_rules.proofs.laws.fits_itself.Goals as goal

pub returns : goal.returns
returns c = law.fits_itself
