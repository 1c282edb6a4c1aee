use Rattle.c_type_rules.proofs.Turned as law
use Rattle.c_type_rules.proofs.laws.address_leads_back.Goals as goal

pub returns : goal.returns
returns c = law.address_leads_back
