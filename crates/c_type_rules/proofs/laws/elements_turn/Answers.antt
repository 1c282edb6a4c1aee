use Rattle.c_type_rules.proofs.Turned as law
use Rattle.c_type_rules.proofs.laws.elements_turn.Goals as goal

pub returns : goal.returns
returns c = law.elements_turn
