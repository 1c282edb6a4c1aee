use Rattle.c_type_rules.proofs.Turned as law
use Rattle.c_type_rules.proofs.laws.operands_turn.Goals as goal

pub returns : goal.returns
returns c = law.operands_turn c.args.op
