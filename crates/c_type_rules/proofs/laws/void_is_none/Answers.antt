use Rattle.c_type_rules.proofs.Turned as law
use Rattle.c_type_rules.proofs.laws.void_is_none.Goals as goal

pub returns : goal.returns
returns c = law.void_is_none c.args.op
