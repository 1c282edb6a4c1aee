use Rattle.c_type_rules.proofs.Ranges.{promote_keeps}
use Rattle.c_type_rules.proofs.laws.promotion_keeps.Goals as goal

pub returns : goal.returns
returns c = promote_keeps c.args.kind
