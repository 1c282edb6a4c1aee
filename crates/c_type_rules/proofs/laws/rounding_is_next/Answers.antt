use Rattle.c_type_rules.proofs.Rounded.{is_next_multiple}
use Rattle.c_type_rules.proofs.laws.rounding_is_next.Goals as goal

pub returns : goal.returns
returns c = is_next_multiple c.args.align
