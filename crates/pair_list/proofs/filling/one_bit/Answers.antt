use Rattle.pair_list.proofs.Tabling.{one_bits}
use Rattle.pair_list.proofs.filling.one_bit.Goals as goal

pub returns : goal.returns
returns c = one_bits c.args.i c.with_bit.result c.with_bit.ensures
