use Rattle.pair_list.proofs.Tabling.{or_bits}
use Rattle.pair_list.proofs.lookup.or_word.Goals as goal

pub returns : goal.returns
returns c = or_bits c.args.word c.args.more
