use Rattle.pair_list.proofs.Tabling.{and_bits}
use Rattle.pair_list.proofs.lookup.and_word.Goals as goal

pub returns : goal.returns
returns c = and_bits c.args.word c.args.more
