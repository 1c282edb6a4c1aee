use Rattle.pair_list.proofs.Meeting.{adds_word}
use Rattle.pair_list.proofs.hits.add_bits.Goals as goal

pub returns : goal.returns
returns c = adds_word c.args.hits.now.items c.args.k c.args.word c.index-old.result.now c.requires c.index-old.ensures
