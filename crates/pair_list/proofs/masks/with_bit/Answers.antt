use Rattle.pair_list.proofs.Masking.{bit_set}
use Rattle.pair_list.proofs.masks.with_bit.Goals as goal

pub returns-then-set : goal.returns-then-set
returns-then-set c = λ j. bit_set c.args.word c.args.i j c.args.set c.requires c.if-set.true
