use Rattle.std.proofs.Common.{w64}
use Rattle.std.proofs.lemmas.Nat.Bits.{bit_at-trailing_zeros}
use Rattle.pair_list.proofs.hits.lowest.Goals as goal

pub returns-clause-has : goal.returns-clause-has
returns-clause-has c = (bit_at-trailing_zeros w64 c.args.word c.requires c.ranges.word.fits).1
