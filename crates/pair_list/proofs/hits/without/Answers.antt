use Rattle.std.proofs.Common.{◌*◌, ◌%◌, ◌^◌, refl, w64, bit_and}
use Rattle.std.specs.Int.{bit_not}
use Rattle.std.proofs.lemmas.Nat.{and_le_l}
use Rattle.pair_list.proofs.Tabling.{cleared, cleared_less}
use Rattle.pair_list.proofs.hits.without.Goals as goal

pub returns-clause-bits : goal.returns-clause-bits
returns-clause-bits c = cleared c.args.word c.args.i c.requires.within c.ranges.word.fits

pub returns-clause-less : goal.returns-clause-less
returns-clause-less c = cleared_less c.args.word c.args.i (bit_and c.args.word (bit_not w64 (1 * 2 ^ c.args.i % 2 ^ 64))) c.requires.within refl (and_le_l c.args.word (bit_not w64 (1 * 2 ^ c.args.i % 2 ^ 64))) c.requires.has
