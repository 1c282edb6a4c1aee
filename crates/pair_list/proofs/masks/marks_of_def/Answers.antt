use Rattle.std.proofs.Common.{◌≡◌, ◌+◌, refl}
use Rattle.pair_list.proofs.Masking.{mask_more}
use Rattle.pair_list.proofs.masks.marks_of_def.Goals as goal

pub loop-i-preserved : goal.loop-i-preserved
loop-i-preserved c = mask_more c.args.marks.now c.args.start (λ m. c.args.d ≡ m.def) c.loop-i.i (c.args.start + c.loop-i.i) c.loop-i.word c.with_bit-word.result c.is_of.result refl c.loop-i.invariant c.is_of.ensures c.with_bit-word.ensures
