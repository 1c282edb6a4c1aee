use Rattle.std.proofs.Common.{◌≡◌, ◌+◌, true, refl}
use Rattle.pair_list.proofs.Masking.{mask_more}
use Rattle.pair_list.proofs.masks.strong_marks.Goals as goal

pub loop-i-preserved : goal.loop-i-preserved
loop-i-preserved c = mask_more c.args.marks.now c.args.start (λ m. m.strong ≡ true) c.loop-i.i (c.args.start + c.loop-i.i) c.loop-i.word c.with_bit-word.result c.is_strong_at.result refl c.loop-i.invariant c.is_strong_at.ensures c.with_bit-word.ensures
