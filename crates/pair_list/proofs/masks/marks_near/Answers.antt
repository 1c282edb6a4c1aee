use Rattle.pair_list.proofs.Masking.{mask_far}
use Rattle.pair_list.proofs.masks.marks_near.Goals as goal

pub returns-then-far : goal.returns-then-far
returns-then-far c = mask_far c.args.marks.now c.args.start c.args.first c.args.d c.requires.within (c.is_far-far.ensures.0 c.if-far.true)
