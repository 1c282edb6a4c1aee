use Rattle.std.proofs.Common.{◌∙◌}
use Rattle.c_checker_parts.proofs.Stars.{pointed_next}
use Rattle.c_checker_parts.proofs.lengths.pointed.Goals as goal

pub loop-star-preserved : goal.loop-star-preserved
loop-star-preserved c = pointed_next c.args.stars.now c.loop-star._star-index _ _ c.loop-star-test.true c.in_ok-kind.ensures ∙ c.loop-star.invariant
