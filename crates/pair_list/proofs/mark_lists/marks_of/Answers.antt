use Rattle.std.proofs.Common.{refl, ◌+◌}
use Rattle.pair_list.proofs.Making.{marks_more}
use Rattle.pair_list.proofs.mark_lists.marks_of.Goals as goal

pub loop-i-preserved : goal.loop-i-preserved
loop-i-preserved c = marks_more c.args.sites.now c.args.function c.args.first c.loop-i.i (c.args.first + c.loop-i.i) c.loop-i.marks.items c.mark_def.new.marks.items refl c.loop-i.invariant c.in_ok-mark_def.ensures
