use Rattle.reach_defs.proofs.Listing.{add_more}
use Rattle.reach_defs.proofs.marks.add_marks.Goals as goal

pub loop-mark-preserved : goal.loop-mark-preserved
loop-mark-preserved c = add_more c.args.marks.now.items c.args.more.now c.loop-mark.marks.items c.add_mark.new.marks.items c.loop-mark.mark-index c.loop-mark.invariant c.loop-mark-test.true c.in_ok-add_mark.ensures
