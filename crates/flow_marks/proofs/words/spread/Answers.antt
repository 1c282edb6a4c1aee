use Rattle.std.proofs.Common.{get_or, refl}
use Rattle.flow_marks.proofs.Passing.{spread_more, there}
use Rattle.flow_marks.proofs.words.spread.Goals as goal

pub put-requires : goal.put-requires
put-requires c = there c.args.next.now c.args.held.now.items c.loop-to.held.items c.loop-to.to-index c.loop-to-test.true c.loop-to.invariant.size c.requires

pub loop-to-preserved : goal.loop-to-preserved
loop-to-preserved c =
    let lt = there c.args.next.now c.args.held.now.items c.loop-to.held.items c.loop-to.to-index c.loop-to-test.true c.loop-to.invariant.size c.requires in
    spread_more c.args.word c.loop-to.to-index (get_or c.args.next.now c.loop-to.to-index 0) c.args.next.now c.args.held.now.items c.args.waiting.now.items c.loop-to.held.items c.loop-to.waiting.items c.put.new.held.items c.put.new.waiting.items refl c.loop-to-test.true lt c.loop-to.invariant c.in_ok-put.ensures.puts c.in_ok-put.ensures.fits
