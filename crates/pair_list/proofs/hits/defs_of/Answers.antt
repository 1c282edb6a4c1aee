use Rattle.std.proofs.Common.{◌+◌, refl}
use Rattle.pair_list.proofs.Meeting.{defs_more}
use Rattle.pair_list.proofs.hits.defs_of.Goals as goal

pub loop-left-preserved : goal.loop-left-preserved
loop-left-preserved c = defs_more c.args.marks.now c.args.start c.args.first c.args.word c.loop-left.left c.loop-left.bits c.lowest-i.result (c.args.start + c.lowest-i.result) c.def_at-j.result c.without-left.result c.with_bit-bits.result refl c.lowest-i.ensures.has c.loop-left.invariant c.def_at-j.ensures.def c.with_bit-bits.ensures c.without-left.ensures.bits
