use Rattle.pair_list.proofs.Rowing.{c_uses_more}
use Rattle.pair_list.proofs.kinds.put_c_uses.Goals as goal

pub loop-i-preserved : goal.loop-i-preserved
loop-i-preserved c = c_uses_more c.args.sites.now c.args.items.now c.loop-i.items c.put_c_use.new.items c.args.pairs.now c.loop-i.i c.pair_at-pair.result c.pair_at-pair.ensures c.loop-i.invariant c.in_ok-put_c_use.ensures
