use Rattle.pair_list.proofs.Rowing.{p_uses_more}
use Rattle.pair_list.proofs.kinds.put_p_uses.Goals as goal

pub loop-n-preserved : goal.loop-n-preserved
loop-n-preserved c = p_uses_more c.args.sites.now c.args.items.now c.loop-n.items c.put_p_use.new.items c.args.pairs.now c.loop-n.n c.pair_at-pair.result c.pair_at-pair.ensures c.loop-n.invariant c.in_ok-put_p_use.ensures
