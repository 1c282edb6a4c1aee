use Rattle.pair_list.proofs.Rowing.{with_more}
use Rattle.pair_list.proofs.kinds.put_with.Goals as goal

pub loop-n-preserved : goal.loop-n-preserved
loop-n-preserved c = with_more c.args.items.now c.loop-n.items c.push_p_use.new.items c.args.row c.args.labels.now c.loop-n.n c.get-it.result c.get-it.ensures c.loop-n.invariant c.in_ok-push_p_use.ensures
