use Rattle.pair_list.proofs.Rowing.{labels_more}
use Rattle.pair_list.proofs.kinds.put_labels.Goals as goal

pub loop-i-preserved : goal.loop-i-preserved
loop-i-preserved c = labels_more c.args.items.now c.loop-i.items c.put_outcome.new.items c.args.decision c.args.pos c.args.labels.now c.loop-i.i c.get-it.result c.get-it.ensures c.loop-i.invariant c.in_ok-put_outcome.ensures
