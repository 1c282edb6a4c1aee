use Rattle.std.proofs.Common.{refl, get_or}
use Rattle.pair_list.proofs.Finding.{act_read}
use Rattle.pair_list.proofs.Meeting.{hits_more}
use Rattle.pair_list.proofs.hits.hit_rows.Goals as goal

pub loop-row-preserved : goal.loop-row-preserved
loop-row-preserved c =
    let act = act_read c.args.flow.now c.loop-row.row c.index-flow-row.result c.loop-row-test.true c.index-flow-row.is in
    hits_more c.args.flow.now c.args.sites.now c.args.function c.args.marks.now c.args.start c.args.first c.args.low c.loop-row.row c.args.came.now c.args.hits.now.items c.loop-row.hits.items c.hit_row.new.hits.items (get_or c.args.came.now c.loop-row.row 0) (get_or c.args.flow.now c.loop-row.row c.index-flow-row.result).action refl act c.loop-row.invariant c.hit_row.ensures
