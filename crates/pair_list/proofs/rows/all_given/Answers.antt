use Rattle.std.proofs.Common.{◌≡◌, get_or, false, refl}
use Rattle.flow_walks.specs.declared.action.Action.TheVariants.{Define}
use Rattle.flow_marks.specs.Paths.{action_at, IsReached}
use Rattle.pair_list.specs.Masks.{IsMask}
use Rattle.pair_list.proofs.Finding.{rows_more, given_at, act_read}
use Rattle.pair_list.proofs.rows.all_given.Goals as goal

pub loop-row-preserved : goal.loop-row-preserved
loop-row-preserved c =
    let act = act_read c.args.flow.now c.loop-row.row c.index-flow-row.result c.loop-row-test.true c.index-flow-row.is in
    let w = rows_more 0 (λ row word. IsMask c.args.marks.now c.args.start (λ m. IsReached c.args.flow.now row × (action_at c.args.flow.now row ≡ Define m.def)) word) c.loop-row.words.items c.push_word.new.words.items c.loop-row.row c.given.result c.loop-row.invariant.size c.in_ok-push_word.ensures c.loop-row.invariant.each
    (given_at c.args.flow.now c.args.marks.now c.args.start c.loop-row.row c.given.result c.args.reached.now (get_or c.args.reached.now c.loop-row.row false) (get_or c.args.flow.now c.loop-row.row c.index-flow-row.result).action c.requires.reached c.loop-row-test.true refl act c.given.ensures) in
    record { size = w.0; each = w.1 }
