use Rattle.std.proofs.Common.{get_or, arith}
use Rattle.flow_marks.specs.Paths.{action_at}
use Rattle.pair_list.specs.Marks.{EndsMark}
use Rattle.pair_list.specs.Masks.{IsMask}
use Rattle.pair_list.proofs.Finding.{rows_more, stopped_at, act_read, size_more}
use Rattle.pair_list.proofs.rows.all_stopped.Goals as goal

pub loop-row-preserved : goal.loop-row-preserved
loop-row-preserved c =
    let act = act_read c.args.flow.now c.loop-row.row c.index-flow-row.result c.loop-row-test.true c.index-flow-row.is in
    record {
      size = size_more c.loop-row.words.items c.push_word.new.words.items c.loop-row.row c.stopped.result c.loop-row.invariant.size c.in_ok-push_word.ensures;
      each = λ marks start t. (rows_more 0 (λ row word. IsMask marks start (λ m. EndsMark c.args.sites.now m (action_at c.args.flow.now row)) word) c.loop-row.words.items c.push_word.new.words.items c.loop-row.row c.stopped.result c.loop-row.invariant.size c.in_ok-push_word.ensures (c.loop-row.invariant.each marks start t)
          (stopped_at c.args.flow.now c.args.sites.now marks start c.loop-row.row c.stopped.result (get_or c.args.flow.now c.loop-row.row c.index-flow-row.result).action act (c.stopped.ensures marks start t))).1;
    }

pub returns-clause-stopped : goal.returns-clause-stopped
returns-clause-stopped c = λ marks start t row lt. c.loop-row.invariant.each marks start t row (let f = c.loop-row-test.false in omega arith)
