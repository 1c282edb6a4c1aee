use Rattle.std.proofs.Common.{◌∙◌, arith}
use Rattle.reach_defs.proofs.Putting.{all_put, within_put, count_put}
use Rattle.reach_defs.proofs.worklist.all_rows.Goals as goal

pub loop-row-preserved : goal.loop-row-preserved
loop-row-preserved c = record {
  rows = c.in_ok-put.ensures.rows ∙ c.loop-row.invariant.rows;
  all = all_put c.loop-row.worklist.queue c.put.new.self.queue c.loop-row.row c.in_ok-put.ensures.queue c.loop-row.invariant.all;
  within = within_put c.loop-row.worklist.queue c.put.new.self.queue c.loop-row.row c.in_ok-put.ensures.queue c.loop-row.invariant.within;
  count = count_put c.loop-row.worklist.queue c.put.new.self.queue c.loop-row.row c.in_ok-put.ensures.queue c.loop-row.invariant.within c.loop-row.invariant.count;
}

pub returns-clause-within : goal.returns-clause-within
returns-clause-within c = λ q m. let lt = c.loop-row.invariant.within q m in omega arith
