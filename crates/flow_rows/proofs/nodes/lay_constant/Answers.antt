use Rattle.std.proofs.Common.{subst}
use Rattle.flow_walks.specs.Comes.{evaluated}
use Rattle.flow_rows.specs.Laying.{LaidAt, ways}
use Rattle.flow_rows.specs.View.{rows_of}
use Rattle.flow_rows.proofs.nodes.lay_constant.Goals as goal

pub returns : goal.returns
returns c = record {
  grown = c.in_ok-leave_with.ensures.grown;
  laid = λ around w e. subst (λ o. LaidAt (rows_of c.leave_with.new.rows) c.args.at (λ k. evaluated o (ways k c.args.to))) c.outcomes.ensures c.in_ok-leave_with.ensures.laid;
  counted = λ around w e. e;
}
