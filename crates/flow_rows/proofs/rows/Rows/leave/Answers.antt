use Rattle.flow_rows.specs.View.{rows_of}
use Rattle.flow_rows.proofs.Ends.{push_left}
use Rattle.flow_rows.proofs.rows.Rows.leave.Goals as goal

pub returns : goal.returns
returns c =
    push_left (rows_of c.args.self.now) (rows_of c.push.new.self) _ c.args.to _ c.in_ok-next.ensures.next c.in_ok-next.ensures.within c.in_ok-number.ensures.row c.in_ok-number.ensures.number
