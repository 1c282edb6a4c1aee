use Rattle.flow_rows.specs.View.{rows_of}
use Rattle.flow_rows.proofs.Growth.{act_stays, push_one, push_laid}
use Rattle.flow_rows.proofs.rows.Rows.row.Goals as goal

pub returns-clause-grown : goal.returns-clause-grown
returns-clause-grown c =
    push_one (rows_of c.args.self.now) (rows_of c.push.new.self) _ _ c.args.to c.in_ok-next.ensures.next c.in_ok-next.ensures.within (act_stays c.args.action) c.in_ok-number.ensures.row

pub returns-clause-laid : goal.returns-clause-laid
returns-clause-laid c =
    push_laid (rows_of c.args.self.now) (rows_of c.push.new.self) _ _ c.args.to c.in_ok-next.ensures.next c.in_ok-next.ensures.within (act_stays c.args.action) _ c.in_ok-number.ensures.row c.in_ok-number.ensures.number
