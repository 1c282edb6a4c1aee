use Rattle.flow_rows.specs.View.{rows_of}
use Rattle.flow_rows.proofs.Growth.{act_stays, set_one, set_one_laid}
use Rattle.flow_rows.proofs.rows.Rows.fill.Goals as goal

pub returns-clause-grown : goal.returns-clause-grown
returns-clause-grown c =
    set_one (rows_of c.args.self.now) (rows_of c.set.new.self) _ _ c.args.to c.in_ok-next.ensures.next c.in_ok-next.ensures.within (act_stays c.args.action) c.args.at c.in_ok-set.ensures.hole c.in_ok-set.ensures.row

pub returns-clause-laid : goal.returns-clause-laid
returns-clause-laid c =
    set_one_laid (rows_of c.args.self.now) (rows_of c.set.new.self) _ _ c.args.to c.in_ok-next.ensures.next c.in_ok-next.ensures.within (act_stays c.args.action) c.args.at c.in_ok-set.ensures.hole c.in_ok-set.ensures.row
