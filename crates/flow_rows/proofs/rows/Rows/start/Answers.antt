use Rattle.flow_walks.specs.declared.action.Action.TheVariants.{Nothing}
use Rattle.flow_rows.specs.View.{rows_of}
use Rattle.flow_rows.proofs.Growth.{act_stays, set_one}
use Rattle.flow_rows.proofs.Ends.{set_start}
use Rattle.flow_rows.proofs.rows.Rows.start.Goals as goal

pub returns-clause-grown : goal.returns-clause-grown
returns-clause-grown c =
    set_one (rows_of c.args.self.now) (rows_of c.set.new.self) _ _ c.args.to c.in_ok-next.ensures.next c.in_ok-next.ensures.within (act_stays Nothing) 0 c.in_ok-set.ensures.hole c.in_ok-set.ensures.row

pub returns-clause-row : goal.returns-clause-row
returns-clause-row c =
    set_start (rows_of c.args.self.now) (rows_of c.set.new.self) _ 0 c.args.to c.in_ok-next.ensures.next c.in_ok-set.ensures.hole c.in_ok-set.ensures.row
