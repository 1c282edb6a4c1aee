use Rattle.flow_rows.specs.View.{rows_of}
use Rattle.flow_rows.proofs.Growth.{set_two, set_two_laid}
use Rattle.flow_rows.proofs.rows.Rows.fork.Goals as goal

pub returns-clause-grown : goal.returns-clause-grown
returns-clause-grown c =
    set_two (rows_of c.args.self.now) (rows_of c.set.new.self) _ c.args.first c.args.second c.args.at c.in_ok-next.ensures.next c.in_ok-set.ensures.hole c.in_ok-set.ensures.row c.in_ok-next.ensures.first c.in_ok-next.ensures.second

pub returns-clause-laid : goal.returns-clause-laid
returns-clause-laid c =
    set_two_laid (rows_of c.args.self.now) (rows_of c.set.new.self) _ c.args.first c.args.second c.args.at c.in_ok-next.ensures.next c.in_ok-set.ensures.hole c.in_ok-set.ensures.row
