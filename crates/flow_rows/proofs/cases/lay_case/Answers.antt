use Rattle.flow_rows.specs.View.{rows_of}
use Rattle.flow_rows.proofs.Sited.{grown_three}
use Rattle.flow_rows.proofs.Chosen.{case_laid}
use Rattle.flow_rows.proofs.cases.lay_case.Goals as goal

pub returns-clause-grown : goal.returns-clause-grown
returns-clause-grown c =
    grown_three (rows_of c.args.rows.now) (rows_of c.hole.new.self) (rows_of c.row.new.self) (rows_of c.fork.new.self) c.in_ok-other.ensures.grown c.in_ok-chosen.ensures.grown c.in_ok-fork.ensures.grown

pub returns-clause-laid : goal.returns-clause-laid
returns-clause-laid c =
    case_laid (rows_of c.row.new.self) (rows_of c.fork.new.self) c.args.decision c.args.order c.args.at c.in_ok-chosen.chosen c.args.entry c.in_ok-other.other c.in_ok-fork.ensures.grown c.in_ok-chosen.ensures.laid c.in_ok-fork.ensures.laid
