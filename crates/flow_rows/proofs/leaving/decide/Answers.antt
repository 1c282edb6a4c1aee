use Rattle.flow_rows.specs.View.{rows_of}
use Rattle.flow_rows.proofs.Sited.{grown_three, decided_laid}
use Rattle.flow_rows.proofs.leaving.decide.Goals as goal

pub returns-clause-grown : goal.returns-clause-grown
returns-clause-grown c =
    grown_three (rows_of c.args.rows.now) (rows_of c.row.new.self) (rows_of c.row-2.new.self) (rows_of c.fork.new.self) c.in_ok-first.ensures.grown c.in_ok-second.ensures.grown c.in_ok-fork.ensures.grown

pub returns-clause-laid : goal.returns-clause-laid
returns-clause-laid c =
    decided_laid (rows_of c.row.new.self) (rows_of c.row-2.new.self) (rows_of c.fork.new.self) c.args.decision c.args.at c.in_ok-first.first c.in_ok-second.second c.args.yes c.args.no c.in_ok-second.ensures.grown c.in_ok-fork.ensures.grown c.in_ok-first.ensures.laid c.in_ok-second.ensures.laid c.in_ok-fork.ensures.laid
