use Rattle.flow_rows.specs.View.{rows_of}
use Rattle.flow_rows.proofs.Laws.{grown_then}
use Rattle.flow_rows.proofs.Sited.{grown_three, laid_before}
use Rattle.flow_rows.proofs.cases.first_choices.Goals as goal

pub returns-clause-grown : goal.returns-clause-grown
returns-clause-grown c = grown_then _ _ _ (grown_three _ _ _ _ c.in_ok-first.ensures.grown c.in_ok-default.ensures.grown c.in_ok-fill.ensures.grown) c.in_ok-fill-2.ensures.grown

pub returns-clause-cases : goal.returns-clause-cases
returns-clause-cases c = laid_before (rows_of c.fill.new.self) (rows_of c.fill-2.new.self) c.args.at (λ k. k c.in_ok-first.first) c.in_ok-fill-2.ensures.grown c.in_ok-fill.ensures.laid
