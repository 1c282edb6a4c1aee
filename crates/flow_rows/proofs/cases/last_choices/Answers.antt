use Rattle.flow_walks.specs.declared.action.Action.TheVariants.{Test}
use Rattle.flow_walks.specs.Comes.{act, emit}
use Rattle.flow_rows.specs.View.{rows_of}
use Rattle.flow_rows.proofs.Laws.{grown_then}
use Rattle.flow_rows.proofs.Sited.{grown_three, laid_before}
use Rattle.flow_rows.proofs.cases.last_choices.Goals as goal

pub returns-clause-grown : goal.returns-clause-grown
returns-clause-grown c = grown_three _ _ _ _ c.in_ok-fill.ensures.grown c.in_ok-fill-2.ensures.grown c.in_ok-fill-3.ensures.grown

pub returns-clause-cases : goal.returns-clause-cases
returns-clause-cases c =
    laid_before (rows_of c.fill.new.self) (rows_of c.fill-3.new.self) c.args.from.cases.at (λ k. emit (act (Test c.args.decision c.args.from.cases.order)) (k c.args.start)) (grown_then _ _ _ c.in_ok-fill-2.ensures.grown c.in_ok-fill-3.ensures.grown) c.in_ok-fill.ensures.laid

pub returns-clause-default : goal.returns-clause-default
returns-clause-default c = laid_before (rows_of c.fill-2.new.self) (rows_of c.fill-3.new.self) c.args.from.default (λ k. k c.args.next) c.in_ok-fill-3.ensures.grown c.in_ok-fill-2.ensures.laid
