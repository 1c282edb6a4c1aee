use Rattle.flow_walks.specs.declared.action.Action.TheVariants.{Test}
use Rattle.flow_walks.specs.Comes.{act, emit, either}
use Rattle.flow_rows.specs.View.{rows_of}
use Rattle.flow_rows.proofs.Laws.{lead_self}
use Rattle.flow_rows.proofs.Chosen.{laid_led}
use Rattle.flow_rows.proofs.cases.lay_label.Goals as goal

pub returns-in_ok-at-in-Case-clause-led : goal.returns-in_ok-at-in-Case-clause-led
returns-in_ok-at-in-Case-clause-led c =
    rw c.in-Case.is (laid_led (rows_of c.lay_case.new.rows) c.args.from.at (λ k. either (emit (act (Test c.args.decision c.args.from.order)) (k c.args.entry)) (k c.in_ok-at-in-Case.at)) c.in_ok-at-in-Case.ensures.laid)

pub returns-in-Default-clause-led : goal.returns-in-Default-clause-led
returns-in-Default-clause-led c = rw c.in-Default.is (λ j k. lead_self j c.args.from.at)
