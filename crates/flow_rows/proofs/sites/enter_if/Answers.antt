use Rattle.flow_walks.specs.Comes.{enter}
use Rattle.flow_rows.specs.View.{rows_of}
use Rattle.flow_rows.proofs.Sited.{told_led, untold_led}
use Rattle.flow_rows.proofs.sites.enter_if.Goals as goal

pub returns-in_ok-at-clause-led : goal.returns-in_ok-at-clause-led
returns-in_ok-at-clause-led c = told_led (rows_of c.enter.new.self) c.in_ok-at.at c.args.to c.args.entered (enter c.args.function) c.if-entered.true c.in_ok-at.ensures.laid

pub returns-else-entered-clause-led : goal.returns-else-entered-clause-led
returns-else-entered-clause-led c = untold_led (rows_of c.args.rows.now) c.args.to c.args.entered (enter c.args.function) c.if-entered.false
