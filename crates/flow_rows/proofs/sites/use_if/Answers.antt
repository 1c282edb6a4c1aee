use Rattle.flow_walks.specs.declared.action.Action.TheVariants.{Use}
use Rattle.flow_walks.specs.Comes.{act}
use Rattle.flow_rows.specs.View.{rows_of}
use Rattle.flow_rows.proofs.Sited.{told_led, untold_led}
use Rattle.flow_rows.proofs.sites.use_if.Goals as goal

pub returns-in_ok-at-clause-led : goal.returns-in_ok-at-clause-led
returns-in_ok-at-clause-led c = told_led (rows_of c.row.new.self) c.in_ok-at.at c.args.to c.args.used (act (Use c.args.number)) c.if-used.true c.in_ok-at.ensures.laid

pub returns-else-used-clause-led : goal.returns-else-used-clause-led
returns-else-used-clause-led c = untold_led (rows_of c.args.rows.now) c.args.to c.args.used (act (Use c.args.number)) c.if-used.false
