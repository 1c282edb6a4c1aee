use Rattle.flow_rows.specs.View.{rows_of}
use Rattle.flow_rows.proofs.Sited.{self_led}
use Rattle.flow_rows.proofs.sites.changed_row.Goals as goal

pub returns-in_ok-at-in-Changed-clause-led : goal.returns-in_ok-at-in-Changed-clause-led
returns-in_ok-at-in-Changed-clause-led c = rw c.in-Changed.is c.in_ok-at-in-Changed.ensures.led

pub returns-in-Read-clause-led : goal.returns-in-Read-clause-led
returns-in-Read-clause-led c = rw c.in-Read.is (λ w e. self_led (rows_of c.args.rows.now) c.args.to)

pub returns-in-Written-clause-led : goal.returns-in-Written-clause-led
returns-in-Written-clause-led c = rw c.in-Written.is (λ w e. self_led (rows_of c.args.rows.now) c.args.to)

pub returns-in-Addressed-clause-led : goal.returns-in-Addressed-clause-led
returns-in-Addressed-clause-led c = rw c.in-Addressed.is (λ w e. self_led (rows_of c.args.rows.now) c.args.to)

pub returns-in-Copied-clause-led : goal.returns-in-Copied-clause-led
returns-in-Copied-clause-led c = rw c.in-Copied.is (λ w e. self_led (rows_of c.args.rows.now) c.args.to)
