use Rattle.c_syntax.specs.View.{type_of}
use Rattle.flow_rows.specs.View.{rows_of}
use Rattle.flow_rows.proofs.Sited.{self_led}
use Rattle.flow_rows.proofs.sites.entered.Goals as goal

pub returns-in_ok-at-in-Typed-clause-led : goal.returns-in_ok-at-in-Typed-clause-led
returns-in_ok-at-in-Typed-clause-led c = rw c.in-Typed.is (c.in_ok-at-in-Typed.ensures.led (type_of c.in-Typed.field-0))

pub returns-in-Bare-clause-led : goal.returns-in-Bare-clause-led
returns-in-Bare-clause-led c = rw c.in-Bare.is (self_led (rows_of c.args.rows.now) c.args.to)

pub returns-in-Known-clause-led : goal.returns-in-Known-clause-led
returns-in-Known-clause-led c = rw c.in-Known.is (self_led (rows_of c.args.rows.now) c.args.to)
