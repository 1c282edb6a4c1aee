use Rattle.std.proofs.Common.{refl}
use Rattle.c_tables.specs.Tables.{tables_shape}
use Rattle.c_tables.specs.Rows.{row}
use Rattle.flow_walks.specs.Comes.{enter}
use Rattle.flow_walks.specs.Expressions.{is_defined}
use Rattle.flow_rows.specs.View.{rows_of}
use Rattle.flow_rows.proofs.Sited.{self_led, same_led}
use Rattle.flow_rows.proofs.sites.called.Goals as goal

pub returns-in_ok-at-in-Some-clause-led : goal.returns-in_ok-at-in-Some-clause-led
returns-in_ok-at-in-Some-clause-led c =
    let f = c.in-Some.function in
    rw c.in-Some.is (λ y. same_led (rows_of c.enter_if.new.rows) c.in_ok-at-in-Some.at c.args.to c.is_defined.result (is_defined (row (tables_shape c.args.tables.now).functions f)) f f enter c.is_defined.ensures refl c.in_ok-at-in-Some.ensures.led)

pub returns-in-None-clause-led : goal.returns-in-None-clause-led
returns-in-None-clause-led c = rw c.in-None.is (λ y. self_led (rows_of c.args.rows.now) c.args.to)
