use Rattle.flow_rows.specs.View.{rows_of}
use Rattle.flow_rows.proofs.Laws.{grown_then}
use Rattle.flow_rows.proofs.Chosen.{default_led, other_led}
use Rattle.flow_rows.proofs.cases.lay_default.Goals as goal

pub returns-in_ok-fill-clause-grown : goal.returns-in_ok-fill-clause-grown
returns-in_ok-fill-clause-grown c = grown_then _ _ _ c.in_ok-behind.ensures.grown c.in_ok-fill.ensures.grown

pub returns-in_ok-fill-clause-led : goal.returns-in_ok-fill-clause-led
returns-in_ok-fill-clause-led c = default_led (rows_of c.fill.new.self) c.args.at c.args.entry c.in_ok-behind.behind c.args.default c.if-default.true c.in_ok-fill.ensures.laid

pub returns-else-default-clause-led : goal.returns-else-default-clause-led
returns-else-default-clause-led c = other_led (rows_of c.args.rows.now) c.args.at c.args.entry c.args.default c.if-default.false
