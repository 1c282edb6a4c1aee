use Rattle.std.proofs.Common.{map, subst}
use Rattle.c_syntax.specs.View.{label_shape}
use Rattle.flow_walks.specs.Comes.{choice}
use Rattle.flow_walks.specs.Statements.{cases_go}
use Rattle.flow_rows.specs.Laying.{LedAt}
use Rattle.flow_rows.specs.View.{rows_of}
use Rattle.flow_rows.proofs.Laws.{grown_then}
use Rattle.flow_rows.proofs.Sited.{led_before}
use Rattle.flow_rows.proofs.cases.next_choices.Goals as goal

pub returns-clause-grown : goal.returns-clause-grown
returns-clause-grown c = grown_then _ _ _ c.in_ok-cases.ensures.grown c.in_ok-default.ensures.grown

pub returns-clause-cases : goal.returns-clause-cases
returns-clause-cases c =
    led_before (rows_of c.lay_labels.new.rows) (rows_of c.lay_default.new.rows) c.args.from.cases.at (λ k. cases_go c.args.decision c.args.from.cases.order (map label_shape c.args.labels.now) (k c.args.entry) (k c.in_ok-cases.cases.at)) c.in_ok-default.ensures.grown c.in_ok-cases.ensures.led

pub returns-clause-default : goal.returns-clause-default
returns-clause-default c =
    subst (λ b. LedAt (rows_of c.lay_default.new.rows) c.args.from.default (λ k. choice b (k c.args.entry) (k c.in_ok-default.default))) c.has_default.ensures c.in_ok-default.ensures.led
