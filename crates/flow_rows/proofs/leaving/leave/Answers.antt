use Rattle.std.proofs.Common.{sym, subst}
use Rattle.c_walk.specs.Items.{both}
use Rattle.flow_walks.specs.Comes.{evaluated}
use Rattle.flow_rows.specs.Laying.{LedAt, ways}
use Rattle.flow_rows.specs.View.{rows_of}
use Rattle.flow_rows.proofs.Laws.{grown_then}
use Rattle.flow_rows.proofs.Sited.{self_led, laid_led}
use Rattle.flow_rows.proofs.leaving.leave.Goals as goal

pub returns-in-Value-clause-led : goal.returns-in-Value-clause-led
returns-in-Value-clause-led c =
    subst (λ to. LedAt (rows_of c.args.rows.now) c.in-Value.row (λ k. evaluated both (ways k to))) (sym c.in-Value.is) (self_led (rows_of c.args.rows.now) c.in-Value.row)

pub returns-in_ok-decide-in-Test-clause-grown : goal.returns-in_ok-decide-in-Test-clause-grown
returns-in_ok-decide-in-Test-clause-grown c =
    grown_then (rows_of c.args.rows.now) (rows_of c.hole.new.self) (rows_of c.decide.new.rows) c.in_ok-at-in-Test.ensures.grown c.in_ok-decide-in-Test.ensures.grown

pub returns-in_ok-decide-in-Test-clause-led : goal.returns-in_ok-decide-in-Test-clause-led
returns-in_ok-decide-in-Test-clause-led c =
    subst (λ to. LedAt (rows_of c.decide.new.rows) c.in_ok-at-in-Test.at (λ k. evaluated both (ways k to))) (sym c.in-Test.is) (laid_led (rows_of c.decide.new.rows) c.in_ok-at-in-Test.at _ c.in_ok-decide-in-Test.ensures.laid)
