use Rattle.std.proofs.Common.{sym, subst}
use Rattle.c_walk.specs.ItemView.{outcomes_shape}
use Rattle.flow_walks.specs.Comes.{evaluated}
use Rattle.flow_rows.specs.Laying.{LaidAt, ways}
use Rattle.flow_rows.specs.View.{rows_of}
use Rattle.flow_rows.proofs.leaving.leave_with.Goals as goal

pub returns-in_ok-fill-in-Value-clause-laid : goal.returns-in_ok-fill-in-Value-clause-laid
returns-in_ok-fill-in-Value-clause-laid c =
    subst (λ to. LaidAt (rows_of c.fill.new.self) c.args.at (λ k. evaluated (outcomes_shape c.args.outcomes.now) (ways k to))) (sym c.in-Value.is) c.in_ok-fill-in-Value.ensures.laid

pub returns-in_ok-fill-in-OnlyTrue-clause-laid : goal.returns-in_ok-fill-in-OnlyTrue-clause-laid
returns-in_ok-fill-in-OnlyTrue-clause-laid c = rw (c.in-Test.is, c.in-OnlyTrue.is) c.in_ok-fill-in-OnlyTrue.ensures.laid

pub returns-in_ok-fill-in-OnlyFalse-clause-laid : goal.returns-in_ok-fill-in-OnlyFalse-clause-laid
returns-in_ok-fill-in-OnlyFalse-clause-laid c = rw (c.in-Test.is, c.in-OnlyFalse.is) c.in_ok-fill-in-OnlyFalse.ensures.laid

pub returns-in_ok-decide-in-Both-clause-laid : goal.returns-in_ok-decide-in-Both-clause-laid
returns-in_ok-decide-in-Both-clause-laid c = rw (c.in-Test.is, c.in-Both.is) c.in_ok-decide-in-Both.ensures.laid

pub returns-in_ok-decide-in-Cases-clause-laid : goal.returns-in_ok-decide-in-Cases-clause-laid
returns-in_ok-decide-in-Cases-clause-laid c = rw (c.in-Test.is, c.in-Cases.is) c.in_ok-decide-in-Cases.ensures.laid
