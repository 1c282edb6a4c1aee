-- A loop of a program, and the same with its probes; and what is behind a call or a loop's further turns, in the two runs.
use Rattle.std.proofs.Common.{◌≡◌, ℕ, List, true}
use Rattle.c_syntax.specs.Shape.{MaybeNode, StmtShape}
use Rattle.c_store.specs.declared.value.Value.{Value}
use Rattle.c_tables.specs.Tables.{TablesShape}
use Rattle.c_walk.specs.declared.around.Around.{Around}
use Rattle.c_walk.specs.Walked.{Walked, with_block}
use Rattle.c_walk.specs.Walking.{walk_maybe_test, walk_step}
use Rattle.c_walk.specs.Stating.{walk_stmt, pos_of_stmt}
use Rattle.c_meaning.specs.State.{State}
use Rattle.c_meaning.specs.Firsts.{quiet, heard}
use Rattle.c_meaning.specs.Knot.{Loop, Knot}
use Rattle.probe_rules.specs.ProbedExpressions.{probed_maybe_test, probed_step}
use Rattle.probe_rules.specs.ProbedStatements.{probed_stmt}
use Rattle.probe_rules.specs.Fitting.{HasFewItems}
use Rattle.probe_rules.proofs.Ready.{IsReadyMaybe, IsReadyStmt}
use Rattle.probe_rules.proofs.Told.{as_log, with_log}

-- a loop, with what is counted before each part
pub record HeardLoop : Type 0 where
  pub around : Around
  pub test : MaybeNode
  pub at_test : Walked
  pub body : StmtShape
  pub at_body : Walked
  pub step : MaybeNode
  pub at_step : Walked

abbrev pub told_loop : HeardLoop → Loop
told_loop h = record { test = h.test; at_test = heard h.around h.at_test; body = h.body; at_body = heard h.around h.at_body; step = h.step; at_step = heard h.around h.at_step }

abbrev pub probed_loop : TablesShape → HeardLoop → Loop
probed_loop t h = record {
  test = probed_maybe_test h.around h.test h.at_test;
  at_test = quiet h.at_test.variables;
  body = probed_stmt t h.around true h.body h.at_body;
  at_body = quiet h.at_body.variables;
  step = probed_step h.around h.step h.at_step;
  at_step = quiet h.at_step.variables;
}

pub record IsReadyLoop (t : TablesShape) (h : HeardLoop) : Type 0 where
  pub test : IsReadyMaybe h.test
  pub body : IsReadyStmt h.body
  pub step : IsReadyMaybe h.step
  pub few_tests : HasFewItems (walk_maybe_test h.around h.test h.at_test)
  pub few_bodies : HasFewItems (walk_stmt t h.around h.body (with_block (pos_of_stmt h.body) h.at_body))
  pub few_steps : HasFewItems (walk_step h.around h.step h.at_step)

-- the first knot does what the other does, and logs what it tells
pub record Follows (t : TablesShape) (k l : Knot) : Type 0 where
  pub call_follows : (f : ℕ) (vs : List Value) (s : State) → k.call f vs (as_log s) ≡ with_log (l.call f vs s)
  pub again_follows : (h : HeardLoop) → IsReadyLoop t h → (s : State) → k.again (probed_loop t h) (as_log s) ≡ with_log (l.again (told_loop h) s)
