use Rattle.std.proofs.Common.{◌∙◌, ap, sym}
use Rattle.c_syntax.specs.View.{expr_shape, node_shape}
use Rattle.c_tables.specs.Tables.{tables_shape}
use Rattle.c_world.specs.World.{state_of}
use Rattle.c_eval.specs.Rest.{left}
use Rattle.c_eval.proofs.Opened.{and_taken, or_taken}
use Rattle.c_eval.proofs.work.Work.take_test.Goals as goal

pub returns-in_ok-step-in-And-clause-rest : goal.returns-in_ok-step-in-And-clause-rest
returns-in_ok-step-in-And-clause-rest c = λ k h. let t = tables_shape c.args.tables.now in c.in_ok-step-in-And.ensures.rest k h ∙ and_taken t k c.args.node.now (state_of c.args.world.now h) (left t k c.args.self.now) _ _ _ c.args.value (ap expr_shape c.in-And.is) (ap node_shape c.deref.ensures) (sym c.is_true.ensures ∙ c.if-is_true.true)

pub returns-in_ok-step-in-Or-clause-rest : goal.returns-in_ok-step-in-Or-clause-rest
returns-in_ok-step-in-Or-clause-rest c = λ k h. let t = tables_shape c.args.tables.now in c.in_ok-step-in-Or.ensures.rest k h ∙ or_taken t k c.args.node.now (state_of c.args.world.now h) (left t k c.args.self.now) _ _ _ c.args.value (ap expr_shape c.in-Or.is) (ap node_shape c.deref-else-is_true-2.ensures) (sym c.is_true-in-Or.ensures ∙ c.if-is_true-2.false)
