use Rattle.std.proofs.Common.{◌∙◌, ap}
use Rattle.c_syntax.specs.View.{expr_shape, node_shape}
use Rattle.c_tables.specs.Tables.{tables_shape}
use Rattle.c_world.specs.World.{state_of}
use Rattle.c_eval.specs.Rest.{left}
use Rattle.c_eval.proofs.Opened.{cast_opens, step_opens}
use Rattle.c_eval.proofs.work.Work.begin_prefix.Goals as goal

pub returns-in_ok-step-in-Cast-clause-rest : goal.returns-in_ok-step-in-Cast-clause-rest
returns-in_ok-step-in-Cast-clause-rest c = λ k h. c.in_ok-step-in-Cast.ensures.rest k h ∙ cast_opens (tables_shape c.args.tables.now) k c.args.node.now (state_of c.args.world.now h) (left (tables_shape c.args.tables.now) k c.args.self.now) _ _ _ (ap expr_shape c.in-Cast.is) (ap node_shape c.deref-in-Cast.ensures)

pub returns-in_ok-step-in-Step-clause-rest : goal.returns-in_ok-step-in-Step-clause-rest
returns-in_ok-step-in-Step-clause-rest c = λ k h. c.in_ok-step-in-Step.ensures.rest k h ∙ step_opens (tables_shape c.args.tables.now) k c.args.node.now (state_of c.args.world.now h) (left (tables_shape c.args.tables.now) k c.args.self.now) _ _ _ (ap expr_shape c.in-Step.is) (ap node_shape c.deref-in-Step.ensures)
