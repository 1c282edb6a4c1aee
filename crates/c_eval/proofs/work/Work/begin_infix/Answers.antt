use Rattle.std.proofs.Common.{◌∙◌, ap}
use Rattle.c_syntax.specs.View.{expr_shape, node_shape}
use Rattle.c_tables.specs.Tables.{tables_shape}
use Rattle.c_world.specs.World.{state_of}
use Rattle.c_eval.specs.Rest.{left}
use Rattle.c_eval.proofs.Opened.{and_opens, binary_opens, choose_opens, comma_opens, or_opens, written_opens}
use Rattle.c_eval.proofs.work.Work.begin_infix.Goals as goal

pub returns-in_ok-step-in-Binary-clause-rest : goal.returns-in_ok-step-in-Binary-clause-rest
returns-in_ok-step-in-Binary-clause-rest c = λ k h. c.in_ok-step-in-Binary.ensures.rest k h ∙ binary_opens (tables_shape c.args.tables.now) k c.args.node.now (state_of c.args.world.now h) (left (tables_shape c.args.tables.now) k c.args.self.now) _ _ _ _ (ap expr_shape c.in-Binary.is) (ap node_shape c.deref.ensures)

pub returns-in_ok-step-in-And-clause-rest : goal.returns-in_ok-step-in-And-clause-rest
returns-in_ok-step-in-And-clause-rest c = λ k h. c.in_ok-step-in-And.ensures.rest k h ∙ and_opens (tables_shape c.args.tables.now) k c.args.node.now (state_of c.args.world.now h) (left (tables_shape c.args.tables.now) k c.args.self.now) _ _ _ (ap expr_shape c.in-And.is) (ap node_shape c.deref-in-And.ensures)

pub returns-in_ok-step-in-Or-clause-rest : goal.returns-in_ok-step-in-Or-clause-rest
returns-in_ok-step-in-Or-clause-rest c = λ k h. c.in_ok-step-in-Or.ensures.rest k h ∙ or_opens (tables_shape c.args.tables.now) k c.args.node.now (state_of c.args.world.now h) (left (tables_shape c.args.tables.now) k c.args.self.now) _ _ _ (ap expr_shape c.in-Or.is) (ap node_shape c.deref-in-Or.ensures)

pub returns-in_ok-step-in-Cond-clause-rest : goal.returns-in_ok-step-in-Cond-clause-rest
returns-in_ok-step-in-Cond-clause-rest c = λ k h. c.in_ok-step-in-Cond.ensures.rest k h ∙ choose_opens (tables_shape c.args.tables.now) k c.args.node.now (state_of c.args.world.now h) (left (tables_shape c.args.tables.now) k c.args.self.now) _ _ _ _ (ap expr_shape c.in-Cond.is) (ap node_shape c.deref-in-Cond.ensures)

pub returns-in_ok-step-in-Comma-clause-rest : goal.returns-in_ok-step-in-Comma-clause-rest
returns-in_ok-step-in-Comma-clause-rest c = λ k h. c.in_ok-step-in-Comma.ensures.rest k h ∙ comma_opens (tables_shape c.args.tables.now) k c.args.node.now (state_of c.args.world.now h) (left (tables_shape c.args.tables.now) k c.args.self.now) _ _ _ (ap expr_shape c.in-Comma.is) (ap node_shape c.deref-in-Comma.ensures)

pub returns-in_ok-step-in-Assign-clause-rest : goal.returns-in_ok-step-in-Assign-clause-rest
returns-in_ok-step-in-Assign-clause-rest c = λ k h. c.in_ok-step-in-Assign.ensures.rest k h ∙ written_opens (tables_shape c.args.tables.now) k c.args.node.now (state_of c.args.world.now h) (left (tables_shape c.args.tables.now) k c.args.self.now) _ _ _ _ (ap expr_shape c.in-Assign.is) (ap node_shape c.deref-in-Assign.ensures)
