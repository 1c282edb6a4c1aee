use Rattle.std.proofs.Common.{◌∙◌, refl, sym}
use Rattle.c_tables.specs.Tables.{tables_shape}
use Rattle.c_world.specs.World.{state_of}
use Rattle.c_eval.specs.Rest.{left}
use Rattle.c_eval.proofs.Opened.{pointed_opens, unary_opens}
use Rattle.c_eval.proofs.work.Work.begin_unary.Goals as goal

pub returns-in_ok-step-clause-rest : goal.returns-in_ok-step-clause-rest
returns-in_ok-step-clause-rest c = λ k h. c.in_ok-step.ensures.rest k h ∙ pointed_opens (tables_shape c.args.tables.now) k c.args.node.now (state_of c.args.world.now h) (left (tables_shape c.args.tables.now) k c.args.self.now) c.args.op _ _ c.requires.form refl (sym c.is_address.ensures ∙ c.if-is_address.true)

pub returns-in_ok-step-2-clause-rest : goal.returns-in_ok-step-2-clause-rest
returns-in_ok-step-2-clause-rest c = λ k h. c.in_ok-step-2.ensures.rest k h ∙ unary_opens (tables_shape c.args.tables.now) k c.args.node.now (state_of c.args.world.now h) (left (tables_shape c.args.tables.now) k c.args.self.now) c.args.op _ _ c.requires.form refl (sym c.is_address.ensures ∙ c.if-is_address.false) c.requires.value
