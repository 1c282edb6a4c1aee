use Rattle.std.proofs.Common.{◌∙◌, sym}
use Rattle.c_syntax.specs.View.{node_shape}
use Rattle.c_tables.specs.Tables.{tables_shape}
use Rattle.c_world.specs.World.{state_of}
use Rattle.c_eval.specs.Rest.{left}
use Rattle.c_eval.proofs.Opened.{assigned_written, assigned_copied}
use Rattle.c_eval.proofs.work.Work.take_assigned.Goals as goal

pub returns-in_ok-step-clause-rest : goal.returns-in_ok-step-clause-rest
returns-in_ok-step-clause-rest c = λ k h.
    let t = tables_shape c.args.tables.now in
    c.in_ok-step.ensures.rest k h ∙ assigned_copied t k c.args.node.now (state_of c.args.world.now h) (left t k c.args.self.now) (node_shape c.args.a.now) (node_shape c.args.b.now) c.args.at c.requires (sym c.has_structure.ensures ∙ c.if-has_structure.true)

pub returns-in_ok-step-2-clause-rest : goal.returns-in_ok-step-2-clause-rest
returns-in_ok-step-2-clause-rest c = λ k h.
    let t = tables_shape c.args.tables.now in
    c.in_ok-step-2.ensures.rest k h ∙ assigned_written t k c.args.node.now (state_of c.args.world.now h) (left t k c.args.self.now) (node_shape c.args.a.now) (node_shape c.args.b.now) c.args.at c.requires (sym c.has_structure.ensures ∙ c.if-has_structure.false)
