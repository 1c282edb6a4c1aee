use Rattle.std.proofs.Common.{◌∙◌, ap}
use Rattle.c_syntax.specs.View.{node_shape}
use Rattle.c_tables.specs.Tables.{tables_shape}
use Rattle.c_meaning.specs.Results.{then_do}
use Rattle.c_world.specs.World.{state_of}
use Rattle.c_eval_once.specs.Parts.{value}
use Rattle.c_machine.specs.declared.parts.Purpose.TheVariants as purpose
use Rattle.c_machine.specs.declared.parts.Use.TheVariants as used
use Rattle.c_machine.specs.Todo.{knot_of, behind, uses}
use Rattle.c_machine.proofs.machine.Machine.then_loop.Goals as goal

pub returns-in-None-clause-left : goal.returns-in-None-clause-left
returns-in-None-clause-left c = λ h.
    let p = c.args.plan.now.program.now in
    let t = tables_shape p.tables in
    let k = knot_of p in
    c.work_at.ensures.left t k (state_of c.direct.new.world h)
    ∙ ap (λ s. then_do (value t k (node_shape c.args.node.now) s) (uses t k (used.Stmt purpose.Again c.args.placed) (behind t k c.args.self.now))) (c.in-None.ensures.is k h)
