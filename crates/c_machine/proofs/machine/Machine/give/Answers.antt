use Rattle.std.proofs.Common.{◌∙◌, ap}
use Rattle.c_syntax.specs.View.{node_shape, maybe_node}
use Rattle.c_tables.specs.Tables.{tables_shape}
use Rattle.c_meaning.specs.Results.{then_do}
use Rattle.c_world.specs.World.{state_of}
use Rattle.c_eval_once.specs.Parts.{value}
use Rattle.c_machine.specs.declared.parts.Use.TheVariants as used
use Rattle.c_machine.specs.Todo.{knot_of, behind, uses}
use Rattle.c_machine.proofs.Begun.{gives_back}
use Rattle.c_machine.proofs.machine.Machine.give.Goals as goal

pub returns-in-None-direct-clause-left : goal.returns-in-None-direct-clause-left
returns-in-None-direct-clause-left c = λ h.
    let p = c.args.plan.now.program.now in
    let t = tables_shape p.tables in
    let k = knot_of p in
    let e = node_shape c.in-Some.node in
    let go = behind t k c.args.self.now in
    c.work_at.ensures.left t k (state_of c.direct.new.world h)
    ∙ ap (λ s. then_do (value t k e s) (uses t k used.Return go)) (c.in-None-direct.ensures.is k h)
    ∙ gives_back t k (maybe_node c.args.node.now) e (state_of c.args.world.now h) go (ap maybe_node c.in-Some.is)
