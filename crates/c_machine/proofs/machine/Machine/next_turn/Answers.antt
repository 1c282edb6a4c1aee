use Rattle.std.proofs.Common.{◌∙◌}
use Rattle.c_syntax.specs.View.{form_shape, node_shape}
use Rattle.c_tables.specs.Tables.{tables_shape}
use Rattle.c_world.specs.World.{state_of}
use Rattle.c_machine.specs.Todo.{knot_of, behind}
use Rattle.c_machine.proofs.Loops.{next_stepped}
use Rattle.c_machine.proofs.machine.Machine.next_turn.Goals as goal

pub returns-in_ok-step-in-Some-clause-left : goal.returns-in_ok-step-in-Some-clause-left
returns-in_ok-step-in-Some-clause-left c = λ h.
    let p = c.args.plan.now.program.now in
    c.in_ok-step-in-Some.ensures.left h
    ∙ next_stepped (tables_shape p.tables) (knot_of p) (form_shape c.args.placed.stmt.now.form) c.args.placed.before (node_shape c.in-Some.node.now) (state_of c.args.world.now h) (behind (tables_shape p.tables) (knot_of p) c.args.self.now) c.in-Some.ensures
