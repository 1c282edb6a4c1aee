use Rattle.std.proofs.Common.{Some, ap, sym, ◌∙◌}
use Rattle.std.specs.Prelude.{option_map}
use Rattle.c_syntax.specs.View.{form_shape, node_shape}
use Rattle.c_tables.specs.Tables.{tables_shape}
use Rattle.c_world.specs.World.{state_of}
use Rattle.c_machine.specs.Forms.{found_node}
use Rattle.c_machine.specs.Todo.{knot_of, behind}
use Rattle.c_machine.proofs.Loops.{again_tested, again_untested}
use Rattle.c_machine.proofs.machine.Machine.again.Goals as goal

pub returns-in_ok-step-in-Some-None-clause-left : goal.returns-in_ok-step-in-Some-None-clause-left
returns-in_ok-step-in-Some-None-clause-left c = λ h.
    let p = c.args.plan.now.program.now in
    let s = state_of c.args.world.now h in
    c.in_ok-step-in-Some-None.ensures.left p s
    ∙ again_untested p (form_shape c.args.placed.stmt.now.form) c.args.placed.before s (behind (tables_shape p.tables) (knot_of p) c.args.self.now) (ap (option_map found_node) (sym (c.in-Some-None.is ∙ ap Some c.in-Some-None.field-0-is)) ∙ c.test_of.ensures)

pub returns-in_ok-step-in-Some-Some-clause-left : goal.returns-in_ok-step-in-Some-Some-clause-left
returns-in_ok-step-in-Some-Some-clause-left c = λ h.
    let p = c.args.plan.now.program.now in
    let s = state_of c.args.world.now h in
    c.in_ok-step-in-Some-Some.ensures.left h
    ∙ again_tested p (form_shape c.args.placed.stmt.now.form) c.args.placed.before (node_shape c.in-Some-Some.test.now) s (behind (tables_shape p.tables) (knot_of p) c.args.self.now) (ap (option_map found_node) (sym (c.in-Some-Some.is ∙ ap Some c.in-Some-Some.field-0-is)) ∙ c.test_of.ensures)
