use Rattle.std.proofs.Common.{◌∙◌, ap, sym}
use Rattle.c_syntax.specs.declared.tree.StmtForm.TheVariants as form
use Rattle.c_syntax.specs.View.{node_shape, form_shape}
use Rattle.c_tables.specs.Tables.{tables_shape}
use Rattle.c_world.specs.World.{state_of}
use Rattle.c_machine.specs.Forms.{test_in}
use Rattle.c_machine.specs.Todo.{behind, knot_of}
use Rattle.c_machine.proofs.Loops.{again_tested, again_untested}
use Rattle.c_machine.proofs.machine.Machine.again_at_once.Goals as goal

pub returns-in_ok-step-in-While-clause-left : goal.returns-in_ok-step-in-While-clause-left
returns-in_ok-step-in-While-clause-left c = λ h.
    let p = c.args.plan.now.program.now in
    c.in_ok-step-in-While.ensures.left h
    ∙ again_tested p (form_shape c.args.turning.placed.stmt.now.form) c.args.turning.placed.before (node_shape c.in-While.test) (state_of c.args.world.now h) (behind (tables_shape p.tables) (knot_of p) c.args.self.now) (ap (λ f. test_in (form_shape f)) (sym c.in-While.is))

pub returns-in_ok-step-in-Do-clause-left : goal.returns-in_ok-step-in-Do-clause-left
returns-in_ok-step-in-Do-clause-left c = λ h.
    let p = c.args.plan.now.program.now in
    c.in_ok-step-in-Do.ensures.left h
    ∙ again_tested p (form_shape c.args.turning.placed.stmt.now.form) c.args.turning.placed.before (node_shape c.in-Do.test) (state_of c.args.world.now h) (behind (tables_shape p.tables) (knot_of p) c.args.self.now) (ap (λ f. test_in (form_shape f)) (sym c.in-Do.is))

pub returns-in_ok-step-in-Some-clause-left : goal.returns-in_ok-step-in-Some-clause-left
returns-in_ok-step-in-Some-clause-left c = λ h.
    let p = c.args.plan.now.program.now in
    c.in_ok-step-in-Some.ensures.left h
    ∙ again_tested p (form_shape c.args.turning.placed.stmt.now.form) c.args.turning.placed.before (node_shape c.in-Some.test) (state_of c.args.world.now h) (behind (tables_shape p.tables) (knot_of p) c.args.self.now) (ap (λ f. test_in (form_shape f)) (sym (c.in-For.is ∙ ap (λ y. form.For c.in-For.field-0 y c.in-For.field-2 c.in-For.field-3) c.in-Some.is)))

pub returns-in_ok-step-in-None-clause-left : goal.returns-in_ok-step-in-None-clause-left
returns-in_ok-step-in-None-clause-left c = λ h.
    let p = c.args.plan.now.program.now in
    c.in_ok-step-in-None.ensures.left h
    ∙ again_untested p (form_shape c.args.turning.placed.stmt.now.form) c.args.turning.placed.before (state_of c.args.world.now h) (behind (tables_shape p.tables) (knot_of p) c.args.self.now) (ap (λ f. test_in (form_shape f)) (sym (c.in-For.is ∙ ap (λ y. form.For c.in-For.field-0 y c.in-For.field-2 c.in-For.field-3) c.in-None.is)))
