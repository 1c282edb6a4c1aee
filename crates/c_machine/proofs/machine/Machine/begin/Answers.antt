use Rattle.std.proofs.Common.{sym, ap, ◌∙◌}
use Rattle.c_syntax.specs.View.{compound_shape, form_shape}
use Rattle.c_tables.specs.Tables.{tables_shape}
use Rattle.c_meaning.specs.Firsts.{quiet}
use Rattle.c_meaning.specs.Results.{then_do}
use Rattle.c_meaning.specs.Statements.{form_flow}
use Rattle.c_world.specs.World.{state_of}
use Rattle.c_machine.specs.Todo.{knot_of, behind}
use Rattle.c_machine.proofs.Begun.{scoped_is, if_opens, switch_begins}
use Rattle.c_machine.proofs.machine.Machine.begin.Goals as goal

pub returns-in_ok-step-in-Compound-clause-left : goal.returns-in_ok-step-in-Compound-clause-left
returns-in_ok-step-in-Compound-clause-left c = λ h.
    let p = c.args.plan.now.program.now in
    let t = tables_shape p.tables in
    let k = knot_of p in
    let s = state_of c.args.world.now h in
    c.in_ok-step-in-Compound.ensures.left h
    ∙ ap (λ r. then_do r (behind t k c.args.self.now)) (scoped_is t k c.of-block.result (compound_shape c.in-Compound.body) c.args.placed.before s c.of-block.ensures)
    ∙ ap (λ f. then_do (form_flow t k f (quiet c.args.placed.before) s) (behind t k c.args.self.now)) (sym (ap form_shape c.in-Compound.is))

pub returns-in_ok-step-in-If-clause-left : goal.returns-in_ok-step-in-If-clause-left
returns-in_ok-step-in-If-clause-left c = λ h.
    let p = c.args.plan.now.program.now in
    c.in_ok-step-in-If.ensures.left h
    ∙ if_opens (tables_shape p.tables) (knot_of p) c.args.placed.stmt.now.form c.in-If.test c.in-If.field-1 c.in-If.field-2 c.args.placed.before (state_of c.args.world.now h) (behind (tables_shape p.tables) (knot_of p) c.args.self.now) c.in-If.is

pub returns-in-Switch-clause-left : goal.returns-in-Switch-clause-left
returns-in-Switch-clause-left c = λ h.
    let p = c.args.plan.now.program.now in
    c.work_at.ensures.left (tables_shape p.tables) (knot_of p) (state_of c.args.world.now h)
    ∙ switch_begins (tables_shape p.tables) (knot_of p) c.args.placed.stmt.now.form c.in-Switch.chosen c.in-Switch.field-1 c.args.placed.before (state_of c.args.world.now h) (behind (tables_shape p.tables) (knot_of p) c.args.self.now) c.in-Switch.is
