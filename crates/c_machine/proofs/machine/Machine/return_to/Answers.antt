use Rattle.std.proofs.Common.{◌≡◌, [], ap, subst, ◌∙◌, arith, Vec, Global}
use Rattle.c_tree.specs.declared.program.Program.{Program}
use Rattle.c_tables.specs.declared.tables.Tables as tables
use Rattle.c_tables.specs.Tables.{tables_shape}
use Rattle.c_tables.specs.Rows.{row}
use Rattle.c_meaning.specs.State.{State}
use Rattle.c_meaning.specs.Results.{Gives, then_do}
use Rattle.c_meaning.specs.Calls.{left, result_in, returned}
use Rattle.c_world.specs.World.{state_of}
use Rattle.c_eval.specs.declared.frame.Frame.{Frame}
use Rattle.c_eval.specs.Rest.{weights}
use Rattle.c_machine.specs.Todo.{uses, resumed, knot_of, behind}
use Rattle.c_machine.proofs.machine.Machine.return_to.Goals as goal

pub returns-in-Some-clause-left : goal.returns-in-Some-clause-left
returns-in-Some-clause-left c = λ h.
    let p = c.args.plan.now.program.now in
    let t = tables_shape p.tables in
    let k = knot_of p in
    let s = state_of c.args.world.now h in
    let go = behind t k c.args.self.now in
    let u = c.args.used in
    let v = c.in-Some.value in
    let f = c.args.function in
    let found = subst (λ (t : tables.Tables). Gives v (left s) ≡ returned (result_in (row (tables_shape t).functions f)) c.args.flow s) (c.tables.ensures ∙ ap (λ (p : Program). p.tables) c.requires.program) (c.in-Some.ensures s) in
    ap (λ r. then_do r (uses t k u go)) (c.resume.ensures.rest t k (state_of c.leave.new.self h))
    ∙ ap (λ (fs : Vec Frame Global). resumed t k fs.items u go v (state_of c.leave.new.self h)) c.replace-done.ensures.after
    ∙ ap (λ s. resumed t k c.args.frames.items u go v s) (c.leave.ensures.left h)
    ∙ ap (λ r. then_do r (resumed t k c.args.frames.items u go)) found

pub returns-in-Some-clause-size : goal.returns-in-Some-clause-size
returns-in-Some-clause-size c = omega (arith, c.resume.ensures.size, ap (λ (fs : Vec Frame Global). weights fs.items) c.replace-done.ensures.after, ap (λ (s : State). s.turns) (c.leave.ensures.left []))
