use Rattle.std.proofs.Common.{ap, ◌∙◌, Vec, Global}
use Rattle.c_tables.specs.Tables.{tables_shape}
use Rattle.c_tables.specs.Rows.{row}
use Rattle.c_meaning.specs.Results.{then_do}
use Rattle.c_meaning.specs.Calls.{routine, result_in, returned}
use Rattle.c_meaning.specs.Runs.{silent}
use Rattle.c_meaning.specs.Sources.{source_of}
use Rattle.c_world.specs.World.{state_of}
use Rattle.c_eval.specs.declared.frame.Frame.{Frame}
use Rattle.c_machine.specs.declared.machine.Machine.{Machine}
use Rattle.c_machine.specs.declared.parts.Waiting.TheVariants as waiting
use Rattle.c_machine.specs.Todo.{entered_flow, resumed, knot_of, behind, waits}
use Rattle.c_machine.proofs.Entered.{called_then}
use Rattle.c_machine.proofs.Spare.{spare_after}
use Rattle.c_machine.proofs.machine.Machine.call.Goals as goal

pub returns-clause-left : goal.returns-clause-left
returns-clause-left c = λ h.
    let p = c.args.plan.now.program.now in
    let t = tables_shape p.tables in
    let k = knot_of p in
    let f = c.args.function in
    let u = c.args.self.now.used in
    let s = state_of c.args.world.now h in
    let go = behind t k c.args.self.now in
    spare_after t k c.in_ok-step.step c.enter.new.self c.args.args (state_of c.enter.new.world h)
    ∙ c.in_ok-step.ensures.left h
    ∙ ap (λ go. then_do (entered_flow t k f (routine (source_of p) silent f) c.deref.result.now s) go) (c.in_ok-wait.ensures.behind t k)
    ∙ ap (λ (m : Machine). then_do (entered_flow t k f (routine (source_of p) silent f) c.deref.result.now s) (waits t k (waiting.Caller f c.replace-frames.result u) (behind t k m))) c.empty_stack-empty.ensures.same
    ∙ ap (λ (v : Vec Frame Global). then_do (entered_flow t k f (routine (source_of p) silent f) c.deref.result.now s) (λ g s. then_do (returned (result_in (row t.functions f)) g s) (resumed t k v.items u go))) c.replace-frames.ensures.value
    ∙ ap (λ (v : Vec Frame Global). then_do (entered_flow t k f (routine (source_of p) silent f) c.deref.result.now s) (λ g s. then_do (returned (result_in (row t.functions f)) g s) (resumed t k v.items u go))) (ap (λ (m : Machine). m.work.stack) c.empty_stack-empty.ensures.same)
    ∙ ap (λ vs. then_do (entered_flow t k f (routine (source_of p) silent f) vs s) (λ g s. then_do (returned (result_in (row t.functions f)) g s) (resumed t k c.args.self.now.work.stack.items u go))) c.deref.ensures.value
    ∙ called_then p f c.args.args.items s (resumed t k c.args.self.now.work.stack.items u go)
