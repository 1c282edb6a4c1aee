use Rattle.std.proofs.Common.{sym, ap, ◌∙◌}
use Rattle.c_tables.specs.Tables.{tables_shape}
use Rattle.c_meaning.specs.Results.{then_do}
use Rattle.c_meaning.proofs.Steps.{then_then}
use Rattle.c_world.specs.World.{state_of}
use Rattle.c_eval.specs.Rest.{to_value, left, rest_after}
use Rattle.c_machine.specs.Todo.{uses, knot_of, behind}
use Rattle.c_machine.proofs.machine.Machine.busy.Goals as goal

pub returns-in_ok-step-in-Call-clause-left : goal.returns-in_ok-step-in-Call-clause-left
returns-in_ok-step-in-Call-clause-left c = λ h.
    let p = c.args.plan.now.program.now in
    let t = tables_shape p.tables in
    let k = knot_of p in
    let m = c.args.self.now in
    let s = state_of c.args.world.now h in
    c.in_ok-step-in-Call.ensures.left h
    ∙ sym (then_then (k.call c.in-Call.function c.in-Call.args.items s) (to_value (left t k m.work)) (uses t k m.used (behind t k m)))
    ∙ ap (λ a. then_do (rest_after t k a m.work s) (uses t k m.used (behind t k m))) (sym c.in-Call.is)
