use Rattle.std.proofs.Common.{[], sym, ap, ◌∙◌}
use Rattle.c_tables.specs.Tables.{tables_shape}
use Rattle.c_meaning.specs.Results.{then_do}
use Rattle.c_meaning.specs.Calls.{routine}
use Rattle.c_meaning.specs.Runs.{silent}
use Rattle.c_meaning.specs.Sources.{source_of}
use Rattle.c_world.specs.World.{state_of}
use Rattle.c_machine.specs.Run.{ended_as}
use Rattle.c_machine.specs.Todo.{entered_flow, all_wait, at_end, left_after, knot_of}
use Rattle.c_machine.proofs.Entered.{called_is}
use Rattle.c_machine.proofs.machine.Machine.begin_run.Goals as goal

pub returns-in-More-clause-left : goal.returns-in-More-clause-left
returns-in-More-clause-left c = λ h.
    let p = c.args.plan.now.program.now in
    let t = tables_shape p.tables in
    let k = knot_of p in
    let f = c.args.function in
    let s = state_of c.args.world.now h in
    ap (λ a. left_after t k a c.enter.new.self (state_of c.enter.new.world h)) (sym c.in-More.is)
    ∙ c.in_ok-enter.ensures.left h
    ∙ ap (λ ws. then_do (entered_flow t k f (routine (source_of p) silent f) [] s) (all_wait t k ws (at_end t f))) c.new-3.ensures.items
    ∙ called_is p f [] s

pub returns-in-Stopped-clause-left : goal.returns-in-Stopped-clause-left
returns-in-Stopped-clause-left c = λ h.
    let p = c.args.plan.now.program.now in
    let t = tables_shape p.tables in
    let k = knot_of p in
    let f = c.args.function in
    let s = state_of c.args.world.now h in
    ap (λ e. ended_as e (state_of c.enter.new.world h)) (sym c.in-Stopped.is)
    ∙ ap (λ a. left_after t k a c.enter.new.self (state_of c.enter.new.world h)) (sym c.in-Ended.is)
    ∙ c.in_ok-enter.ensures.left h
    ∙ ap (λ ws. then_do (entered_flow t k f (routine (source_of p) silent f) [] s) (all_wait t k ws (at_end t f))) c.new-3.ensures.items
    ∙ called_is p f [] s
