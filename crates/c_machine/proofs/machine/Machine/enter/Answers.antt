use Rattle.std.proofs.Common.{[], arith, ap, sym, ◌∙◌}
use Rattle.std.specs.Prelude.{option_map}
use Rattle.c_syntax.specs.View.{decl_form_shape, compound_shape}
use Rattle.c_tables.specs.Tables.{tables_shape}
use Rattle.c_tree.specs.declared.program.Program.{Program}
use Rattle.c_meaning.specs.Results.{then_do}
use Rattle.c_meaning.specs.Calls.{routine, entered}
use Rattle.c_meaning.specs.Runs.{silent}
use Rattle.c_meaning.specs.Sources.{source_of}
use Rattle.c_plan.specs.Routines.{routine_of}
use Rattle.c_world.specs.World.{state_of, tables_of, answered}
use Rattle.c_machine.specs.Todo.{behind, knot_of}
use Rattle.c_machine.proofs.Entered.{begun_body, entered_then}
use Rattle.c_machine.proofs.Moves.{more_if}
use Rattle.c_machine.proofs.Turns.{entered_turns}
use Rattle.c_machine.proofs.machine.Machine.enter.Goals as goal

pub returns-in_ok-step-in-None-clause-falls : goal.returns-in_ok-step-in-None-clause-falls
returns-in_ok-step-in-None-clause-falls c =
    let w = c.args.world.now in
    let v = c.enter.new.self in
    let same = entered_turns (tables_of w) c.args.function c.in-Some.called c.args.args.now (state_of w []) (state_of v []) c.in_ok-why.field-0 (c.in_ok-why.ensures.done []) in
    more_if c.in_ok-step-in-None.step _ _ c.in_ok-step-in-None.ensures.falls (λ h. omega (arith, h, same))

pub returns-in_ok-step-in-None-clause-left : goal.returns-in_ok-step-in-None-clause-left
returns-in_ok-step-in-None-clause-left c = λ h.
    let p = c.args.plan.now.program.now in
    let t = tables_shape p.tables in
    let k = knot_of p in
    let r = c.in-Some.called in
    let v = state_of c.enter.new.self h in
    let go = behind t k c.args.self.now in
    c.in_ok-step-in-None.ensures.left h
    ∙ ap (λ q. then_do q go) (begun_body t k r.marks.now (decl_form_shape r.params.now) (compound_shape r.body.now) r.before v)
    ∙ entered_then t k c.args.function (routine (source_of p) silent c.args.function) (routine_of r) c.args.args.now (state_of c.args.world.now h) v go
    (ap (λ (q : Program). routine (source_of q) silent c.args.function) (sym c.requires.program) ∙ sym c.routine.ensures ∙ ap (option_map routine_of) c.in-Some.is)
    (ap (λ (q : Program). entered (tables_shape q.tables) c.args.function (routine_of r) c.args.args.now (state_of c.args.world.now h)) (sym c.requires.program) ∙ c.in_ok-why.ensures.done h ∙ ap (λ o. answered o v) c.in-None.is)
