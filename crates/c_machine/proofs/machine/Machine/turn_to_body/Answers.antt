use Rattle.std.proofs.Common.{[], ◌+◌, sym, ap, ◌∙◌, arith}
use Rattle.c_syntax.specs.View.{compound_shape, decl_form_shape}
use Rattle.c_tables.specs.Tables.{tables_shape}
use Rattle.c_meaning.specs.State.{State}
use Rattle.c_meaning.specs.Results.{then_do, turn}
use Rattle.c_meaning.specs.Firsts.{quiet}
use Rattle.c_meaning.specs.Counts.{signature_variables}
use Rattle.c_meaning.specs.Statements.{compound_flow}
use Rattle.c_world.specs.Names.{scope_counts}
use Rattle.c_world.specs.World.{state_of}
use Rattle.c_machine.specs.Todo.{knot_of, behind}
use Rattle.c_machine.proofs.Moves.{more_if}
use Rattle.c_machine.proofs.Begun.{block_is}
use Rattle.c_machine.proofs.machine.Machine.turn_to_body.Goals as goal

pub declare-requires-clause-tied : goal.declare-requires-clause-tied
declare-requires-clause-tied c = sym (ap (λ (s : State). scope_counts s.calls) (c.turn.ensures.taken c.if-turn.true [])) ∙ c.requires.tied

pub returns-then-turn-clause-left : goal.returns-then-turn-clause-left
returns-then-turn-clause-left c = λ h.
    let p = c.args.plan.now.program.now in
    let t = tables_shape p.tables in
    let k = knot_of p in
    let r = c.args.called.now in
    let n = r.before + signature_variables (decl_form_shape r.params.now) in
    c.in_ok-step.ensures.left h
    ∙ ap (λ r. then_do r (behind t k c.args.self.now)) (block_is t k c.body.result (compound_shape r.body.now) n (state_of c.turn.new.self h) c.body.ensures
    ∙ sym (ap (λ s. turn s (compound_flow t k (compound_shape r.body.now) (quiet n))) (c.turn.ensures.taken c.if-turn.true h)))

pub returns-then-turn-clause-falls : goal.returns-then-turn-clause-falls
returns-then-turn-clause-falls c = more_if c.in_ok-step.step _ _ c.in_ok-step.ensures.size (λ h. omega (arith, h, ap (λ (s : State). s.turns) (c.turn.ensures.taken c.if-turn.true [])))
