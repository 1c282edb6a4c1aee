use Rattle.std.proofs.Common.{[], sym, ap, ◌∙◌, arith}
use Rattle.c_meaning.specs.State.{State}
use Rattle.c_world.specs.Names.{scope_counts}
use Rattle.c_machine.proofs.Moves.{more_if}
use Rattle.c_machine.proofs.machine.Machine.take_turn.Goals as goal

pub begin-requires-clause-tied : goal.begin-requires-clause-tied
begin-requires-clause-tied c = sym (ap (λ (s : State). scope_counts s.calls) (c.turn.ensures.taken c.if-turn.true [])) ∙ c.requires.tied

pub returns-then-turn-clause-falls : goal.returns-then-turn-clause-falls
returns-then-turn-clause-falls c = more_if c.in_ok-step.step _ _ c.in_ok-step.ensures.size (λ h. omega (arith, h, ap (λ (s : State). s.turns) (c.turn.ensures.taken c.if-turn.true [])))
