use Rattle.std.proofs.Common.{[], ap, arith}
use Rattle.c_meaning.specs.State.{State}
use Rattle.c_machine.proofs.Moves.{more_if, is_active}
use Rattle.c_machine.proofs.machine.Machine.compound.Goals as goal

pub begin_scope-requires : goal.begin_scope-requires
begin_scope-requires c = is_active c.args.world.now.names.calls c.args.self.now.waiting.items c.requires.tied

pub returns-clause-size : goal.returns-clause-size
returns-clause-size c = more_if c.in_ok-step.step _ _ c.in_ok-step.ensures.size (λ h. omega (arith, h, c.in_ok-wait.ensures.weights, ap (λ (s : State). s.turns) (c.in_ok-begin_scope.ensures.begun [])))
