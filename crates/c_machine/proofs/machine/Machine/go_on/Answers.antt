use Rattle.std.proofs.Common.{◌≡◌, [], ap, subst, refl, arith}
use Rattle.c_meaning.specs.State.{State}
use Rattle.c_world.specs.Names.{scope_counts}
use Rattle.c_machine.specs.Todo.{scopes_with, open_scopes}
use Rattle.c_machine.proofs.Moves.{is_inner}
use Rattle.c_machine.proofs.machine.Machine.go_on.Goals as goal

pub end_scope-requires : goal.end_scope-requires
end_scope-requires c =
    let ws = c.args.self.now.waiting.items in
    is_inner c.args.world.now.names.calls ws (subst (λ w. scope_counts c.args.world.now.names.calls ≡ scopes_with w (open_scopes ws)) c.in-Scope.is c.requires.tied)

pub returns-in-Scope-clause-passed : goal.returns-in-Scope-clause-passed
returns-in-Scope-clause-passed c = (refl, omega (arith, ap (λ (s : State). s.turns) (c.end_scope.ensures.ended [])))
