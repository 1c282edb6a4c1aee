use Rattle.std.proofs.Common.{ap, ◌∙◌}
use Rattle.c_syntax.specs.View.{unit_shape}
use Rattle.c_tree.specs.Units.{TypedUnit}
use Rattle.c_types.proofs.Twice.{known_again}
use Rattle.c_types.proofs.checking.type_twice.Goals as goal

pub returns-clause-tree : goal.returns-clause-tree
returns-clause-tree c = c.in_ok-checker.ensures.tree ∙ ap (λ (t : TypedUnit). t.unit) (known_again (unit_shape c.args.unit.now) _ _ c.in_ok-known.ensures.tree c.in_ok-known.ensures.bodies)

pub returns-clause-state : goal.returns-clause-state
returns-clause-state c = c.in_ok-checker.ensures.state ∙ ap (λ (t : TypedUnit). t.state) (known_again (unit_shape c.args.unit.now) _ _ c.in_ok-known.ensures.tree c.in_ok-known.ensures.bodies)
