-- A unit that was typed twice.
use Rattle.std.proofs.Common.{◌≡◌, List, [], Bool, Some, None, sym, ap, ◌∙◌}
use Rattle.std.proofs.lemmas.Grind.{merely}
use Rattle.c_syntax.specs.Shape.{UnitShape}
use Rattle.c_tree.specs.State.{State}
use Rattle.c_tree.specs.Units.{type_unit, bodies, typed_unit}
use Rattle.c_tree.specs.Programs.{IsSound, HasFewTokens, HoldsProgram}
use Rattle.c_tree.proofs.AgainUnits.{unit_again}
use Rattle.c_tree.proofs.Programs.{program_held}

-- the second time goes through the tree that the first one left
pub known_again : (u v : UnitShape) (k : List Bool) → v ≡ (type_unit None u).unit → k ≡ bodies u → type_unit (Some k) v ≡ typed_unit u
known_again u v k e h = rw (e, h) (unit_again None (Some (bodies u)) u)

-- what it comes to, where there is no complaint
pub program_of : (u v : UnitShape) (s : State) → IsSound u → HasFewTokens u → v ≡ (typed_unit u).unit → s ≡ (typed_unit u).state → s.complaints ≡ [] → ∥ HoldsProgram v s.tables ∥₁
program_of u v s sound few e h c = rw (e, h) (merely (program_held u sound few (ap (λ (t : State). t.complaints) (sym h) ∙ c)))
