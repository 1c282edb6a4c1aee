use Rattle.c_placing.proofs.PlacedShaped.{placed_is_shaped}
use Rattle.c_placing.proofs.PlacedEqual.{placed_is_equal}
use Rattle.c_placing.proofs.laws.units_are_placed.Goals as goal

pub returns-clause-shaped : goal.returns-clause-shaped
returns-clause-shaped c = placed_is_shaped

pub returns-clause-equal : goal.returns-clause-equal
returns-clause-equal c = placed_is_equal
