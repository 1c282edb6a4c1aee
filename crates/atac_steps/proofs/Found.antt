-- A find that isn't against what a shelf says.
use Rattle.std.proofs.Common.{refl, List, ℕ, Option, None, Some}
use Rattle.atac_base.specs.Outside.{Said, Agrees}

-- what the shelf says, or else that nothing is there
abbrev pub guess : Said → Option (List ℕ)
guess None = None
guess (Some held) = held

pub guess_agrees : (said : Said) → Agrees said (guess said)
guess_agrees None = tt
guess_agrees (Some held) = refl
