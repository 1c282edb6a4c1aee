-- A file that is held is got; and the ends of answers that are sure.
use Rattle.std.proofs.Common.{◌≡◌, ◌⊎◌, subst, List, ℕ, Option, Some, arith}
use Rattle.atac_base.specs.Outside.{Said, Agrees}
use Rattle.atac_steps.specs.Ends.{End, IsDone, BadWords}
use Rattle.atac_steps.specs.Got.{gets, Gets}
use Rattle.atac_commands.specs.Claims.{IsHeld}

-- an answer that is done, or that no call gives
abbrev pub IsSure : End → Type 0
IsSure e = (e ≡ IsDone) ⊎ (e ≡ BadWords)

-- a file that is held is got
pub got : (file : List ℕ) (most : ℕ) (said : Said) (found : Option (List ℕ)) (h : IsHeld said most) → Agrees said found → gets file most found ≡ Gets h.bytes
got file most said found h agrees =
    let is : found ≡ Some h.bytes = subst (λ (s : Said). Agrees s found) h.is agrees in
    rw is (grind (arith, h.short))
