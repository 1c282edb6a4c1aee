-- What a fetch gets of what is found under a name.
use Rattle.std.specs.Prelude.{ℕ, cond, leb, List, [], ◌∷◌, length, Option, None, Some}
use Rattle.atac_base.specs.Outside.{Said, Agrees}
use Rattle.atac_steps.specs.Ends.{End, NotHeld, TooLong}

-- Bytes that are found have to be there, and to be few enough.
pub data Got : Type 0 where
  Gets : (bytes : List ℕ) → Got
  Stops : (end : End) → Got

abbrev pub gets : List ℕ → ℕ → Option (List ℕ) → Got
gets file most None = Stops (NotHeld file)
gets file most (Some bytes) = cond (leb (length bytes) most) (Gets bytes) (Stops (TooLong file))

-- Under each name something was found that isn't against what the shelf says of it.
abbrev pub AllAgree : (List ℕ → Said) → List (List ℕ) → List (Option (List ℕ)) → Type 0
AllAgree says [] [] = Unit {0}
AllAgree says (name ∷ names) (found ∷ all) = Agrees (says name) found × AllAgree says names all
AllAgree says names all = ⊥
