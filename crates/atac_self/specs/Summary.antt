-- What is said of a program that was drawn, and of its runs.
use Rattle.std.specs.Prelude.{ℕ, List, [], ◌∷◌, ◌++◌, codes}
use Rattle.std.specs.Fmt.{decimal}
use Rattle.hex.specs.Hex.{encode_lower}
use Rattle.sha2.specs.Sha256.{sha256}

abbrev pub first_line : ℕ → List ℕ
first_line bytes = codes "program " ++ (decimal bytes ++ codes " bytes\n")

-- the digest of the text of what was counted
abbrev pub last_line : List ℕ → List ℕ
last_line counted = codes "counter " ++ (encode_lower (sha256 counted) ++ 10 ∷ [])

-- between them the lines of the ends, and those of the totals
abbrev pub summary_text : ℕ → List ℕ → List ℕ → List ℕ → List ℕ
summary_text bytes ends totals counted = first_line bytes ++ (ends ++ (totals ++ last_line counted))
