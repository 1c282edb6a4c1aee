-- The names of refusals.
use Rattle.std.specs.Prelude.{ℕ, nat_eq, if◌then◌else◌, List, [], ◌∷◌, codes}

pub record Row : Type 0 where
  pub number : ℕ
  pub name : List ℕ

abbrev pub row : ℕ → List ℕ → Row
row n name = record { number = n; name = name }

-- the lexer's, the parser's, the checker's, and what comes behind these
abbrev pub rows : List Row
rows =
    row 1 (codes "BadByte") ∷ row 2 (codes "OpenComment") ∷ row 3 (codes "OpenQuote") ∷ row 4 (codes "BadEscape")
    ∷ row 5 (codes "BadNumber") ∷ row 6 (codes "BadDirective") ∷ row 7 (codes "MacroTwice")
    ∷ row 8 (codes "TooManyTokens") ∷ row 9 (codes "LeftOutWord")
    ∷ row 20 (codes "Syntax")
    ∷ row 30 (codes "UnknownName") ∷ row 31 (codes "DeclaredTwice") ∷ row 32 (codes "NotALeftSide")
    ∷ row 33 (codes "WrongType") ∷ row 34 (codes "WrongArgCount") ∷ row 35 (codes "NotConstant")
    ∷ row 36 (codes "CaseTwice") ∷ row 37 (codes "Stray") ∷ row 38 (codes "NoMain")
    ∷ row 39 (codes "IncompleteType") ∷ row 40 (codes "Undefined") ∷ row 41 (codes "UnknownField")
    ∷ row 42 (codes "TooLarge")
    ∷ row 50 (codes "TooManySites") ∷ row 51 (codes "TooManyPairs") ∷ row 52 (codes "ProbeInSource")
    ∷ row 53 (codes "NotProbed") ∷ row 54 (codes "ProbedTooLarge") ∷ row 55 (codes "TooManyPointerPairs")
    ∷ row 56 (codes "TooManyGlobalPairs") ∷ []

-- the name in the row of that number; empty where there is none
abbrev pub name_in : List Row → ℕ → List ℕ
name_in [] n = []
name_in (r ∷ rest) n = if nat_eq n r.number then r.name else name_in rest n

abbrev pub name : ℕ → List ℕ
name n = name_in rows n
