-- The marks (C89, 3.1.5 and 3.1.6), and the longest one in front of a text.
use Rattle.std.specs.Prelude.{ℕ, ◌&&◌, List, [], ◌∷◌, Option, Some, None, Bool, true, false, nat_eq, cond, codes}
use Rattle.c_syntax.specs.declared.token.Mark.{Mark}
use Rattle.c_syntax.specs.declared.token.Mark.TheVariants.{LeftBracket, RightBracket, LeftParen, RightParen, LeftBrace, RightBrace, Dot, Arrow, PlusPlus, MinusMinus, Ampersand, Star, Plus, Minus, Tilde, Bang, Slash, Percent, ShiftLeft, ShiftRight, Less, Greater, LessEqual, GreaterEqual, EqualEqual, NotEqual, Caret, Bar, AndAnd, OrOr, Question, Colon, Semicolon, Equal, StarEqual, SlashEqual, PercentEqual, PlusEqual, MinusEqual, LeftEqual, RightEqual, AndEqual, CaretEqual, BarEqual, Comma}

-- how a mark is written
abbrev pub mark_bytes : Mark → List ℕ
mark_bytes LeftBracket = codes "["
mark_bytes RightBracket = codes "]"
mark_bytes LeftParen = codes "("
mark_bytes RightParen = codes ")"
mark_bytes LeftBrace = codes "{"
mark_bytes RightBrace = codes "}"
mark_bytes Dot = codes "."
mark_bytes Arrow = codes "->"
mark_bytes PlusPlus = codes "++"
mark_bytes MinusMinus = codes "--"
mark_bytes Ampersand = codes "&"
mark_bytes Star = codes "*"
mark_bytes Plus = codes "+"
mark_bytes Minus = codes "-"
mark_bytes Tilde = codes "~"
mark_bytes Bang = codes "!"
mark_bytes Slash = codes "/"
mark_bytes Percent = codes "%"
mark_bytes ShiftLeft = codes "<<"
mark_bytes ShiftRight = codes ">>"
mark_bytes Less = codes "<"
mark_bytes Greater = codes ">"
mark_bytes LessEqual = codes "<="
mark_bytes GreaterEqual = codes ">="
mark_bytes EqualEqual = codes "=="
mark_bytes NotEqual = codes "!="
mark_bytes Caret = codes "^"
mark_bytes Bar = codes "|"
mark_bytes AndAnd = codes "&&"
mark_bytes OrOr = codes "||"
mark_bytes Question = codes "?"
mark_bytes Colon = codes ":"
mark_bytes Semicolon = codes ";"
mark_bytes Equal = codes "="
mark_bytes StarEqual = codes "*="
mark_bytes SlashEqual = codes "/="
mark_bytes PercentEqual = codes "%="
mark_bytes PlusEqual = codes "+="
mark_bytes MinusEqual = codes "-="
mark_bytes LeftEqual = codes "<<="
mark_bytes RightEqual = codes ">>="
mark_bytes AndEqual = codes "&="
mark_bytes CaretEqual = codes "^="
mark_bytes BarEqual = codes "|="
mark_bytes Comma = codes ","

-- the marks of three bytes, of two, and of one
abbrev pub marks : List Mark
marks =
    LeftEqual ∷ RightEqual
    ∷ Arrow ∷ PlusPlus ∷ MinusMinus ∷ ShiftLeft ∷ ShiftRight ∷ LessEqual ∷ GreaterEqual ∷ EqualEqual ∷ NotEqual ∷ AndAnd ∷ OrOr
    ∷ StarEqual ∷ SlashEqual ∷ PercentEqual ∷ PlusEqual ∷ MinusEqual ∷ AndEqual ∷ CaretEqual ∷ BarEqual
    ∷ LeftBracket ∷ RightBracket ∷ LeftParen ∷ RightParen ∷ LeftBrace ∷ RightBrace ∷ Dot ∷ Ampersand ∷ Star ∷ Plus ∷ Minus ∷ Tilde ∷ Bang
    ∷ Slash ∷ Percent ∷ Less ∷ Greater ∷ Caret ∷ Bar ∷ Question ∷ Colon ∷ Semicolon ∷ Equal ∷ Comma ∷ []

abbrev pub is_front : List ℕ → List ℕ → Bool
is_front [] text = true
is_front (m ∷ ms) [] = false
is_front (m ∷ ms) (b ∷ bs) = nat_eq b m && is_front ms bs

-- the first of the marks that stands in front
abbrev pub first_in_front : List Mark → List ℕ → Option Mark
first_in_front [] text = None
first_in_front (m ∷ ms) text = cond (is_front (mark_bytes m) text) (Some m) (first_in_front ms text)

-- the longest mark in front
abbrev pub mark_front : List ℕ → Option Mark
mark_front text = first_in_front marks text
