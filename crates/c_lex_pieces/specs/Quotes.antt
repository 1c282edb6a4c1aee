-- What stands between quotes: characters and escapes, each with its value (C89, 3.1.3.4 and 3.1.4).
use Rattle.std.specs.Prelude.{ℕ, zero, suc, ◌+◌, ◌-◌, ◌&&◌, ◌||◌, List, [], ◌∷◌, Option, Some, None, Bool, not, length, take, drop, nat_eq, nat_le, cond, option_map}
use Rattle.c_lex_pieces.specs.declared.bytes.ByteSet.TheVariants.{Digit}
use Rattle.c_lex_pieces.specs.declared.quotes.Character.{Character}
use Rattle.c_lex_pieces.specs.declared.quotes.Constant.{Constant}
use Rattle.c_lex_pieces.specs.declared.quotes.Constant.TheVariants.{Value, BadEscape, NotOne}
use Rattle.c_lex_pieces.specs.Bytes.{more, run}
use Rattle.c_lex_pieces.specs.Numbers.{value, digits}

-- byte 10 ends the line, 92 is `\`: how many bytes of the line stand before the closing quote, where a `\` that takes the next byte stood before or not
abbrev pub before_quote : ℕ → Bool → List ℕ → Option ℕ
before_quote quote escaped [] = None
before_quote quote escaped (b ∷ bs) =
    cond (nat_eq b 10) None
    (cond (not escaped && nat_eq b quote) (Some 0)
    (more (before_quote quote (not escaped && nat_eq b 92) bs)))

-- a value that a byte has
abbrev pub byte_of : ℕ → Option ℕ
byte_of v = cond (nat_le v 255) (Some v) None

-- the escapes that are one letter or sign behind the `\`
abbrev pub simple_escape : ℕ → Option ℕ
simple_escape b =
    cond (nat_eq b 39 || (nat_eq b 34 || (nat_eq b 63 || nat_eq b 92))) (Some b)
    (cond (nat_eq b 97) (Some 7)
    (cond (nat_eq b 98) (Some 8)
    (cond (nat_eq b 102) (Some 12)
    (cond (nat_eq b 110) (Some 10)
    (cond (nat_eq b 114) (Some 13)
    (cond (nat_eq b 116) (Some 9)
    (cond (nat_eq b 118) (Some 11) None)))))))

abbrev pub character_of : ℕ → Option ℕ → Character
character_of size v = record { size = size; value = v }

-- one to three octal digits behind a `\`
abbrev pub octal_escape : List ℕ → Character
octal_escape three = character_of (1 + run (Digit 8) three) (byte_of (value 8 (digits 8 three)))

-- hexadecimal digits behind `\x`
abbrev pub hexadecimal_escape : List ℕ → Character
hexadecimal_escape bs = character_of (2 + run (Digit 16) bs) (cond (nat_eq (run (Digit 16) bs) 0) None (byte_of (value 16 (digits 16 bs))))

-- the escape whose `\` stands before these bytes
abbrev pub escape : List ℕ → Character
escape [] = character_of 1 None
escape (b ∷ bs) =
    cond (nat_eq b 120) (hexadecimal_escape bs)
    (cond (nat_eq (run (Digit 8) (b ∷ [])) 1) (octal_escape (take 3 (b ∷ bs)))
    (character_of 2 (simple_escape b)))

-- the character or escape in front: how many bytes it has, and its value; None for a bad escape
abbrev pub character : List ℕ → Character
character [] = character_of 0 None
character (b ∷ bs) = cond (nat_eq b 92) (escape bs) (character_of 1 (Some b))

-- the values of the characters, where so many bytes of an earlier one stand in front
abbrev pub characters_from : ℕ → List ℕ → List (Option ℕ)
characters_from k [] = []
characters_from zero (b ∷ bs) = (character (b ∷ bs)).value ∷ characters_from ((character (b ∷ bs)).size - 1) bs
characters_from (suc k) (b ∷ bs) = characters_from k bs

-- the values of the characters between the quotes, one behind the other
abbrev pub characters : List ℕ → List (Option ℕ)
characters inside = characters_from 0 inside

abbrev pub only : Option ℕ → Constant
only None = BadEscape
only (Some v) = Value v

-- what a character constant with these characters is
abbrev pub constant : List (Option ℕ) → Constant
constant [] = NotOne
constant (v ∷ []) = only v
constant (v ∷ w ∷ vs) = NotOne

abbrev pub with_first : Option ℕ → Option (List ℕ) → Option (List ℕ)
with_first None rest = None
with_first (Some v) rest = option_map (λ vs. v ∷ vs) rest

-- all the values; None where one is missing
abbrev pub all_values : List (Option ℕ) → Option (List ℕ)
all_values [] = Some []
all_values (v ∷ vs) = with_first v (all_values vs)

-- what a spelled character or string has between its quotes
abbrev pub inside : List ℕ → List ℕ
inside spelled = take (length spelled - 2) (drop 1 spelled)
