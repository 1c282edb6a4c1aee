-- How a token is written: as it is spelled, with the bytes of characters and strings as themselves or as octal escapes.
use Rattle.std.specs.Prelude.{◌≡◌, ◌<◌, ℕ, ◌+◌, ◌/◌, ◌%◌, ◌&&◌, ◌||◌, List, [], ◌∷◌, ◌++◌, None, Bool, true, not, nat_eq, cond}
use Rattle.c_syntax.specs.declared.token.TokenKind.{TokenKind}
use Rattle.c_syntax.specs.declared.token.TokenKind.TheVariants as token
use Rattle.c_lex_pieces.specs.declared.bytes.ByteSet.TheVariants.{InWord, InNumber}
use Rattle.c_lex_pieces.specs.declared.front.Class.{Class}
use Rattle.c_lex_pieces.specs.declared.front.Class.TheVariants as class
use Rattle.c_lex_pieces.specs.Bytes.{between, is_letter, is_digit, AllIn}
use Rattle.c_lex_pieces.specs.Numbers.{is_right}
use Rattle.c_lex_pieces.specs.Marks.{mark_bytes}
use Rattle.c_lex_pieces.specs.Kinds.{key_bytes, probe_bytes, key_of, probe_of}

-- a byte that stands for itself: from 32 to 126, but `\`, `'` and `"`
abbrev pub is_plain : ℕ → Bool
is_plain v = between 32 126 v && not (nat_eq v 92 || (nat_eq v 39 || nat_eq v 34))

abbrev pub octal_digits : ℕ → List ℕ
octal_digits v = (48 + v / 64) ∷ (48 + v / 8 % 8) ∷ (48 + v % 8) ∷ []

abbrev pub value_bytes : ℕ → List ℕ
value_bytes v = cond (is_plain v) (v ∷ []) (92 ∷ octal_digits v)

abbrev pub values_bytes : List ℕ → List ℕ
values_bytes [] = []
values_bytes (v ∷ vs) = value_bytes v ++ values_bytes vs

abbrev pub char_bytes : ℕ → List ℕ
char_bytes v = 39 ∷ value_bytes v ++ 39 ∷ []

abbrev pub str_bytes : List ℕ → List ℕ
str_bytes vs = 34 ∷ values_bytes vs ++ 34 ∷ []

abbrev pub token_bytes : TokenKind → List ℕ
token_bytes (token.Word w) = w
token_bytes (token.Number w) = w
token_bytes (token.Char v) = char_bytes v
token_bytes (token.Str vs) = str_bytes vs
token_bytes (token.Mark m) = mark_bytes m
token_bytes (token.Key k) = key_bytes k
token_bytes (token.Probe p) = probe_bytes p

-- the class of the piece that spells a token
abbrev pub class_of : TokenKind → Class
class_of (token.Word w) = class.Word
class_of (token.Number w) = class.Number
class_of (token.Char v) = class.Char
class_of (token.Str vs) = class.Str
class_of (token.Mark m) = class.Mark m
class_of (token.Key k) = class.Word
class_of (token.Probe p) = class.Word

-- a letter, and then bytes of words
abbrev pub IsWord : List ℕ → Type 0
IsWord [] = ⊥
IsWord (b ∷ bs) = (is_letter b ≡ true) × AllIn InWord bs

-- a digit, and then bytes of numbers, that are right together
abbrev pub IsNumber : List ℕ → Type 0
IsNumber [] = ⊥
IsNumber (b ∷ bs) = (is_digit b ≡ true) × AllIn InNumber bs × (is_right (b ∷ bs) ≡ true)

abbrev pub AreBytes : List ℕ → Type 0
AreBytes [] = Unit {0}
AreBytes (v ∷ vs) = (v < 256) × AreBytes vs

-- a token that a piece can spell
abbrev pub IsToken : TokenKind → Type 0
IsToken (token.Word w) = IsWord w × (key_of w ≡ None) × (probe_of w ≡ None)
IsToken (token.Number w) = IsNumber w
IsToken (token.Char v) = v < 256
IsToken (token.Str vs) = AreBytes vs
IsToken (token.Mark m) = Unit {0}
IsToken (token.Key k) = Unit {0}
IsToken (token.Probe p) = Unit {0}
