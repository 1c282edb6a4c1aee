-- Bytes by what they are for, and the runs of such bytes in front of a text (C89, 2.2.1 and 3.1).
use Rattle.std.specs.Prelude.{◌≡◌, ℕ, suc, ◌-◌, ◌&&◌, ◌||◌, List, [], ◌∷◌, Bool, true, nat_eq, nat_le, nat_lt, cond, Option, Some, None}
use Rattle.c_lex_pieces.specs.declared.bytes.ByteSet.{ByteSet}
use Rattle.c_lex_pieces.specs.declared.bytes.ByteSet.TheVariants.{Blank, InWord, InNumber, Digit}

abbrev pub between : ℕ → ℕ → ℕ → Bool
between a b x = nat_le a x && nat_le x b

-- a blank that ends no line
abbrev pub is_blank : ℕ → Bool
is_blank b = nat_eq b 9 || (between 11 13 b || nat_eq b 32)

abbrev pub is_digit : ℕ → Bool
is_digit b = between 48 57 b

abbrev pub is_letter : ℕ → Bool
is_letter b = between 97 122 b || (between 65 90 b || nat_eq b 95)

abbrev pub is_in_word : ℕ → Bool
is_in_word b = is_letter b || is_digit b

-- what a byte is worth as a digit; 16 for a byte that is none
abbrev pub digit_of : ℕ → ℕ
digit_of b = cond (is_digit b) (b - 48) (cond (between 97 102 b) (b - 87) (cond (between 65 70 b) (b - 55) 16))

abbrev pub is_in : ByteSet → ℕ → Bool
is_in Blank b = is_blank b
is_in InWord b = is_in_word b
is_in InNumber b = is_in_word b || nat_eq b 46
is_in (Digit base) b = nat_lt (digit_of b) base

-- how many bytes of the set stand in front
abbrev pub run : ByteSet → List ℕ → ℕ
run set [] = 0
run set (b ∷ bs) = cond (is_in set b) (suc (run set bs)) 0

-- one more byte
abbrev pub more : Option ℕ → Option ℕ
more None = None
more (Some n) = Some (suc n)

-- each byte is of the set
abbrev pub AllIn : ByteSet → List ℕ → Type 0
AllIn set [] = Unit {0}
AllIn set (b ∷ bs) = (is_in set b ≡ true) × AllIn set bs
