-- The numbers that are right: digits of a base, worth less than 2^64, and a suffix (C89, 3.1.3.2).
use Rattle.std.specs.Prelude.{ℕ, ◌+◌, ◌*◌, ◌^◌, ◌&&◌, ◌||◌, List, [], ◌∷◌, Bool, true, false, take, drop, nat_eq, nat_lt, cond}
use Rattle.c_lex_pieces.specs.declared.bytes.ByteSet.TheVariants.{Digit}
use Rattle.c_lex_pieces.specs.Bytes.{digit_of, run}

-- what digits of a base are worth behind digits that are worth so much
abbrev pub value_from : ℕ → ℕ → List ℕ → ℕ
value_from base before [] = before
value_from base before (d ∷ ds) = value_from base (before * base + digit_of d) ds

abbrev pub value : ℕ → List ℕ → ℕ
value base digits = value_from base 0 digits

-- the digits of a base in front
abbrev pub digits : ℕ → List ℕ → List ℕ
digits base text = take (run (Digit base) text) text

abbrev pub is_u : ℕ → Bool
is_u b = nat_eq b 117 || nat_eq b 85

abbrev pub is_l : ℕ → Bool
is_l b = nat_eq b 108 || nat_eq b 76

-- at most one u and at most one l, in either order
abbrev pub is_suffix : List ℕ → Bool
is_suffix [] = true
is_suffix (a ∷ []) = is_u a || is_l a
is_suffix (a ∷ b ∷ []) = (is_u a && is_l b) || (is_l a && is_u b)
is_suffix (a ∷ b ∷ c ∷ cs) = false

-- a digit or more of the base, worth less than 2^64, and a suffix
abbrev pub is_right_in : ℕ → List ℕ → Bool
is_right_in base text =
    nat_lt 0 (run (Digit base) text) && (nat_lt (value base (digits base text)) (2 ^ 64) && is_suffix (drop (run (Digit base) text) text))

abbrev pub begins_with_x : List ℕ → Bool
begins_with_x [] = false
begins_with_x (b ∷ bs) = nat_eq b 120 || nat_eq b 88

-- hexadecimal behind 0x, octal from a leading zero on, else decimal
abbrev pub is_right : List ℕ → Bool
is_right [] = false
is_right (b ∷ bs) = cond (nat_eq b 48) (cond (begins_with_x bs) (is_right_in 16 (drop 1 bs)) (is_right_in 8 (b ∷ bs))) (is_right_in 10 (b ∷ bs))
