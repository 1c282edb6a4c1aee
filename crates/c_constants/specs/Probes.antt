-- The numbers of probes, and the digest of a program line.
use Rattle.std.specs.Prelude.{ℕ, ◌+◌, ◌*◌, ◌&&◌, ◌||◌, List, [], ◌∷◌, length, Bool, false, not, nat_eq, Option, Some, None, if◌then◌else◌}
use Rattle.std.specs.List.{list_all}
use Rattle.c_lex_pieces.specs.declared.bytes.ByteSet.TheVariants.{Digit}
use Rattle.c_lex_pieces.specs.Bytes.{between, digit_of, run}
use Rattle.c_lex_pieces.specs.Numbers.{value}

-- decimal digits and nothing else, with no zero in front
abbrev pub is_plain : List ℕ → Bool
is_plain [] = false
is_plain (b ∷ bs) = not (nat_eq b 48) && nat_eq (run (Digit 10) (b ∷ bs)) (length (b ∷ bs))

abbrev pub probe_number_of : List ℕ → Option ℕ
probe_number_of text = if is_plain text && between 1 16383 (value 10 text) then Some (value 10 text) else None

abbrev pub is_lower_digit : ℕ → Bool
is_lower_digit b = between 48 57 b || between 97 102 b

-- 64 lower-case hexadecimal digits
abbrev pub is_digest : List ℕ → Bool
is_digest text = nat_eq (length text) 64 && list_all is_lower_digit text

-- the bytes that pairs of digits stand for
abbrev pub pairs : List ℕ → List ℕ
pairs [] = []
pairs (a ∷ []) = []
pairs (a ∷ b ∷ rest) = (digit_of a * 16 + digit_of b) ∷ pairs rest

abbrev pub digest_of : List ℕ → Option (List ℕ)
digest_of text = if is_digest text then Some (pairs text) else None
