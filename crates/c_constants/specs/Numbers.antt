-- The value and the type of an integer constant, by its spelling.
use Rattle.std.specs.Prelude.{ℕ, ◌||◌, List, [], ◌∷◌, Bool, false, drop, nat_eq, Option, Some, None, cond, if◌then◌else◌}
use Rattle.c_lex_pieces.specs.declared.bytes.ByteSet.TheVariants.{Digit}
use Rattle.c_lex_pieces.specs.Bytes.{run}
use Rattle.c_lex_pieces.specs.Numbers.{value, digits, is_u, is_l, is_suffix, is_right_in, begins_with_x}
use Rattle.c_type_rules.specs.declared.kinds.Radix.{Radix}
use Rattle.c_type_rules.specs.declared.kinds.Radix.TheVariants.{Octal, Decimal, Hexadecimal}
use Rattle.c_type_rules.specs.declared.kinds.Suffix.{Suffix}
use Rattle.c_type_rules.specs.Kinds.{constant_type}
use Rattle.c_constants.specs.declared.numbers.Number.{Number}

abbrev pub base : Radix → ℕ
base Octal = 8
base Decimal = 10
base Hexadecimal = 16

-- whether a u, and whether an l, is among the letters
abbrev pub has_u : List ℕ → Bool
has_u [] = false
has_u (b ∷ bs) = is_u b || has_u bs

abbrev pub has_l : List ℕ → Bool
has_l [] = false
has_l (b ∷ bs) = is_l b || has_l bs

abbrev pub suffix : List ℕ → Suffix
suffix letters = record { unsigned = has_u letters; long = has_l letters }

-- the suffix that the letters are, if they are one
abbrev pub suffix_of : List ℕ → Option Suffix
suffix_of letters = if is_suffix letters then Some (suffix letters) else None

-- the letters behind the digits of the base
abbrev pub letters : ℕ → List ℕ → List ℕ
letters b text = drop (run (Digit b) text) text

-- a number of that value, radix and suffix
abbrev pub typed : ℕ → Radix → Suffix → Number
typed v r s = record { value = v; kind = constant_type v r s }

-- the number that the digits and the suffix make, if they are right
abbrev pub number_in : Radix → List ℕ → Option Number
number_in r text =
    if is_right_in (base r) text then Some (typed (value (base r) (digits (base r) text)) r (suffix (letters (base r) text))) else None

-- hexadecimal behind 0x, octal from a leading zero on, else decimal
abbrev pub number_of : List ℕ → Option Number
number_of [] = None
number_of (b ∷ bs) = cond (nat_eq b 48) (cond (begins_with_x bs) (number_in Hexadecimal (drop 1 bs)) (number_in Octal (b ∷ bs))) (number_in Decimal (b ∷ bs))
