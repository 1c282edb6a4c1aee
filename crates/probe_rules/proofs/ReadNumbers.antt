-- Numbers that are written in decimal are read back: those of probes, and the constants of a select.
use Rattle.std.proofs.Common.{◌≡◌, ℕ, ◌+◌, ◌*◌, ◌-◌, ◌≤◌, ◌<◌, ◌^◌, List, [], ◌∷◌, length, take, drop, get_or, true, false, Option, Some, None, refl, ap, ap₂, ◌∙◌, arith}
use Rattle.std.specs.Prelude.{nat_lt, nat_eq, ◌&&◌, cond, if◌then◌else◌}
use Rattle.std.specs.Fmt.{decimal}
use Rattle.std.specs.Str.Parse.{AllDigits, digits_value_after}
use Rattle.std.specs.Char.{digit_value}
use Rattle.std.specs.Int.{IsInRange}
use Rattle.std.proofs.lemmas.Fmt.{decimal_is_IsNumeral, decimal_digit, first_decimal}
use Rattle.c_lex_pieces.specs.declared.bytes.ByteSet.TheVariants.{Digit}
use Rattle.c_lex_pieces.specs.Bytes.{digit_of, run}
use Rattle.c_lex_pieces.specs.Numbers.{value, value_from, is_suffix, begins_with_x}
use Rattle.c_type_rules.specs.declared.kinds.Radix.TheVariants.{Octal, Decimal, Hexadecimal}
use Rattle.c_constants.specs.declared.numbers.Number.{Number}
use Rattle.c_constants.specs.Numbers.{typed, suffix, number_in, number_of}
use Rattle.c_constants.specs.Probes.{is_plain, probe_number_of}

-- ---- digits

digit_worth : (b : ℕ) → IsInRange 48 57 b → digit_of b ≡ b - 48
digit_worth b r = grind arith

pub digit_same : (b : ℕ) → digit_value b < 10 → digit_of b ≡ digit_value b
digit_same b lt = grind arith

pub value_same : (n : ℕ) (ds : List ℕ) → AllDigits 10 ds → value_from 10 n ds ≡ digits_value_after 10 n ds
value_same n [] d = refl
value_same n (c ∷ cs) d = ap (λ m. value_from 10 (n * 10 + m) cs) (digit_same c d.0) ∙ value_same (n * 10 + digit_value c) cs d.1

pub run_all : (ds : List ℕ) → AllDigits 10 ds → run (Digit 10) ds ≡ length ds
run_all [] d = refl
run_all (c ∷ cs) d = grind (arith, digit_same c d.0, run_all cs d.1)

-- ---- the numbers of probes

plain_digits : (ds : List ℕ) → AllDigits 10 ds → 0 < length ds → 48 < get_or ds 0 0 → is_plain ds ≡ true
plain_digits [] d some lead = absurd (omega arith)
plain_digits (c ∷ cs) d some lead = grind (arith, run_all (c ∷ cs) d)

probe_read : (k : ℕ) (ds : List ℕ) → 1 ≤ k → k ≤ 16383 → is_plain ds ≡ true → value 10 ds ≡ k → probe_number_of ds ≡ Some k
probe_read k ds one few plain is = grind arith

pub number_read : (k : ℕ) → 1 ≤ k → k ≤ 16383 → probe_number_of (decimal k) ≡ Some k
number_read k one few =
    let n = decimal_is_IsNumeral k (omega arith) in
    probe_read k (decimal k) one few (plain_digits (decimal k) n.0.1 n.0.0 (first_decimal k (omega arith) (omega arith))) (value_same 0 (decimal k) n.0.1 ∙ n.1)

-- ---- numbers without a suffix

-- what is read of a text, by how many digits it begins with, those digits, and what is behind them
abbrev read_as : ℕ → List ℕ → List ℕ → Option Number
read_as r ds ls = if nat_lt 0 r && (nat_lt (value 10 ds) (2 ^ 64) && is_suffix ls) then Some (typed (value 10 ds) Decimal (suffix ls)) else None

read_whole : (ds : List ℕ) → 0 < length ds → value 10 ds < 2 ^ 64 → read_as (length ds) ds [] ≡ Some (typed (value 10 ds) Decimal (suffix []))
read_whole ds some small = grind arith

number_of_digits : (ds : List ℕ) → AllDigits 10 ds → 0 < length ds → value 10 ds < 2 ^ 64 → number_in Decimal ds ≡ Some (typed (value 10 ds) Decimal (suffix []))
number_of_digits ds d some small =
    ap (λ r. read_as r (take r ds) (drop r ds)) (run_all ds d) ∙ (ap₂ (read_as (length ds)) (take_whole ds) (drop_all ds) ∙ read_whole ds some small)
  where
    take_whole : (xs : List ℕ) → take (length xs) xs ≡ xs
    take_whole [] = refl
    take_whole (x ∷ xs) = ap (λ z. x ∷ z) (take_whole xs)

    drop_all : (xs : List ℕ) → drop (length xs) xs ≡ []
    drop_all [] = refl
    drop_all (x ∷ xs) = drop_all xs

number_spelled : (n : ℕ) (ds : List ℕ) → AllDigits 10 ds → 0 < length ds → 48 < get_or ds 0 0 → value 10 ds ≡ n → n < 2 ^ 64 → number_of ds ≡ Some (typed n Decimal (suffix []))
number_spelled n [] d some lead is small = absurd (omega arith)
number_spelled n (c ∷ cs) d some lead is small =
    let other : nat_eq c 48 ≡ false = grind arith in
    ap (λ b. cond b (cond (begins_with_x cs) (number_in Hexadecimal (drop 1 cs)) (number_in Octal (c ∷ cs))) (number_in Decimal (c ∷ cs))) other
    ∙ (number_of_digits (c ∷ cs) d some (omega (arith, is)) ∙ ap (λ v. Some (typed v Decimal (suffix []))) is)

pub number_again : (n : ℕ) → 0 < n → n < 2 ^ 64 → number_of (decimal n) ≡ Some (typed n Decimal (suffix []))
number_again n some small =
    let d = decimal_is_IsNumeral n (omega arith) in
    number_spelled n (decimal n) d.0.1 d.0.0 (first_decimal n some small) (value_same 0 (decimal n) d.0.1 ∙ d.1) small

pub zero_again : number_of (decimal 0) ≡ Some (typed 0 Octal (suffix []))
zero_again = ap number_of (decimal_digit 0 (omega arith))
