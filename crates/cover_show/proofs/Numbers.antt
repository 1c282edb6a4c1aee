-- How the number of a line is written.
use Rattle.std.proofs.Common.{◌≡◌, ℕ, zero, suc, ◌-◌, false, List, [], ◌∷◌, ◌++◌, length, replicate, refl, ap, arith, append-nil}
use lib.Utf8.{encode}
use Rattle.std.specs.List.{repeat}
use Rattle.std.specs.Fmt.{format_spec, styled_decimal, padded_integral, char_count, decimal}
use Rattle.cover_show.specs.Shown.{number_text}

repeat_one : (n x : ℕ) → repeat n (x ∷ []) ≡ replicate n x
repeat_one zero x = refl
repeat_one (suc n) x = ap (λ xs. x ∷ xs) (repeat_one n x)

aligned : (digits : List ℕ) → padded_integral (format_spec 32 3 0 6 18446744073709551615) false [] digits ≡ replicate (6 - length digits) 32 ++ digits
unfolding padded_integral char_count encode
aligned digits =
    let room : 6 - length digits - 0 - 0 ≡ 6 - length digits = omega arith in
    let none : (n : ℕ) → n - n ≡ 0 = λ n. omega arith in
    simp (repeat_one, room, none, append-nil)

pub number_is : (n : ℕ) → styled_decimal (format_spec 32 3 0 6 18446744073709551615) n ≡ number_text n
number_is n = aligned (decimal n)
