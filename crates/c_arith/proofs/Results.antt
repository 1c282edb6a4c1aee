-- What the operators give, as the code finds it.
use Rattle.std.proofs.Common.{◌≡◌, ℕ, suc, zero, ◌+◌, ◌-◌, ◌*◌, ◌/◌, ◌%◌, ◌^◌, ◌<◌, ◌≤◌, ℤ, pos, negsuc, ◌+ℤ◌, ◌-ℤ◌, ◌*ℤ◌, ◌≤ℤ◌, ◌<ℤ◌, neg_ℤ, Bool, true, false, true≢false, cond, not, inl, inr, ◌⊎◌, int_lt, int_le, eqb, int_eq, int_div, int_rem, unsigned_abs, bit_and, bit_or, bit_xor, to_z, of_z, SFits, Result, Ok, Err, IfOk, refl, sym, ap, subst, ◌∙◌, ⊎_elim, arith, pow_pos, mod-lt, mul_assoc}
use Rattle.std.specs.Int.{int_rem_euclid, int_wrap, w128}
use Rattle.std.proofs.Math.Nat.{div-le_self, mod-le}
use Rattle.std.proofs.lemmas.Bool.{cond-true, cond-false, cases_Bool, and_parts, not-false, lt-ltb, le-ltb}
use Rattle.std.proofs.lemmas.Bool.Decides.{Decides-eqb, Decides-int_eq, Decides-like, same_from_decides}
use Rattle.std.proofs.lemmas.Int.{ints, of_z-to_z, to_z-of_z, int_wrap_fits, SFits-int_wrap, fits_signed_from_abs, fits_signed_mul, quot-rem, rem_below}
use Rattle.std.proofs.lemmas.Nat.{and_le_l, or_lt, xor_lt, div-add-mod', and_mask}
use lib.IntN.{+ℤ_idl}
use lib.Signed.{shr_z, mag_shr}
use Rattle.c_base.specs.declared.place.IntKind.{IntKind}
use Rattle.c_base.specs.declared.place.IntKind.TheVariants.{Char, Short, Int, Long, UChar, UShort, UInt, ULong}
use Rattle.c_arith.specs.declared.ArithUnary.{ArithUnary}
use Rattle.c_arith.specs.declared.ArithUnary.TheVariants.{Plus, Minus, Flip, Not}
use Rattle.c_arith.specs.declared.ArithBinary.{ArithBinary}
use Rattle.c_arith.specs.declared.ArithBinary.TheVariants.{Add, Sub, Mul, Div, Rem, Shl, Shr, And, Or, Xor, Lt, Gt, Le, Ge, Eq, Ne}
use Rattle.c_arith.specs.declared.ArithFault.{ArithFault}
use Rattle.c_arith.specs.declared.ArithFault.TheVariants.{DivideByZero, Overflow, ShiftCount}
use Rattle.c_arith.specs.Arith.{width, least, greatest, InRange, in_range, IsDivision, Divides, overflows, pattern, value_of, wrap, truth, fitted, shift_count, shifted, shifted_up, shifted_down, binary_result, unary_result}
use Rattle.c_arith.proofs.Patterns.{bounds, spare, pattern_below, pattern_is, pattern_from_bits, value_of-in_range, wrap-only}

-- ---- numbers

-- a value of a kind has at most 64 bits
pub in_range-abs : (kind : IntKind) (z : ℤ) → InRange kind z → unsigned_abs z ≤ 2 ^ 64
in_range-abs kind z f =
    let b = bounds kind in
    let low = b.low in
    let high = b.high in
    let span = b.span in
    let small = b.small in
    omega (arith, ints, f.at_least, f.at_most)

pub in_range-fits : (kind : IntKind) (z : ℤ) → InRange kind z → SFits w128 z
in_range-fits kind z f = fits_signed_from_abs w128 z (let h = in_range-abs kind z f in omega arith)

abs-neg : (n : ℕ) → unsigned_abs (neg_ℤ (pos n)) ≡ n
abs-neg zero = refl
abs-neg (suc n) = refl

abs-div : (a b : ℤ) → unsigned_abs (int_div a b) ≤ unsigned_abs a
abs-div (pos a) (pos b) = div-le_self a b
abs-div (pos a) (negsuc b) = omega (arith, abs-neg (a / suc b), div-le_self a (suc b))
abs-div (negsuc a) (pos b) = omega (arith, abs-neg (suc a / b), div-le_self (suc a) b)
abs-div (negsuc a) (negsuc b) = div-le_self (suc a) (suc b)

pub div-fits : (kind : IntKind) (a b : ℤ) → InRange kind a → SFits w128 (int_div a b)
div-fits kind a b f = fits_signed_from_abs w128 (int_div a b) (let h = in_range-abs kind a f in let g = abs-div a b in omega arith)

-- the remainder lies between 0 and the dividend
pub rem-in_range : (kind : IntKind) (a b : ℤ) → InRange kind a → InRange kind (int_rem a b)
rem-in_range kind (pos a) b f =
    let low = (bounds kind).low in
    let h = mod-le a (unsigned_abs b) in
    record { at_least = omega (arith, ints, f.at_least, f.at_most); at_most = omega (arith, ints, f.at_least, f.at_most) }
rem-in_range kind (negsuc a) b f =
    let high = (bounds kind).high in
    let h = mod-le (suc a) (unsigned_abs b) in
    record { at_least = omega (arith, ints, f.at_least, f.at_most); at_most = omega (arith, ints, f.at_least, f.at_most) }

pub down-in_range : (kind : IntKind) (a : ℤ) (n : ℕ) → InRange kind a → InRange kind (shifted_down a n)
down-in_range kind (pos a) n f =
    let low = (bounds kind).low in
    let h = div-le_self a (2 ^ n) in
    record { at_least = omega (arith, ints, f.at_least, f.at_most); at_most = omega (arith, ints, f.at_least, f.at_most) }
down-in_range kind (negsuc a) n f =
    let high = (bounds kind).high in
    let h = div-le_self a (2 ^ n) in
    record { at_least = omega (arith, ints, f.at_least, f.at_most); at_most = omega (arith, ints, f.at_least, f.at_most) }

pub truth-in_range : (kind : IntKind) (t : Bool) → InRange kind (truth t)
truth-in_range kind true = let low = (bounds kind).low in let high = (bounds kind).high in record { at_least = omega (arith, ints); at_most = omega (arith, ints) }
truth-in_range kind false = let low = (bounds kind).low in let high = (bounds kind).high in record { at_least = omega (arith, ints); at_most = omega (arith, ints) }

-- the test of bits is the test of numbers
pub eqb-bits : (a b : ℤ) → SFits w128 a → SFits w128 b → eqb (of_z w128 a) (of_z w128 b) ≡ int_eq a b
eqb-bits a b f g =
    same_from_decides _ _
    (Decides-like _ (λ e. sym (to_z-of_z w128 a f) ∙ ap (to_z w128) e ∙ to_z-of_z w128 b g) (λ e. ap (of_z w128) e) (Decides-eqb (of_z w128 a) (of_z w128 b)))
    (Decides-int_eq a b)

-- ---- what wraps

rest : ℤ → ℕ
rest z = unsigned_abs (int_rem_euclid z (pos (2 ^ 128)))

rest_below : (z : ℤ) → rest z < 2 ^ 128
unfolding rest
rest_below (pos n) = mod-lt n (pow_pos 128)
rest_below (negsuc n) = omega arith

bits_of_wrapped : (z : ℤ) → of_z w128 (int_wrap w128 z) ≡ rest z
unfolding int_wrap rest
bits_of_wrapped z = of_z-to_z w128 _ (rest_below z)

multiple : (kind : IntKind) (q : ℕ) → q * 2 ^ 128 ≡ q * 2 ^ (128 - width kind) * 2 ^ width kind
multiple kind q = ap (λ n. q * n) (spare kind) ∙ sym (mul_assoc q (2 ^ (128 - width kind)) (2 ^ width kind))

rest_bits : (kind : IntKind) (z : ℤ) → rest z % 2 ^ width kind ≡ pattern kind z
unfolding rest
rest_bits kind (pos n) =
    let q = n / 2 ^ 128 in
    let e = multiple kind q in
    sym (pattern_is kind (pos (n % 2 ^ 128)) 0 (n % 2 ^ 128) (omega (arith, ints)))
    ∙ pattern_is kind (pos (n % 2 ^ 128)) (q * 2 ^ (128 - width kind)) n (omega (arith, ints, div-add-mod' n (2 ^ 128)))
    ∙ sym (pattern_is kind (pos n) 0 n (omega (arith, ints)))
rest_bits kind (negsuc n) =
    let q = n / 2 ^ 128 in
    let e = multiple kind (q + 1) in
    let small = mod-lt n (pow_pos 128) in
    sym (pattern_is kind (negsuc n) ((q + 1) * 2 ^ (128 - width kind)) (2 ^ 128 - 1 - n % 2 ^ 128) (omega (arith, ints, div-add-mod' n (2 ^ 128))))

-- the bits of a number that wrapped at 128 bits
pub pattern-int_wrap : (kind : IntKind) (z : ℤ) → pattern kind (int_wrap w128 z) ≡ pattern kind z
pattern-int_wrap kind z =
    sym (pattern_from_bits kind (int_wrap w128 z) (SFits-int_wrap w128 z)) ∙ ap (λ n. n % 2 ^ width kind) (bits_of_wrapped z) ∙ rest_bits kind z

-- ---- what fits

pub fitted-over : (kind : IntKind) (z : ℤ) → overflows kind z ≡ true → fitted kind z ≡ Err Overflow
unfolding fitted
fitted-over kind z e = cond-true (overflows kind z) _ _ e

pub fitted-held : (kind : IntKind) (z : ℤ) → overflows kind z ≡ false → fitted kind z ≡ Ok (wrap kind z)
unfolding fitted
fitted-held kind z e = cond-false (overflows kind z) _ _ e

-- the value, where there is one, is one of the kind
abbrev pub Ranged : IntKind → Result ℤ ArithFault → Type 0
Ranged kind r = IfOk r (InRange kind)

unless : (t : Bool) (kind : IntKind) (fault : ArithFault) (r : Result ℤ ArithFault) → Ranged kind r → Ranged kind (cond t (Err fault) r)
unless true kind fault r h = tt
unless false kind fault r h = h

pub fitted-in_range : (kind : IntKind) (z : ℤ) → Ranged kind (fitted kind z)
unfolding fitted
fitted-in_range kind z = unless (overflows kind z) kind Overflow _ (value_of-in_range kind (pattern kind z) (pattern_below kind z))

-- a product as the code finds it
pub fitted-wrapped : (kind : IntKind) (a b : ℤ) → InRange kind a → InRange kind b → fitted kind (int_wrap w128 (a *ℤ b)) ≡ fitted kind (a *ℤ b)
fitted-wrapped Char a b f g = ap (fitted Char) (int_wrap_fits w128 _ (fits_signed_mul w128 a b (2 ^ 63) (2 ^ 63) (omega (arith, ints, f.at_least, f.at_most)) (omega (arith, ints, g.at_least, g.at_most)) (omega arith)))
fitted-wrapped Short a b f g = ap (fitted Short) (int_wrap_fits w128 _ (fits_signed_mul w128 a b (2 ^ 63) (2 ^ 63) (omega (arith, ints, f.at_least, f.at_most)) (omega (arith, ints, g.at_least, g.at_most)) (omega arith)))
fitted-wrapped Int a b f g = ap (fitted Int) (int_wrap_fits w128 _ (fits_signed_mul w128 a b (2 ^ 63) (2 ^ 63) (omega (arith, ints, f.at_least, f.at_most)) (omega (arith, ints, g.at_least, g.at_most)) (omega arith)))
fitted-wrapped Long a b f g = ap (fitted Long) (int_wrap_fits w128 _ (fits_signed_mul w128 a b (2 ^ 63) (2 ^ 63) (omega (arith, ints, f.at_least, f.at_most)) (omega (arith, ints, g.at_least, g.at_most)) (omega arith)))
fitted-wrapped UChar a b f g = fitted-held UChar _ refl ∙ ap (λ n. Ok (value_of UChar n)) (pattern-int_wrap UChar (a *ℤ b)) ∙ sym (fitted-held UChar _ refl)
fitted-wrapped UShort a b f g = fitted-held UShort _ refl ∙ ap (λ n. Ok (value_of UShort n)) (pattern-int_wrap UShort (a *ℤ b)) ∙ sym (fitted-held UShort _ refl)
fitted-wrapped UInt a b f g = fitted-held UInt _ refl ∙ ap (λ n. Ok (value_of UInt n)) (pattern-int_wrap UInt (a *ℤ b)) ∙ sym (fitted-held UInt _ refl)
fitted-wrapped ULong a b f g = fitted-held ULong _ refl ∙ ap (λ n. Ok (value_of ULong n)) (pattern-int_wrap ULong (a *ℤ b)) ∙ sym (fitted-held ULong _ refl)

-- ---- division

pub by_zero : (kind : IntKind) (a b : ℤ) → SFits w128 b → of_z w128 b ≡ 0 → (binary_result Div kind a b ≡ Err DivideByZero) × (binary_result Rem kind a b ≡ Err DivideByZero)
unfolding binary_result
by_zero kind a b f e =
    let is : b ≡ pos 0 = sym (to_z-of_z w128 b f) ∙ ap (to_z w128) e in
    let P : ℤ → Type 0 = λ d. (binary_result Div kind a d ≡ Err DivideByZero) × (binary_result Rem kind a d ≡ Err DivideByZero) in
    subst P (sym is) (refl, refl)

not_zero : (b : ℤ) → ¬ (of_z w128 b ≡ 0) → int_eq b (pos 0) ≡ false
not_zero b n = ⊎_elim (λ t. absurd (n (ap (of_z w128) ((Decides-int_eq b (pos 0)).0 t)))) (λ t. t) (cases_Bool (int_eq b (pos 0)))

pub divided : (kind : IntKind) (a b : ℤ) → ¬ (of_z w128 b ≡ 0) → binary_result Div kind a b ≡ fitted kind (int_div a b)
unfolding binary_result
divided kind a b n = cond-false (int_eq b (pos 0)) _ _ (not_zero b n)

pub remainder-over : (kind : IntKind) (a b : ℤ) → ¬ (of_z w128 b ≡ 0) → overflows kind (int_div a b) ≡ true → binary_result Rem kind a b ≡ Err Overflow
unfolding binary_result
remainder-over kind a b n e = cond-false (int_eq b (pos 0)) _ _ (not_zero b n) ∙ cond-true (overflows kind (int_div a b)) _ _ e

pub remainder-held : (kind : IntKind) (a b : ℤ) → ¬ (of_z w128 b ≡ 0) → overflows kind (int_div a b) ≡ false → binary_result Rem kind a b ≡ Ok (int_rem a b)
unfolding binary_result
remainder-held kind a b n e = cond-false (int_eq b (pos 0)) _ _ (not_zero b n) ∙ cond-false (overflows kind (int_div a b)) _ _ e

-- ---- shifts

pub shift_count-below : (kind : IntKind) (b : ℤ) → b <ℤ pos 0 → shift_count kind b ≡ Err ShiftCount
unfolding shift_count
shift_count-below kind (pos n) h = absurd (omega (arith, ints))
shift_count-below kind (negsuc n) h = refl

pub shift_count-above : (kind : IntKind) (b : ℤ) → pos (width kind) ≤ℤ b → shift_count kind b ≡ Err ShiftCount
unfolding shift_count
shift_count-above kind (pos n) h = cond-false _ _ _ (le-ltb n (width kind) (omega (arith, ints)))
shift_count-above kind (negsuc n) h = refl

pub shift_count-held : (kind : IntKind) (b : ℤ) → pos 0 ≤ℤ b → b <ℤ pos (width kind) → shift_count kind b ≡ Ok (unsigned_abs b)
unfolding shift_count
shift_count-held kind (pos n) g h = cond-true _ _ _ (lt-ltb n (width kind) (omega (arith, ints)))
shift_count-held kind (negsuc n) g h = absurd (omega (arith, ints))

-- ---- every result is a value of the kind

pub and_below : (kind : IntKind) (a b : ℤ) → bit_and (pattern kind a) (pattern kind b) < 2 ^ width kind
and_below kind a b = let h = and_le_l (pattern kind a) (pattern kind b) in let g = pattern_below kind a in omega arith

pub or_below : (kind : IntKind) (a b : ℤ) → bit_or (pattern kind a) (pattern kind b) < 2 ^ width kind
or_below kind a b = or_lt (width kind) _ _ (pattern_below kind a) (pattern_below kind b)

pub xor_below : (kind : IntKind) (a b : ℤ) → bit_xor (pattern kind a) (pattern kind b) < 2 ^ width kind
xor_below kind a b = xor_lt (width kind) _ _ (pattern_below kind a) (pattern_below kind b)

pub flip_below : (kind : IntKind) (n : ℕ) → 2 ^ width kind - 1 - n < 2 ^ width kind
flip_below kind n = omega (arith, pow_pos (width kind))

result-in_range : (op : ArithBinary) (kind : IntKind) (a b : ℤ) → InRange kind a → Ranged kind (binary_result op kind a b)
unfolding binary_result
result-in_range Add kind a b f = fitted-in_range kind (a +ℤ b)
result-in_range Sub kind a b f = fitted-in_range kind (a -ℤ b)
result-in_range Mul kind a b f = fitted-in_range kind (a *ℤ b)
result-in_range Div kind a b f = unless (int_eq b (pos 0)) kind DivideByZero _ (fitted-in_range kind (int_div a b))
result-in_range Rem kind a b f =
    unless (int_eq b (pos 0)) kind DivideByZero _ (unless (overflows kind (int_div a b)) kind Overflow _ (rem-in_range kind a b f))
result-in_range Shl kind a b f = elim (shift_count kind b) as (λ s. Ranged kind (shifted s (shifted_up kind a))) [ Ok n ↦ value_of-in_range kind _ (mod-lt _ (pow_pos (width kind))) | Err e ↦ tt ]
result-in_range Shr kind a b f = elim (shift_count kind b) as (λ s. Ranged kind (shifted s (shifted_down a))) [ Ok n ↦ down-in_range kind a n f | Err e ↦ tt ]
result-in_range And kind a b f = value_of-in_range kind _ (and_below kind a b)
result-in_range Or kind a b f = value_of-in_range kind _ (or_below kind a b)
result-in_range Xor kind a b f = value_of-in_range kind _ (xor_below kind a b)
result-in_range Lt kind a b f = truth-in_range kind _
result-in_range Gt kind a b f = truth-in_range kind _
result-in_range Le kind a b f = truth-in_range kind _
result-in_range Ge kind a b f = truth-in_range kind _
result-in_range Eq kind a b f = truth-in_range kind _
result-in_range Ne kind a b f = truth-in_range kind _

pub binary-in_range : (op : ArithBinary) (kind : IntKind) (a b : ℤ) (r : Result ℤ ArithFault) → InRange kind a → r ≡ binary_result op kind a b → Ranged kind r
binary-in_range op kind a b r f e = subst (Ranged kind) (sym e) (result-in_range op kind a b f)

-- ---- what division means

signed_rest : (a : ℤ) (m : ℕ) → int_lt a (pos 0) ≡ true → (neg_ℤ (pos m) ≡ pos 0) ⊎ (int_lt (neg_ℤ (pos m)) (pos 0) ≡ int_lt a (pos 0))
signed_rest a zero e = inl refl
signed_rest a (suc m) e = inr (sym e)

rest_sign : (a b : ℤ) → (int_rem a b ≡ pos 0) ⊎ (int_lt (int_rem a b) (pos 0) ≡ int_lt a (pos 0))
rest_sign (pos a) b = inr (not_less (a % unsigned_abs b) ∙ sym (not_less a))
  where
    not_less : (n : ℕ) → int_lt (pos n) (pos 0) ≡ false
    not_less n = sym (omega (arith, ints))
rest_sign (negsuc a) b = signed_rest (negsuc a) (suc a % unsigned_abs b) refl

abs_above : (b : ℤ) → int_eq b (pos 0) ≡ false → 0 < unsigned_abs b
abs_above (pos zero) e = absurd (true≢false e)
abs_above (pos (suc n)) e = omega arith
abs_above (negsuc n) e = omega arith

division : (a b : ℤ) → int_eq b (pos 0) ≡ false → IsDivision a b (int_div a b) (int_rem a b)
division a b e = record { whole = sym (quot-rem a b); smaller = rem_below a b (abs_above b e); sign = rest_sign a b }

-- a value of the kind is itself
wrap-held : (kind : IntKind) (z : ℤ) → InRange kind z → wrap kind z ≡ z
wrap-held kind z f = sym (wrap-only kind z z (pos 0) f (omega (arith, ints)))

held : (kind : IntKind) (z : ℤ) → not (in_range kind z) ≡ false → InRange kind z
held kind z e =
    let both = and_parts (int_le (least kind) z) (int_le z (greatest kind)) (not-false (in_range kind z) e) in
    let low = both.0 in
    let high = both.1 in
    record { at_least = omega (arith, ints); at_most = omega (arith, ints) }

unsigned_quotient : (kind : IntKind) (a b : ℤ) → least kind ≡ pos 0 → InRange kind a → InRange kind b → InRange kind (int_div a b)
unsigned_quotient kind (pos a) (pos b) e f g =
    let h = div-le_self a b in
    record { at_least = omega (arith, ints); at_most = omega (arith, ints, f.at_most) }
unsigned_quotient kind (negsuc a) b e f g = absurd (omega (arith, ints, f.at_least))
unsigned_quotient kind (pos a) (negsuc b) e f g = absurd (omega (arith, ints, g.at_least))

quotient-held : (kind : IntKind) (a b : ℤ) → InRange kind a → InRange kind b → overflows kind (int_div a b) ≡ false → InRange kind (int_div a b)
quotient-held Char a b f g e = held Char (int_div a b) e
quotient-held Short a b f g e = held Short (int_div a b) e
quotient-held Int a b f g e = held Int (int_div a b) e
quotient-held Long a b f g e = held Long (int_div a b) e
quotient-held UChar a b f g e = unsigned_quotient UChar a b refl f g
quotient-held UShort a b f g e = unsigned_quotient UShort a b refl f g
quotient-held UInt a b f g e = unsigned_quotient UInt a b refl f g
quotient-held ULong a b f g e = unsigned_quotient ULong a b refl f g

fitted_quotient : (kind : IntKind) (a b : ℤ) → InRange kind a → InRange kind b → int_eq b (pos 0) ≡ false → (t : Bool) → overflows kind (int_div a b) ≡ t → Divides Div a b (cond t (Err Overflow) (Ok (wrap kind (int_div a b))))
fitted_quotient kind a b f g e true o = tt
fitted_quotient kind a b f g e false o =
    let P : ℤ → Type 0 = λ q. (r : ℤ) × IsDivision a b q r in
    subst P (sym (wrap-held kind (int_div a b) (quotient-held kind a b f g o))) (int_rem a b, division a b e)

rest_of_division : (a b : ℤ) → int_eq b (pos 0) ≡ false → (t : Bool) → Divides Rem a b (cond t (Err Overflow) (Ok (int_rem a b)))
rest_of_division a b e true = tt
rest_of_division a b e false = (int_div a b, division a b e)

pub quotient-divides : (kind : IntKind) (a b : ℤ) (r : Result ℤ ArithFault) → InRange kind a → InRange kind b → r ≡ binary_result Div kind a b → Divides Div a b r
unfolding binary_result fitted
quotient-divides kind a b r f g e = subst (Divides Div a b) (sym e) (by (int_eq b (pos 0)) refl)
  where
    by : (t : Bool) → int_eq b (pos 0) ≡ t → Divides Div a b (cond t (Err DivideByZero) (fitted kind (int_div a b)))
    by true z = tt
    by false z = fitted_quotient kind a b f g z (overflows kind (int_div a b)) refl

pub remainder-divides : (kind : IntKind) (a b : ℤ) (r : Result ℤ ArithFault) → r ≡ binary_result Rem kind a b → Divides Rem a b r
unfolding binary_result
remainder-divides kind a b r e = subst (Divides Rem a b) (sym e) (by (int_eq b (pos 0)) refl)
  where
    by : (t : Bool) → int_eq b (pos 0) ≡ t → Divides Rem a b (cond t (Err DivideByZero) (cond (overflows kind (int_div a b)) (Err Overflow) (Ok (int_rem a b))))
    by true z = tt
    by false z = rest_of_division a b z (overflows kind (int_div a b))

-- ---- the shifts of the code

word_spare : (kind : IntKind) → 2 ^ 64 ≡ 2 ^ (64 - width kind) * 2 ^ width kind
word_spare Char = refl
word_spare Short = refl
word_spare Int = refl
word_spare Long = refl
word_spare UChar = refl
word_spare UShort = refl
word_spare UInt = refl
word_spare ULong = refl

word_bits : (kind : IntKind) (n : ℕ) → n % 2 ^ 64 % 2 ^ width kind ≡ n % 2 ^ width kind
word_bits kind n =
    let q = n / 2 ^ 64 in
    let e : q * 2 ^ 64 ≡ q * 2 ^ (64 - width kind) * 2 ^ width kind = ap (λ n. q * n) (word_spare kind) ∙ sym (mul_assoc q (2 ^ (64 - width kind)) (2 ^ width kind)) in
    sym (pattern_is kind (pos (n % 2 ^ 64)) 0 (n % 2 ^ 64) (omega (arith, ints)))
    ∙ pattern_is kind (pos (n % 2 ^ 64)) (q * 2 ^ (64 - width kind)) n (omega (arith, ints, div-add-mod' n (2 ^ 64)))

pub shifted_bits : (kind : IntKind) (n m : ℕ) → m ≡ 2 ^ width kind - 1 → bit_and (n % 2 ^ 64) m ≡ n % 2 ^ width kind
shifted_bits kind n m e = ap (bit_and (n % 2 ^ 64)) e ∙ and_mask (n % 2 ^ 64) (width kind) ∙ word_bits kind n

pub shift-left : (kind : IntKind) (a b : ℤ) (n : ℕ) → shift_count kind b ≡ Ok n → binary_result Shl kind a b ≡ Ok (shifted_up kind a n)
unfolding binary_result
shift-left kind a b n e = ap (λ s. shifted s (shifted_up kind a)) e

pub shift-right : (kind : IntKind) (a b : ℤ) (n : ℕ) → shift_count kind b ≡ Ok n → binary_result Shr kind a b ≡ Ok (shifted_down a n)
unfolding binary_result
shift-right kind a b n e = ap (λ s. shifted s (shifted_down a)) e

pub shift-fault : (kind : IntKind) (a b : ℤ) (fault : ArithFault) → shift_count kind b ≡ Err fault → (binary_result Shl kind a b ≡ Err fault) × (binary_result Shr kind a b ≡ Err fault)
unfolding binary_result
shift-fault kind a b fault e = (ap (λ s. shifted s (shifted_up kind a)) e, ap (λ s. shifted s (shifted_down a)) e)

-- the code's `>>`
pub shr_is : (a : ℤ) (n : ℕ) → SFits w128 a → to_z w128 (of_z w128 (shr_z (to_z w128 (of_z w128 a)) (2 ^ n))) ≡ shifted_down a n
shr_is a n f =
    let h = mag_shr a (2 ^ n) in
    let g = f.sfits in
    ap (λ z. to_z w128 (of_z w128 (shr_z z (2 ^ n)))) (to_z-of_z w128 a f)
    ∙ to_z-of_z w128 (shr_z a (2 ^ n)) (record { sfits = omega arith })
    ∙ same a
  where
    same : (a : ℤ) → shr_z a (2 ^ n) ≡ shifted_down a n
    same (pos a) = refl
    same (negsuc a) = refl

-- ---- one operand

-- the code's `-`
pub neg_is : (kind : IntKind) (a : ℤ) → InRange kind a → to_z w128 (of_z w128 (pos 0 -ℤ to_z w128 (of_z w128 a))) ≡ neg_ℤ a
neg_is kind a f =
    let h = in_range-abs kind a f in
    let g : SFits w128 (neg_ℤ a) = fits_signed_from_abs w128 (neg_ℤ a) (abs_below a h) in
    ap (λ z. to_z w128 (of_z w128 (pos 0 -ℤ z))) (to_z-of_z w128 a (in_range-fits kind a f)) ∙ ap (λ z. to_z w128 (of_z w128 z)) (+ℤ_idl (neg_ℤ a)) ∙ to_z-of_z w128 (neg_ℤ a) g
  where
    abs_below : (a : ℤ) → unsigned_abs a ≤ 2 ^ 64 → unsigned_abs (neg_ℤ a) < 2 ^ 127
    abs_below (pos n) h = omega (arith, abs-neg n)
    abs_below (negsuc n) h = omega arith

-- the code's test for 0
pub zero_test : (a : ℤ) → SFits w128 a → eqb (of_z w128 a) 0 ≡ int_eq a (pos 0)
zero_test a f = eqb-bits a (pos 0) f (fits_signed_from_abs w128 (pos 0) (omega arith))

unary-ranged : (op : ArithUnary) (kind : IntKind) (a : ℤ) → InRange kind a → Ranged kind (unary_result op kind a)
unfolding unary_result
unary-ranged Plus kind a f = f
unary-ranged Minus kind a f = fitted-in_range kind (neg_ℤ a)
unary-ranged Flip kind a f = value_of-in_range kind _ (flip_below kind (pattern kind a))
unary-ranged Not kind a f = truth-in_range kind _

pub unary-in_range : (op : ArithUnary) (kind : IntKind) (a : ℤ) (r : Result ℤ ArithFault) → InRange kind a → r ≡ unary_result op kind a → Ranged kind r
unary-in_range op kind a r f e = subst (Ranged kind) (sym e) (unary-ranged op kind a f)

-- ---- what the code's operators give

-- a sum or difference of two values of a kind is an i128
pub sum_is : (kind : IntKind) (a b : ℤ) → InRange kind a → InRange kind b → to_z w128 (of_z w128 (to_z w128 (of_z w128 a) +ℤ to_z w128 (of_z w128 b))) ≡ a +ℤ b
sum_is kind a b f g =
    let h = in_range-abs kind a f in
    let k = in_range-abs kind b g in
    omega (arith, ints)

pub difference_is : (kind : IntKind) (a b : ℤ) → InRange kind a → InRange kind b → to_z w128 (of_z w128 (to_z w128 (of_z w128 a) -ℤ to_z w128 (of_z w128 b))) ≡ a -ℤ b
difference_is kind a b f g =
    let h = in_range-abs kind a f in
    let k = in_range-abs kind b g in
    omega (arith, ints)
