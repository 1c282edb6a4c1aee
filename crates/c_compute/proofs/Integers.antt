-- Ints keep their values where an operator computes in int.
use Rattle.std.proofs.Common.{◌≡◌, ℕ, suc, zero, ◌-◌, ◌/◌, ◌%◌, ◌^◌, ◌<◌, ◌≤◌, ℤ, pos, negsuc, neg_ℤ, ◌*ℤ◌, ◌≤ℤ◌, ◌<ℤ◌, Bool, true, false, not, IsTrue, eqb, int_le, int_lt, int_eq, int_div, int_rem, unsigned_abs, bit_and, bit_or, bit_xor, SFits, of_z, to_z, Result, Ok, Err, mod-lt, pow_pos, ◌*◌, refl, sym, ap, ap₂, subst, ◌∙◌, arith}
use Rattle.std.specs.Int.{w32, w64, w128}
use Rattle.std.specs.Prelude.{if◌then◌else◌}
use Rattle.std.proofs.Math.Nat.{mod-eq_of_lt, div-le_self}
use Rattle.std.proofs.Math.Facts.{to_z-neg}
use Rattle.std.proofs.lemmas.Bool.{and_from, and_right}
use Rattle.std.proofs.lemmas.Bool.Decides.{Decides-eqb, Decides-int_eq, Decides-like, same_from_decides}
use Rattle.std.proofs.lemmas.Int.{ints, by_lt_z, to_z-of_z, fits_signed_from_abs, fits_signed_mul, quot_is, rem_is}
use lib.Signed.{shr_z, mag_shr}
use Rattle.c_base.specs.declared.place.IntKind.{IntKind}
use Rattle.c_base.specs.declared.place.IntKind.TheVariants.{Char, Short, Int, Long, UChar, UShort, UInt, ULong}
use Rattle.c_arith.specs.declared.ArithFault.TheVariants.{Overflow, DivideByZero}
use Rattle.c_arith.specs.declared.ArithBinary.TheVariants as two
use Rattle.c_arith.specs.Arith.{InRange, least, greatest, wrap, fitted, pattern, value_of, shifted_down, binary_result}
use Rattle.c_arith.proofs.Patterns.{pattern_is, value_of-low, value_of-high, wrap-only}
use Rattle.c_arith.proofs.Results.{fitted-over, fitted-held, and_below, or_below, xor_below, divided, remainder-over, remainder-held, shift_count-held, shift-left, shift-right}
use Rattle.c_syntax.specs.declared.tree.BinaryOp.{BinaryOp}
use Rattle.c_syntax.specs.declared.tree.BinaryOp.TheVariants as op
use Rattle.c_type_rules.specs.Kinds.{same_int, promote, meet}
use Rattle.c_constants.specs.Constants.{arith_of, is_shift, computing_kind, right_operand}
use Rattle.c_store.specs.declared.value.Value.{Value}
use Rattle.c_store.specs.declared.value.Fault.{Fault}
use Rattle.c_meaning.specs.Operators.{integer, of_integers}
use Rattle.c_compute.specs.Narrow.{is_narrow, given}

-- ---- values

-- a value of a kind stays itself
pub wrap_held : (k : IntKind) (z : ℤ) → InRange k z → wrap k z ≡ z
wrap_held k z f = sym (wrap-only k z z (pos 0) f (omega (arith, ints)))

pub int_range : (z : ℤ) → SFits w32 z → InRange Int z
int_range z f = let h = f.sfits in record { at_least = omega (arith, ints); at_most = omega (arith, ints) }

-- ---- types

-- it is none of the wide ones
record Low (k : IntKind) : Type 0 where
  promoted : promote k ≡ Int
  no_ulong : same_int k ULong ≡ false
  no_long : same_int k Long ≡ false
  no_uint : same_int k UInt ≡ false

low : (k : IntKind) → is_narrow k ≡ true → Low k
low Char e = record { promoted = refl; no_ulong = refl; no_long = refl; no_uint = refl }
low Short e = record { promoted = refl; no_ulong = refl; no_long = refl; no_uint = refl }
low Int e = record { promoted = refl; no_ulong = refl; no_long = refl; no_uint = refl }
low Long e = cc
low UChar e = record { promoted = refl; no_ulong = refl; no_long = refl; no_uint = refl }
low UShort e = record { promoted = refl; no_ulong = refl; no_long = refl; no_uint = refl }
low UInt e = cc
low ULong e = cc

meet_low : (j k : IntKind) → Low j → Low k → meet j k ≡ Int
meet_low j k f g = rw (f.no_ulong, g.no_ulong, f.no_long, g.no_long, f.no_uint, g.no_uint) refl

int_chosen : (j k : IntKind) → Low j → Low k → (b : Bool) → (if b then promote j else meet j k) ≡ Int
int_chosen j k f g true = f.promoted
int_chosen j k f g false = meet_low j k f g

-- an operator computes in int
computes_in_int : (u : BinaryOp) (j k : IntKind) → is_narrow j ≡ true → is_narrow k ≡ true → computing_kind u j k ≡ Int
computes_in_int u j k f g = int_chosen j k (low j f) (low k g) (is_shift u)

of_kind : BinaryOp → ℤ → ℤ → IntKind → Result Value Fault
of_kind u x y k = integer (binary_result (arith_of u) k (wrap k x) (right_operand u k y))

pub narrow_is : (u : BinaryOp) (j k : IntKind) (x y : ℤ) → is_narrow j ≡ true → is_narrow k ≡ true → of_integers u Int Int x y ≡ of_integers u j k x y
unfolding of_kind
narrow_is u j k x y f g = ap (of_kind u x y) (computes_in_int u Int Int refl refl ∙ sym (computes_in_int u j k f g))

-- ---- operators

pub of_ints_is : (u : BinaryOp) (x y : ℤ) → InRange Int x → InRange Int y → of_integers u Int Int x y ≡ integer (binary_result (arith_of u) Int x y)
of_ints_is op.Mul x y f g = rw (wrap_held Int x f, wrap_held Int y g) refl
of_ints_is op.Div x y f g = rw (wrap_held Int x f, wrap_held Int y g) refl
of_ints_is op.Rem x y f g = rw (wrap_held Int x f, wrap_held Int y g) refl
of_ints_is op.Add x y f g = rw (wrap_held Int x f, wrap_held Int y g) refl
of_ints_is op.Sub x y f g = rw (wrap_held Int x f, wrap_held Int y g) refl
of_ints_is op.Shl x y f g = rw (wrap_held Int x f) refl
of_ints_is op.Shr x y f g = rw (wrap_held Int x f) refl
of_ints_is op.Lt x y f g = rw (wrap_held Int x f, wrap_held Int y g) refl
of_ints_is op.Gt x y f g = rw (wrap_held Int x f, wrap_held Int y g) refl
of_ints_is op.Le x y f g = rw (wrap_held Int x f, wrap_held Int y g) refl
of_ints_is op.Ge x y f g = rw (wrap_held Int x f, wrap_held Int y g) refl
of_ints_is op.Eq x y f g = rw (wrap_held Int x f, wrap_held Int y g) refl
of_ints_is op.Ne x y f g = rw (wrap_held Int x f, wrap_held Int y g) refl
of_ints_is op.BitAnd x y f g = rw (wrap_held Int x f, wrap_held Int y g) refl
of_ints_is op.BitXor x y f g = rw (wrap_held Int x f, wrap_held Int y g) refl
of_ints_is op.BitOr x y f g = rw (wrap_held Int x f, wrap_held Int y g) refl

-- ---- results

pub fitted_in : (z : ℤ) → least Int ≤ℤ z → z ≤ℤ greatest Int → fitted Int z ≡ Ok z
fitted_in z f g =
    let from : true ≡ int_le (least Int) z = omega (arith, ints) in
    let to : true ≡ int_le z (greatest Int) = omega (arith, ints) in
    fitted-held Int z (ap not (and_from _ _ (sym from) (sym to))) ∙ ap Ok (wrap_held Int z (record { at_least = f; at_most = g }))

pub fitted_below : (z : ℤ) → z <ℤ least Int → fitted Int z ≡ Err Overflow
fitted_below z h =
    let from : false ≡ int_le (least Int) z = omega (arith, ints) in
    fitted-over Int z (rw (sym from) refl)

pub fitted_above : (z : ℤ) → greatest Int <ℤ z → fitted Int z ≡ Err Overflow
fitted_above z h =
    let from : true ≡ int_le (least Int) z = omega (arith, ints) in
    let to : false ≡ int_le z (greatest Int) = omega (arith, ints) in
    fitted-over Int z (rw (sym from, sym to) refl)

-- ---- bits

bits_of : (z : ℤ) → InRange Int z → pattern Int z ≡ of_z w32 z
bits_of (pos n) f = pattern_is Int (pos n) 0 n (omega (arith, ints)) ∙ mod-eq_of_lt (omega (arith, ints, f.at_most))
bits_of (negsuc n) f = pattern_is Int (negsuc n) 1 (2 ^ 32 - suc n) (omega (arith, ints, f.at_least)) ∙ mod-eq_of_lt (omega arith)

value_bits : (n : ℕ) → n < 2 ^ 32 → value_of Int n ≡ to_z w32 n
value_bits n h =
    by_lt_z (greatest Int) (pos n)
    (λ g.
    let e : 2 ^ 32 - suc (2 ^ 32 - 1 - n) ≡ n = omega arith in
    value_of-high Int n g ∙ omega (arith, ints) ∙ sym (to_z-neg w32 (2 ^ 32 - 1 - n) (omega (arith, ints))) ∙ ap (to_z w32) e)
    (λ g. value_of-low Int n g ∙ omega (arith, ints))

pub and_is : (x y : ℤ) → InRange Int x → InRange Int y → to_z w32 (bit_and (of_z w32 x) (of_z w32 y)) ≡ value_of Int (bit_and (pattern Int x) (pattern Int y))
and_is x y f g =
    rw (← bits_of x f, ← bits_of y g) (sym (value_bits (bit_and (pattern Int x) (pattern Int y)) (and_below Int x y)))

pub or_is : (x y : ℤ) → InRange Int x → InRange Int y → to_z w32 (bit_or (of_z w32 x) (of_z w32 y)) ≡ value_of Int (bit_or (pattern Int x) (pattern Int y))
or_is x y f g =
    rw (← bits_of x f, ← bits_of y g) (sym (value_bits (bit_or (pattern Int x) (pattern Int y)) (or_below Int x y)))

pub xor_is : (x y : ℤ) → InRange Int x → InRange Int y → to_z w32 (bit_xor (of_z w32 x) (of_z w32 y)) ≡ value_of Int (bit_xor (pattern Int x) (pattern Int y))
xor_is x y f g =
    rw (← bits_of x f, ← bits_of y g) (sym (value_bits (bit_xor (pattern Int x) (pattern Int y)) (xor_below Int x y)))

-- ---- what the code finds

pub int_test : (z : ℤ) (b : Bool) → SFits w128 z → (IsTrue b → InRange Int (to_z w128 (of_z w128 z))) → b ≡ true → InRange Int z
int_test z b f h e = subst (InRange Int) (to_z-of_z w128 z f) (h e)

pub of_op : (u o : BinaryOp) (a b : ℤ) → o ≡ u → SFits w32 a → SFits w32 b → integer (binary_result (arith_of u) Int a b) ≡ of_integers o Int Int a b
of_op u o a b e f g = sym (of_ints_is u a b (int_range a f) (int_range b g)) ∙ ap (λ p. of_integers p Int Int a b) (sym e)

wide : (z : ℤ) → SFits w32 z → SFits w64 z
wide z f = let h = f.sfits in record { sfits = omega arith }

pub product_is : (a b p q : ℤ) → SFits w32 a → SFits w32 b → p ≡ to_z w32 (of_z w32 a) → q ≡ to_z w32 (of_z w32 b) → to_z w64 (of_z w64 (to_z w64 (of_z w64 p) *ℤ to_z w64 (of_z w64 q))) ≡ a *ℤ b
product_is a b p q f g d e =
    let h = f.sfits in
    let i = g.sfits in
    let x : to_z w64 (of_z w64 p) ≡ a = omega (arith, ints) in
    let y : to_z w64 (of_z w64 q) ≡ b = omega (arith, ints) in
    ap₂ (λ x y. to_z w64 (of_z w64 (x *ℤ y))) x y ∙ to_z-of_z w64 (a *ℤ b) (fits_signed_mul w64 a b (2 ^ 31) (2 ^ 31) (omega (arith, ints)) (omega (arith, ints)) (omega arith))

-- the test of bits is the test of numbers
pub eqb_bits : (a b : ℤ) → SFits w32 a → SFits w32 b → eqb (of_z w32 a) (of_z w32 b) ≡ int_eq a b
eqb_bits a b f g =
    same_from_decides _ _
    (Decides-like _ (λ e. sym (to_z-of_z w32 a f) ∙ ap (to_z w32) e ∙ to_z-of_z w32 b g) (λ e. ap (of_z w32) e) (Decides-eqb (of_z w32 a) (of_z w32 b)))
    (Decides-int_eq a b)

-- ---- division

none_zero : (b : ℤ) → SFits w32 b → ¬ (of_z w32 b ≡ 0) → ¬ (of_z w128 b ≡ 0)
none_zero (pos n) f h e = h e
none_zero (negsuc n) f h e = let g = f.sfits in omega arith

is_zero : (b : ℤ) → SFits w32 b → of_z w32 b ≡ 0 → b ≡ pos 0
is_zero b f e = sym (to_z-of_z w32 b f) ∙ ap (to_z w32) e

pub zero_quotient : (a b : ℤ) → SFits w32 b → of_z w32 b ≡ 0 → binary_result two.Div Int a b ≡ Err DivideByZero
unfolding binary_result
zero_quotient a b f e = ap (binary_result two.Div Int a) (is_zero b f e)

pub zero_remainder : (a b : ℤ) → SFits w32 b → of_z w32 b ≡ 0 → binary_result two.Rem Int a b ≡ Err DivideByZero
unfolding binary_result
zero_remainder a b f e = ap (binary_result two.Rem Int a) (is_zero b f e)

abs_neg : (n : ℕ) → unsigned_abs (neg_ℤ (pos n)) ≡ n
abs_neg zero = refl
abs_neg (suc n) = refl

abs_div : (a b : ℤ) → unsigned_abs (int_div a b) ≤ unsigned_abs a
abs_div (pos a) (pos b) = div-le_self a b
abs_div (pos a) (negsuc b) = omega (arith, abs_neg (a / suc b), div-le_self a (suc b))
abs_div (negsuc a) (pos b) = omega (arith, abs_neg (suc a / b), div-le_self (suc a) b)
abs_div (negsuc a) (negsuc b) = div-le_self (suc a) (suc b)

-- the code's `/` and `%`, in 64 bits
pub quotient_is : (a b p q : ℤ) → SFits w32 a → SFits w32 b → p ≡ to_z w32 (of_z w32 a) → q ≡ to_z w32 (of_z w32 b) → to_z w64 (of_z w64 (int_div (to_z w64 (of_z w64 p)) (to_z w64 (of_z w64 q)))) ≡ int_div a b
quotient_is a b p q f g d e =
    let h = f.sfits in
    let small = abs_div a b in
    ap₂ (λ x y. to_z w64 (of_z w64 (int_div (to_z w64 (of_z w64 x)) (to_z w64 (of_z w64 y))))) (d ∙ to_z-of_z w32 a f) (e ∙ to_z-of_z w32 b g)
    ∙ quot_is w64 a b (wide a f) (wide b g) (fits_signed_from_abs w64 (int_div a b) (omega (arith, ints)))

pub rest_is : (a b p q : ℤ) → SFits w32 a → SFits w32 b → p ≡ to_z w32 (of_z w32 a) → q ≡ to_z w32 (of_z w32 b) → to_z w64 (of_z w64 (int_rem (to_z w64 (of_z w64 p)) (to_z w64 (of_z w64 q)))) ≡ int_rem a b
rest_is a b p q f g d e =
    ap₂ (λ x y. to_z w64 (of_z w64 (int_rem (to_z w64 (of_z w64 x)) (to_z w64 (of_z w64 y))))) (d ∙ to_z-of_z w32 a f) (e ∙ to_z-of_z w32 b g)
    ∙ rem_is w64 a b (wide a f) (wide b g)

pub some_quotient : (a b : ℤ) → SFits w32 b → ¬ (of_z w32 b ≡ 0) → binary_result two.Div Int a b ≡ fitted Int (int_div a b)
some_quotient a b f h = divided Int a b (none_zero b f h)

pub some_remainder : (a b : ℤ) → SFits w32 a → SFits w32 b → ¬ (of_z w32 b ≡ 0) → int_lt (pos 2147483647) (int_div a b) ≡ false → binary_result two.Rem Int a b ≡ Ok (int_rem a b)
some_remainder a b f g h e =
    let size = f.sfits in
    let small = abs_div a b in
    let from : true ≡ int_le (least Int) (int_div a b) = omega (arith, ints) in
    let to : true ≡ int_le (int_div a b) (greatest Int) = omega (arith, ints) in
    remainder-held Int a b (none_zero b g h) (ap not (and_from _ _ (sym from) (sym to)))

pub no_remainder : (a b : ℤ) → SFits w32 b → ¬ (of_z w32 b ≡ 0) → int_lt (pos 2147483647) (int_div a b) ≡ true → binary_result two.Rem Int a b ≡ Err Overflow
no_remainder a b g h e =
    let to : false ≡ int_le (int_div a b) (greatest Int) = omega (arith, ints) in
    remainder-over Int a b (none_zero b g h) (ap not (and_right _ _ (sym to)))

-- ---- the code's `<<` and `>>`

pub up_is : (a b : ℤ) → SFits w32 a → SFits w32 b → int_lt (to_z w32 (of_z w32 b)) (pos 0) ≡ false → int_le (pos 32) (to_z w32 (of_z w32 b)) ≡ false → given (to_z w32 (of_z w32 a * 2 ^ unsigned_abs (to_z w32 (of_z w32 b)) % 2 ^ 32)) ≡ integer (binary_result two.Shl Int a b)
up_is a b f g low high =
    let n : ℕ = unsigned_abs b in
    let count = shift_count-held Int b (omega (arith, ints)) (omega (arith, ints)) in
    ap (λ n. given (to_z w32 (of_z w32 a * 2 ^ n % 2 ^ 32))) (ap unsigned_abs (to_z-of_z w32 b g))
    ∙ ap given (sym (value_bits (of_z w32 a * 2 ^ n % 2 ^ 32) (mod-lt (of_z w32 a * 2 ^ n) (pow_pos 32))))
    ∙ ap (λ m. given (value_of Int (m * 2 ^ n % 2 ^ 32))) (sym (bits_of a (int_range a f)))
    ∙ sym (ap integer (shift-left Int a b n count))

shifted_same : (a : ℤ) (n : ℕ) → shr_z a (2 ^ n) ≡ shifted_down a n
shifted_same (pos a) n = refl
shifted_same (negsuc a) n = refl

pub down_is : (a b : ℤ) → SFits w32 a → SFits w32 b → int_lt (to_z w32 (of_z w32 b)) (pos 0) ≡ false → int_le (pos 32) (to_z w32 (of_z w32 b)) ≡ false → given (to_z w32 (of_z w32 (shr_z (to_z w32 (of_z w32 a)) (2 ^ unsigned_abs (to_z w32 (of_z w32 b)))))) ≡ integer (binary_result two.Shr Int a b)
down_is a b f g low high =
    let n : ℕ = unsigned_abs b in
    let count = shift_count-held Int b (omega (arith, ints)) (omega (arith, ints)) in
    let size = f.sfits in
    let less = mag_shr a (2 ^ n) in
    ap₂ (λ a n. given (to_z w32 (of_z w32 (shr_z a (2 ^ n))))) (to_z-of_z w32 a f) (ap unsigned_abs (to_z-of_z w32 b g))
    ∙ ap given (to_z-of_z w32 (shr_z a (2 ^ n)) (record { sfits = omega arith }) ∙ shifted_same a n)
    ∙ sym (ap integer (shift-right Int a b n count))
