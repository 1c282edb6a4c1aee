-- The integer arithmetic of C: the kinds with their ranges, and what each operator gives in ℤ.
use Rattle.std.specs.Prelude.{◌≡◌, ◌⊎◌, ℕ, ◌<◌, ◌*◌, ◌-◌, ◌%◌, ◌^◌, ℤ, pos, negsuc, ◌+ℤ◌, ◌-ℤ◌, ◌*ℤ◌, ◌≤ℤ◌, neg_ℤ, Bool, true, false, not, ◌&&◌, nat_lt, int_lt, int_le, int_div, int_rem, unsigned_abs, bit_and, bit_or, bit_xor, Result, Ok, Err, IfOk, ⊤, if◌then◌else◌}
use Rattle.std.specs.Int.{int_div_euclid, int_rem_euclid}
use Rattle.std.specs.Ordering.{int_eq}
use Rattle.c_base.specs.declared.place.IntKind.{IntKind}
use Rattle.c_base.specs.declared.place.IntKind.TheVariants.{Char, Short, Int, Long, UChar, UShort, UInt, ULong}
use Rattle.c_arith.specs.declared.ArithUnary.{ArithUnary}
use Rattle.c_arith.specs.declared.ArithUnary.TheVariants.{Plus, Minus, Flip, Not}
use Rattle.c_arith.specs.declared.ArithBinary.{ArithBinary}
use Rattle.c_arith.specs.declared.ArithBinary.TheVariants.{Add, Sub, Mul, Div, Rem, Shl, Shr, And, Or, Xor, Lt, Gt, Le, Ge, Eq, Ne}
use Rattle.c_arith.specs.declared.ArithFault.{ArithFault}
use Rattle.c_arith.specs.declared.ArithFault.TheVariants.{DivideByZero, Overflow, ShiftCount}

-- ---- kinds

-- how many bits the kind has
abbrev pub width : IntKind → ℕ
width Char = 8
width Short = 16
width Int = 32
width Long = 64
width UChar = 8
width UShort = 16
width UInt = 32
width ULong = 64

abbrev pub is_signed : IntKind → Bool
is_signed Char = true
is_signed Short = true
is_signed Int = true
is_signed Long = true
is_signed UChar = false
is_signed UShort = false
is_signed UInt = false
is_signed ULong = false

-- the kinds in which C computes: the others are promoted first
abbrev pub IsPromoted : IntKind → Type 0
IsPromoted Int = ⊤
IsPromoted Long = ⊤
IsPromoted UInt = ⊤
IsPromoted ULong = ⊤
IsPromoted Char = ⊥
IsPromoted Short = ⊥
IsPromoted UChar = ⊥
IsPromoted UShort = ⊥

-- the least and the greatest value of the kind
abbrev pub least : IntKind → ℤ
least kind = if is_signed kind then neg_ℤ (pos (2 ^ (width kind - 1))) else pos 0

abbrev pub greatest : IntKind → ℤ
greatest kind = if is_signed kind then pos (2 ^ (width kind - 1) - 1) else pos (2 ^ width kind - 1)

-- the number is a value of the kind
pub record InRange (kind : IntKind) (z : ℤ) : Type 0 where
  pub at_least : least kind ≤ℤ z
  pub at_most : z ≤ℤ greatest kind

-- the same as a test
abbrev pub in_range : IntKind → ℤ → Bool
in_range kind z = int_le (least kind) z && int_le z (greatest kind)

-- ---- bit patterns

-- the bits of the number at the kind's width: the number modulo 2 ^ width, from 0 up
unfoldable pub pattern : IntKind → ℤ → ℕ
pattern kind z = unsigned_abs (int_rem_euclid z (pos (2 ^ width kind)))

-- the value that the bits stand for (two's complement): their number, or 2 ^ width less where the kind hasn't that
unfoldable pub value_of : IntKind → ℕ → ℤ
value_of kind bits = if in_range kind (pos bits) then pos bits else (pos bits -ℤ pos (2 ^ width kind))

-- the value of the kind that equals the number modulo 2 ^ width
abbrev pub wrap : IntKind → ℤ → ℤ
wrap kind z = value_of kind (pattern kind z)

-- ---- operators

-- the kind is signed and hasn't the number
abbrev pub overflows : IntKind → ℤ → Bool
overflows kind z = is_signed kind && not (in_range kind z)

-- what the exact number gives: a signed kind holds it or overflows, an unsigned kind wraps
unfoldable pub fitted : IntKind → ℤ → Result ℤ ArithFault
fitted kind z = if overflows kind z then Err Overflow else Ok (wrap kind z)

-- 1 where the test holds, and else 0
abbrev pub truth : Bool → ℤ
truth true = pos 1
truth false = pos 0

-- how far a shift by the number goes: from 0 up to below the width
unfoldable pub shift_count : IntKind → ℤ → Result ℕ ArithFault
shift_count kind (pos n) = if nat_lt n (width kind) then Ok n else Err ShiftCount
shift_count kind (negsuc n) = Err ShiftCount

-- the value shifted that far
abbrev pub shifted : Result ℕ ArithFault → (ℕ → ℤ) → Result ℤ ArithFault
shifted (Ok count) by = Ok (by count)
shifted (Err fault) by = Err fault

-- the bits moved up by the count, within the width; the quotient by 2 ^ count, rounded down
abbrev pub shifted_up : IntKind → ℤ → ℕ → ℤ
shifted_up kind a count = value_of kind (pattern kind a * 2 ^ count % 2 ^ width kind)

abbrev pub shifted_down : ℤ → ℕ → ℤ
shifted_down a count = int_div_euclid a (pos (2 ^ count))

unfoldable pub unary_result : ArithUnary → IntKind → ℤ → Result ℤ ArithFault
unary_result Plus kind a = Ok a
unary_result Minus kind a = fitted kind (neg_ℤ a)
unary_result Flip kind a = Ok (value_of kind (2 ^ width kind - 1 - pattern kind a))
unary_result Not kind a = Ok (truth (int_eq a (pos 0)))

-- the quotient is rounded toward zero, and the remainder has the dividend's sign
unfoldable pub binary_result : ArithBinary → IntKind → ℤ → ℤ → Result ℤ ArithFault
binary_result Add kind a b = fitted kind (a +ℤ b)
binary_result Sub kind a b = fitted kind (a -ℤ b)
binary_result Mul kind a b = fitted kind (a *ℤ b)
binary_result Div kind a b = if int_eq b (pos 0) then Err DivideByZero else fitted kind (int_div a b)
binary_result Rem kind a b =
    if int_eq b (pos 0) then Err DivideByZero else if overflows kind (int_div a b) then Err Overflow else Ok (int_rem a b)
binary_result Shl kind a b = shifted (shift_count kind b) (shifted_up kind a)
binary_result Shr kind a b = shifted (shift_count kind b) (shifted_down a)
binary_result And kind a b = Ok (value_of kind (bit_and (pattern kind a) (pattern kind b)))
binary_result Or kind a b = Ok (value_of kind (bit_or (pattern kind a) (pattern kind b)))
binary_result Xor kind a b = Ok (value_of kind (bit_xor (pattern kind a) (pattern kind b)))
binary_result Lt kind a b = Ok (truth (int_lt a b))
binary_result Gt kind a b = Ok (truth (int_lt b a))
binary_result Le kind a b = Ok (truth (int_le a b))
binary_result Ge kind a b = Ok (truth (int_le b a))
binary_result Eq kind a b = Ok (truth (int_eq a b))
binary_result Ne kind a b = Ok (truth (not (int_eq a b)))

-- ---- what a caller owes, and what it may rely on

-- the right operand of all but the shifts is a value of the kind
abbrev pub RightFits : ArithBinary → IntKind → ℤ → Type 0
RightFits Shl kind b = ⊤
RightFits Shr kind b = ⊤
RightFits _ kind b = InRange kind b

-- what a test gives
abbrev pub IsTruth : ℤ → Type 0
IsTruth z = (z ≡ pos 0) ⊎ (z ≡ pos 1)

-- the operators that give such a value
abbrev pub IsComparison : ArithBinary → Type 0
IsComparison Lt = ⊤
IsComparison Gt = ⊤
IsComparison Le = ⊤
IsComparison Ge = ⊤
IsComparison Eq = ⊤
IsComparison Ne = ⊤
IsComparison _ = ⊥

-- the quotient and the remainder: the remainder is smaller than the divisor, and has the dividend's sign
pub record IsDivision (a b quotient remainder : ℤ) : Type 0 where
  pub whole : a ≡ (quotient *ℤ b +ℤ remainder)
  pub smaller : unsigned_abs remainder < unsigned_abs b
  pub sign : (remainder ≡ pos 0) ⊎ (int_lt remainder (pos 0) ≡ int_lt a (pos 0))

-- what `/` and `%` give is the quotient or the remainder of such a division
abbrev pub Divides : ArithBinary → ℤ → ℤ → Result ℤ ArithFault → Type 0
Divides Div a b result = IfOk result (λ quotient. (remainder : ℤ) × IsDivision a b quotient remainder)
Divides Rem a b result = IfOk result (λ remainder. (quotient : ℤ) × IsDivision a b quotient remainder)
Divides _ a b result = ⊤
