-- Worked values of the definitions.
use Rattle.std.proofs.Common.{◌≡◌, pos, negsuc, Ok, Err, refl}
use Rattle.c_base.specs.declared.place.IntKind.TheVariants.{Char, Int, Long, UInt, ULong}
use Rattle.c_arith.specs.declared.ArithUnary.TheVariants.{Minus, Flip}
use Rattle.c_arith.specs.declared.ArithBinary.TheVariants.{Add, Mul, Div, Rem, Shl, Shr, Xor}
use Rattle.c_arith.specs.declared.ArithFault.TheVariants.{DivideByZero, Overflow, ShiftCount}
use Rattle.c_arith.specs.Arith.{pattern, value_of, wrap, fitted, shift_count, unary_result, binary_result}

char_wraps : wrap Char (pos 300) ≡ pos 44
unfolding pattern value_of
char_wraps = refl

char_turns_negative : wrap Char (pos 200) ≡ negsuc 55
unfolding pattern value_of
char_turns_negative = refl

unsigned_wraps : wrap UInt (negsuc 0) ≡ pos 4294967295
unfolding pattern value_of
unsigned_wraps = refl

long_wraps : wrap Long (pos 18446744073709551615) ≡ negsuc 0
unfolding pattern value_of
long_wraps = refl

rounds_toward_zero : binary_result Div Int (negsuc 6) (pos 2) ≡ Ok (negsuc 2)
unfolding pattern value_of fitted binary_result
rounds_toward_zero = refl

dividend_sign : binary_result Rem Int (negsuc 6) (pos 2) ≡ Ok (negsuc 0)
unfolding binary_result
dividend_sign = refl

sign_kept : binary_result Shr Int (negsuc 0) (pos 1) ≡ Ok (negsuc 0)
unfolding shift_count binary_result
sign_kept = refl

top_bit : binary_result Shl Int (pos 1) (pos 31) ≡ Ok (negsuc 2147483647)
unfolding pattern value_of shift_count binary_result
top_bit = refl

count_of_width : binary_result Shl Int (pos 1) (pos 32) ≡ Err ShiftCount
unfolding shift_count binary_result
count_of_width = refl

least_over_minus_one : binary_result Div Int (negsuc 2147483647) (negsuc 0) ≡ Err Overflow
unfolding fitted binary_result
least_over_minus_one = refl

least_remainder : binary_result Rem Int (negsuc 2147483647) (negsuc 0) ≡ Err Overflow
unfolding binary_result
least_remainder = refl

no_divisor : binary_result Rem ULong (pos 1) (pos 0) ≡ Err DivideByZero
unfolding binary_result
no_divisor = refl

sum_overflows : binary_result Add Int (pos 2147483647) (pos 1) ≡ Err Overflow
unfolding fitted binary_result
sum_overflows = refl

sum_wraps : binary_result Add UInt (pos 4294967295) (pos 1) ≡ Ok (pos 0)
unfolding pattern value_of fitted binary_result
sum_wraps = refl

product_wraps : binary_result Mul ULong (pos 18446744073709551615) (pos 18446744073709551615) ≡ Ok (pos 1)
unfolding pattern value_of fitted binary_result
product_wraps = refl

negative_bits : binary_result Xor Int (negsuc 0) (pos 1) ≡ Ok (negsuc 1)
unfolding pattern value_of binary_result
negative_bits = refl

unsigned_minus : unary_result Minus UInt (pos 1) ≡ Ok (pos 4294967295)
unfolding pattern value_of fitted unary_result
unsigned_minus = refl

least_minus : unary_result Minus Long (negsuc 9223372036854775807) ≡ Err Overflow
unfolding fitted unary_result
least_minus = refl

flipped : unary_result Flip Int (pos 0) ≡ Ok (negsuc 0)
unfolding pattern value_of unary_result
flipped = refl

unsigned_flipped : unary_result Flip UInt (pos 0) ≡ Ok (pos 4294967295)
unfolding pattern value_of unary_result
unsigned_flipped = refl
