-- Worked rows, from the language's text.
use Rattle.std.proofs.Common.{◌≡◌, pos, negsuc, true, false, Some, None, [], ◌∷◌, codes, replicate, refl}
use Rattle.c_base.specs.declared.place.IntKind.TheVariants as kind
use Rattle.c_arith.specs.Arith.{pattern, value_of, fitted, shift_count, unary_result, binary_result}
use Rattle.c_syntax.specs.Shape.{int, pointer, array}
use Rattle.c_syntax.specs.declared.tree.UnaryOp.TheVariants as front
use Rattle.c_syntax.specs.declared.tree.BinaryOp.TheVariants as op
use Rattle.c_syntax.specs.declared.token.Key.TheVariants as key
use Rattle.c_constants.specs.declared.constants.Constant.TheVariants.{No, Faulty, Known, Variable, Part, Address}
use Rattle.c_constants.specs.declared.words.Base.TheVariants as base
use Rattle.c_constants.specs.Constants.{character, unary, binary, both, either, choice, cast, probed, element, field, initialises}
use Rattle.c_constants.specs.Numbers.{number_of}
use Rattle.c_constants.specs.Words.{none, all_added, tagged, base_of}
use Rattle.c_constants.specs.Probes.{probe_number_of, digest_of}

-- ---- numbers

decimal_int : number_of (codes "2147483647") ≡ Some (record { value = 2147483647; kind = kind.Int })
decimal_int = refl

decimal_passes_int : number_of (codes "2147483648") ≡ Some (record { value = 2147483648; kind = kind.Long })
decimal_passes_int = refl

decimal_is_never_unsigned_int : number_of (codes "4294967295") ≡ Some (record { value = 4294967295; kind = kind.Long })
decimal_is_never_unsigned_int = refl

hexadecimal_int : number_of (codes "0x7fffffff") ≡ Some (record { value = 2147483647; kind = kind.Int })
hexadecimal_int = refl

hexadecimal_unsigned : number_of (codes "0XFFFFffff") ≡ Some (record { value = 4294967295; kind = kind.UInt })
hexadecimal_unsigned = refl

hexadecimal_long : number_of (codes "0x100000000") ≡ Some (record { value = 4294967296; kind = kind.Long })
hexadecimal_long = refl

octal : number_of (codes "0377") ≡ Some (record { value = 255; kind = kind.Int })
octal = refl

octal_unsigned : number_of (codes "020000000000") ≡ Some (record { value = 2147483648; kind = kind.UInt })
octal_unsigned = refl

zero : number_of (codes "0") ≡ Some (record { value = 0; kind = kind.Int })
zero = refl

unsigned_suffix : number_of (codes "1u") ≡ Some (record { value = 1; kind = kind.UInt })
unsigned_suffix = refl

unsigned_passes : number_of (codes "4294967296U") ≡ Some (record { value = 4294967296; kind = kind.ULong })
unsigned_passes = refl

long_suffix : number_of (codes "1l") ≡ Some (record { value = 1; kind = kind.Long })
long_suffix = refl

both_suffixes : number_of (codes "1ul") ≡ Some (record { value = 1; kind = kind.ULong })
both_suffixes = refl

suffixes_turned : number_of (codes "0x1LU") ≡ Some (record { value = 1; kind = kind.ULong })
suffixes_turned = refl

greatest_long : number_of (codes "9223372036854775807") ≡ Some (record { value = 9223372036854775807; kind = kind.Long })
greatest_long = refl

greatest_number : number_of (codes "18446744073709551615") ≡ Some (record { value = 18446744073709551615; kind = kind.ULong })
greatest_number = refl

number_too_large : number_of (codes "18446744073709551616") ≡ None
number_too_large = refl

octal_eight : number_of (codes "08") ≡ None
octal_eight = refl

no_hexadecimal_digit : number_of (codes "0x") ≡ None
no_hexadecimal_digit = refl

two_unsigned : number_of (codes "1uu") ≡ None
two_unsigned = refl

two_longs : number_of (codes "1ll") ≡ None
two_longs = refl

no_integer : number_of (codes "1.5") ≡ None
no_integer = refl

-- ---- operators

-- '\377' is -1
signed_character : character 255 ≡ Known kind.Int (negsuc 0)
unfolding pattern value_of
signed_character = refl

character_equals : binary op.Eq (character 255) (Known kind.Int (negsuc 0)) ≡ Known kind.Int (pos 1)
unfolding pattern value_of binary_result
character_equals = refl

-- the least int by -1, and its negative
least_divided : binary op.Div (Known kind.Int (negsuc 2147483647)) (Known kind.Int (negsuc 0)) ≡ Faulty kind.Int
unfolding pattern value_of fitted binary_result
least_divided = refl

least_remainder : binary op.Rem (Known kind.Int (negsuc 2147483647)) (Known kind.Int (negsuc 0)) ≡ Faulty kind.Int
unfolding pattern value_of fitted binary_result
least_remainder = refl

least_negated : unary front.Minus (Known kind.Int (negsuc 2147483647)) ≡ Faulty kind.Int
unfolding pattern value_of fitted unary_result
least_negated = refl

-- - 2147483648 is a long
long_negated : unary front.Minus (Known kind.Long (pos 2147483648)) ≡ Known kind.Long (negsuc 2147483647)
unfolding pattern value_of fitted unary_result
long_negated = refl

-- -1 < 0u is 0, as -1 is the greatest unsigned int there
minus_one_below_unsigned : binary op.Lt (Known kind.Int (negsuc 0)) (Known kind.UInt (pos 0)) ≡ Known kind.Int (pos 0)
unfolding pattern value_of binary_result
minus_one_below_unsigned = refl

-- but -1 < 0u converted to long is 1
minus_one_below_long : binary op.Lt (Known kind.Long (negsuc 0)) (Known kind.UInt (pos 0)) ≡ Known kind.Int (pos 1)
unfolding pattern value_of binary_result
minus_one_below_long = refl

-- a shift has the left one's type, and its count stays as it is
shifted_by_unsigned_long : binary op.Shl (Known kind.Int (pos 1)) (Known kind.ULong (pos 3)) ≡ Known kind.Int (pos 8)
unfolding pattern value_of shift_count binary_result
shifted_by_unsigned_long = refl

shifted_by_more_than_bits : binary op.Shl (Known kind.Int (pos 1)) (Known kind.Long (pos 4294967296)) ≡ Faulty kind.Int
unfolding pattern value_of shift_count binary_result
shifted_by_more_than_bits = refl

-- ~0u, ! of a long
flipped : unary front.Flip (Known kind.UInt (pos 0)) ≡ Known kind.UInt (pos 4294967295)
unfolding pattern value_of unary_result
flipped = refl

not_is_int : unary front.Not (Known kind.Long (pos 5)) ≡ Known kind.Int (pos 0)
unfolding pattern value_of unary_result
not_is_int = refl

character_promoted : unary front.Plus (Known kind.Char (negsuc 0)) ≡ Known kind.Int (negsuc 0)
unfolding pattern value_of unary_result
character_promoted = refl

fault_negated : unary front.Not (Faulty kind.ULong) ≡ Faulty kind.Int
fault_negated = refl

fault_compared : binary op.Eq (Faulty kind.Long) (Known kind.Int (pos 0)) ≡ Faulty kind.Int
fault_compared = refl

fault_added : binary op.Add (Known kind.Int (pos 0)) (Faulty kind.Long) ≡ Faulty kind.Long
fault_added = refl

variable_added : binary op.Add Variable (Known kind.Int (pos 0)) ≡ No
variable_added = refl

-- ---- only what is needed

-- 0 && (1 / 0), 1 && (1 / 0), (1 / 0) && 0
zero_and_fault : both (Known kind.Int (pos 0)) (Faulty kind.Int) ≡ Known kind.Int (pos 0)
zero_and_fault = refl

one_and_fault : both (Known kind.Int (pos 1)) (Faulty kind.Int) ≡ Faulty kind.Int
one_and_fault = refl

fault_and_zero : both (Faulty kind.Int) (Known kind.Int (pos 0)) ≡ Faulty kind.Int
fault_and_zero = refl

two_and_three : both (Known kind.Long (pos 2)) (Known kind.Char (pos 3)) ≡ Known kind.Int (pos 1)
two_and_three = refl

zero_and_variable : both (Known kind.Int (pos 0)) Variable ≡ No
zero_and_variable = refl

two_or_fault : either (Known kind.Int (pos 2)) (Faulty kind.Int) ≡ Known kind.Int (pos 1)
two_or_fault = refl

zero_or_fault : either (Known kind.Int (pos 0)) (Faulty kind.Int) ≡ Faulty kind.Int
zero_or_fault = refl

zero_or_three : either (Known kind.Int (pos 0)) (Known kind.Int (pos 3)) ≡ Known kind.Int (pos 1)
zero_or_three = refl

-- 1 ? -1 : 0u
minus_one_meets_unsigned : choice (Known kind.Int (pos 1)) (Known kind.Int (negsuc 0)) (Known kind.UInt (pos 0)) ≡ Known kind.UInt (pos 4294967295)
unfolding pattern value_of
minus_one_meets_unsigned = refl

-- 0 ? (1 / 0) : 7, where (1 / 0) is a long
other_fault : choice (Known kind.Int (pos 0)) (Faulty kind.Long) (Known kind.Int (pos 7)) ≡ Known kind.Long (pos 7)
unfolding pattern value_of
other_fault = refl

chosen_fault : choice (Known kind.Int (pos 1)) (Faulty kind.Long) (Known kind.Int (pos 7)) ≡ Faulty kind.Long
chosen_fault = refl

tested_fault : choice (Faulty kind.Long) (Known kind.Int (pos 1)) (Known kind.UInt (pos 7)) ≡ Faulty kind.UInt
tested_fault = refl

-- ---- casts, probes and places

narrowed : cast (int kind.Char) (Known kind.Int (pos 200)) ≡ Known kind.Char (negsuc 55)
unfolding pattern value_of
narrowed = refl

cast_fault : cast (int kind.Char) (Faulty kind.Long) ≡ Faulty kind.Char
cast_fault = refl

cast_to_pointer : cast (pointer (int kind.Int)) (Known kind.Int (pos 0)) ≡ No
cast_to_pointer = refl

probed_place : probed Variable ≡ No
probed_place = refl

-- int a[3]: a[2], 2[a], a[3], a[-1]
last_element : element (array (int kind.Int) 3) Variable (int kind.Int) (Known kind.Int (pos 2)) ≡ Part
last_element = refl

element_turned : element (int kind.Int) (Known kind.Int (pos 2)) (array (int kind.Int) 3) Part ≡ Part
element_turned = refl

index_of_length : element (array (int kind.Int) 3) Variable (int kind.Int) (Known kind.Int (pos 3)) ≡ No
index_of_length = refl

index_below : element (array (int kind.Int) 3) Variable (int kind.Int) (Known kind.Int (negsuc 0)) ≡ No
index_below = refl

pointer_index : element (pointer (int kind.Int)) Variable (int kind.Int) (Known kind.Int (pos 0)) ≡ No
pointer_index = refl

part_address : unary front.AddressOf (field Variable) ≡ Address
part_address = refl

address_target : unary front.Deref Address ≡ No
address_target = refl

-- the name of an array is an initialiser, that of an int or an array inside one isn't
array_name : initialises (array (int kind.Int) 3) Variable ≡ true
array_name = refl

int_name : initialises (int kind.Int) Variable ≡ false
int_name = refl

inner_array : initialises (array (int kind.Int) 3) Part ≡ false
inner_array = refl

faulty_initialiser : initialises (int kind.Int) (Faulty kind.Int) ≡ false
faulty_initialiser = refl

-- ---- specifiers

void : base_of (all_added none (key.Void ∷ [])) ≡ base.Void
void = refl

const_unsigned : base_of (all_added none (key.Const ∷ key.Static ∷ key.Unsigned ∷ [])) ≡ base.Int kind.UInt
const_unsigned = refl

signed_character_word : base_of (all_added none (key.Char ∷ key.Signed ∷ [])) ≡ base.Int kind.Char
signed_character_word = refl

unsigned_character_word : base_of (all_added none (key.Unsigned ∷ key.Char ∷ [])) ≡ base.Int kind.UChar
unsigned_character_word = refl

signed_short_int : base_of (all_added none (key.Int ∷ key.Signed ∷ key.Short ∷ [])) ≡ base.Int kind.Short
signed_short_int = refl

unsigned_short : base_of (all_added none (key.Short ∷ key.Unsigned ∷ [])) ≡ base.Int kind.UShort
unsigned_short = refl

signed_alone : base_of (all_added none (key.Signed ∷ [])) ≡ base.Int kind.Int
signed_alone = refl

long_int : base_of (all_added none (key.Long ∷ key.Int ∷ [])) ≡ base.Int kind.Long
long_int = refl

unsigned_long_int : base_of (all_added none (key.Int ∷ key.Long ∷ key.Unsigned ∷ [])) ≡ base.Int kind.ULong
unsigned_long_int = refl

one_structure : base_of (tagged (all_added none (key.Const ∷ []))) ≡ base.Tagged
one_structure = refl

no_word : base_of (all_added none (key.Const ∷ [])) ≡ base.Wrong
no_word = refl

long_long : base_of (all_added none (key.Long ∷ key.Long ∷ [])) ≡ base.Wrong
long_long = refl

int_int : base_of (all_added none (key.Int ∷ key.Int ∷ [])) ≡ base.Wrong
int_int = refl

short_long : base_of (all_added none (key.Short ∷ key.Long ∷ [])) ≡ base.Wrong
short_long = refl

signed_unsigned : base_of (all_added none (key.Signed ∷ key.Unsigned ∷ [])) ≡ base.Wrong
signed_unsigned = refl

long_character : base_of (all_added none (key.Long ∷ key.Char ∷ [])) ≡ base.Wrong
long_character = refl

unsigned_void : base_of (all_added none (key.Unsigned ∷ key.Void ∷ [])) ≡ base.Wrong
unsigned_void = refl

structure_and_int : base_of (tagged (all_added none (key.Int ∷ []))) ≡ base.Wrong
structure_and_int = refl

two_structures : base_of (tagged (tagged none)) ≡ base.Wrong
two_structures = refl

-- ---- probes

first_probe : probe_number_of (codes "1") ≡ Some 1
first_probe = refl

last_probe : probe_number_of (codes "16383") ≡ Some 16383
last_probe = refl

probe_too_large : probe_number_of (codes "16384") ≡ None
probe_too_large = refl

probe_zero : probe_number_of (codes "0") ≡ None
probe_zero = refl

probe_octal : probe_number_of (codes "01") ≡ None
probe_octal = refl

probe_suffix : probe_number_of (codes "1u") ≡ None
probe_suffix = refl

probe_hexadecimal : probe_number_of (codes "0x1") ≡ None
probe_hexadecimal = refl

-- the first bytes 0, 1, 15, 16, 171, 255, and then the byte 9
whole_digest : digest_of (codes "00010f10abff0909090909090909090909090909090909090909090909090909") ≡ Some (0 ∷ 1 ∷ 15 ∷ 16 ∷ 171 ∷ 255 ∷ replicate 26 9)
whole_digest = refl

upper_case_digest : digest_of (codes "00010F10abff0909090909090909090909090909090909090909090909090909") ≡ None
upper_case_digest = refl

short_digest : digest_of (codes "00010f10abff09090909090909090909090909090909090909090909090909") ≡ None
short_digest = refl

long_digest : digest_of (codes "00010f10abff090909090909090909090909090909090909090909090909090909") ≡ None
long_digest = refl

no_digest : digest_of [] ≡ None
no_digest = refl
