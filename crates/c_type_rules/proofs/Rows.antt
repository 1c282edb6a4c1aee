-- Worked rows, from the standard's text and the tables of types.
use Rattle.std.proofs.Common.{◌≡◌, true, false, Some, None, [], ◌∷◌, refl}
use Rattle.c_base.specs.declared.place.IntKind.TheVariants.{Char, Short, Int, Long, UChar, UShort, UInt, ULong}
use Rattle.c_syntax.specs.Shape.{int, pointer, array, structure, nothing}
use Rattle.c_syntax.specs.declared.tree.BinaryOp.TheVariants as op
use Rattle.c_type_rules.specs.declared.kinds.Radix.TheVariants.{Octal, Decimal, Hexadecimal}
use Rattle.c_type_rules.specs.declared.extent.Align.TheVariants.{One, Two, Four, Eight}
use Rattle.c_type_rules.specs.Layouts.{known, incomplete, too_large, measure, structure_measure}
use Rattle.c_type_rules.specs.Kinds.{promote, meet, constant_type}
use Rattle.c_type_rules.specs.Verdicts.{fine, unknown, wrong, binary_type, truth_type, conditional_type, fits_type, assigned_type, probed_type, compound_type, step_type, promoted_type, target_type, element_type, address_type, size_type, cast_type}

-- ---- integers

unsigned_short_promotes : promote UShort ≡ Int
unsigned_short_promotes = refl

int_and_unsigned : meet Int UInt ≡ UInt
int_and_unsigned = refl

unsigned_and_long : meet UInt Long ≡ Long
unsigned_and_long = refl

long_and_unsigned_long : meet Long ULong ≡ ULong
long_and_unsigned_long = refl

two_characters : meet Char UChar ≡ Int
two_characters = refl

-- 2147483648, 0x80000000, 4294967296 as 040000000000, 1u, 4294967296u, 1l, 18446744073709551615, 1ul
decimal_passes_int : constant_type 2147483648 Decimal (record { unsigned = false; long = false }) ≡ Long
decimal_passes_int = refl

hexadecimal_passes_int : constant_type 2147483648 Hexadecimal (record { unsigned = false; long = false }) ≡ UInt
hexadecimal_passes_int = refl

octal_passes_unsigned : constant_type 4294967296 Octal (record { unsigned = false; long = false }) ≡ Long
octal_passes_unsigned = refl

unsigned_suffix : constant_type 1 Decimal (record { unsigned = true; long = false }) ≡ UInt
unsigned_suffix = refl

unsigned_passes : constant_type 4294967296 Decimal (record { unsigned = true; long = false }) ≡ ULong
unsigned_passes = refl

long_suffix : constant_type 1 Decimal (record { unsigned = false; long = true }) ≡ Long
long_suffix = refl

greatest_decimal : constant_type 18446744073709551615 Decimal (record { unsigned = false; long = false }) ≡ ULong
greatest_decimal = refl

both_suffixes : constant_type 1 Octal (record { unsigned = true; long = true }) ≡ ULong
both_suffixes = refl

-- ---- operators

-- int a[3], *p; a - p is a long, p - 1 a pointer, 1 - p wrong
array_less_pointer : binary_type op.Sub (Some (array (int Int) 3)) false (Some (pointer (int Int))) false ≡ fine (int Long)
array_less_pointer = refl

pointer_less_integer : binary_type op.Sub (Some (pointer (int Int))) false (Some (int Char)) false ≡ fine (pointer (int Int))
pointer_less_integer = refl

integer_less_pointer : binary_type op.Sub (Some (int Int)) false (Some (pointer (int Int))) false ≡ wrong
integer_less_pointer = refl

two_pointers_added : binary_type op.Add (Some (pointer (int Int))) false (Some (pointer (int Int))) false ≡ wrong
two_pointers_added = refl

-- the shifted operand alone counts
shifted_character : binary_type op.Shl (Some (int Char)) false (Some (int ULong)) false ≡ fine (int Int)
shifted_character = refl

other_pointers_compare : binary_type op.Lt (Some (pointer (int Int))) false (Some (pointer (int Char))) false ≡ wrong
other_pointers_compare = refl

-- p == 0 stands, p < 0 and p == 1 don't
pointer_equals_null : binary_type op.Eq (Some (pointer (int Int))) false (Some (int Int)) true ≡ fine (int Int)
pointer_equals_null = refl

pointer_below_null : binary_type op.Lt (Some (pointer (int Int))) false (Some (int Int)) true ≡ wrong
pointer_below_null = refl

pointer_equals_one : binary_type op.Eq (Some (pointer (int Int))) false (Some (int Int)) false ≡ wrong
pointer_equals_one = refl

complaint_inside : binary_type op.Mul None false (Some (structure 1)) false ≡ unknown
complaint_inside = refl

-- a structure is no test
structure_tested : truth_type (Some (structure 1)) ≡ wrong
structure_tested = refl

array_tested : truth_type (Some (array (int Int) 3)) ≡ fine (int Int)
array_tested = refl

-- c ? p : 0 is a pointer; c ? f() : g() of two voids is a void
null_branch : conditional_type (Some (int Int)) (Some (pointer (int Char))) false (Some (int Int)) true ≡ fine (pointer (int Char))
null_branch = refl

void_branches : conditional_type (Some (int Int)) (Some nothing) false (Some nothing) false ≡ fine nothing
void_branches = refl

void_and_integer : conditional_type (Some (int Int)) (Some nothing) false (Some (int Int)) false ≡ wrong
void_and_integer = refl

-- ---- what is stored

long_into_character : fits_type (Some (int Char)) (Some (int Long)) false ≡ fine (int Char)
long_into_character = refl

array_into_pointer : fits_type (Some (pointer (int Int))) (Some (array (int Int) 3)) false ≡ fine (pointer (int Int))
array_into_pointer = refl

null_into_void_pointer : fits_type (Some (pointer nothing)) (Some (int Int)) true ≡ fine (pointer nothing)
null_into_void_pointer = refl

pointer_into_void_pointer : fits_type (Some (pointer nothing)) (Some (pointer (int Int))) false ≡ wrong
pointer_into_void_pointer = refl

array_assigned : fits_type (Some (array (int Int) 3)) (Some (array (int Int) 3)) false ≡ wrong
array_assigned = refl

structure_given : fits_type (Some (structure 1)) (Some (structure 1)) false ≡ wrong
structure_given = refl

structure_assigned : assigned_type (Some (structure 1)) (Some (structure 1)) false true ≡ fine nothing
structure_assigned = refl

no_place_assigned : assigned_type (Some (structure 1)) (Some (structure 1)) false false ≡ wrong
no_place_assigned = refl

other_structure_assigned : assigned_type (Some (structure 1)) (Some (structure 2)) false true ≡ wrong
other_structure_assigned = refl

nothing_assigned : assigned_type (Some (structure 1)) (Some nothing) false false ≡ wrong
nothing_assigned = refl

structure_probed : probed_type true (Some (structure 1)) ≡ fine (structure 1)
structure_probed = refl

structure_unprobed : probed_type false (Some (structure 1)) ≡ wrong
structure_unprobed = refl

-- p += 1 is a pointer, i += p and p -= q and p *= 2 are wrong
pointer_moved : compound_type op.Add (Some (pointer (int Int))) (Some (int Long)) ≡ fine (pointer (int Int))
pointer_moved = refl

pointer_into_integer : compound_type op.Add (Some (int Int)) (Some (pointer (int Int))) ≡ wrong
pointer_into_integer = refl

pointer_taken_away : compound_type op.Sub (Some (pointer (int Int))) (Some (pointer (int Int))) ≡ wrong
pointer_taken_away = refl

character_multiplied : compound_type op.Mul (Some (int Char)) (Some (int Long)) ≡ fine (int Char)
character_multiplied = refl

array_stepped : step_type (Some (array (int Int) 3)) ≡ wrong
array_stepped = refl

-- ---- one operand

character_negated : promoted_type (Some (int Char)) ≡ fine (int Int)
character_negated = refl

element_of_rows : element_type (Some (array (array (int Int) 3) 2)) (Some (int Char)) ≡ fine (array (int Int) 3)
element_of_rows = refl

integer_indexed : element_type (Some (int Int)) (Some (array (int Char) 2)) ≡ fine (int Char)
integer_indexed = refl

void_pointed_to : target_type (Some (pointer nothing)) ≡ fine nothing
void_pointed_to = refl

address_of_array : address_type (Some (array (int Int) 3)) ≡ fine (pointer (array (int Int) 3))
address_of_array = refl

pointer_cast : cast_type (Some (pointer (int Int))) (Some (int Int)) ≡ wrong
pointer_cast = refl

structure_to_void : cast_type (Some nothing) (Some (structure 1)) ≡ fine nothing
structure_to_void = refl

size_of_void : size_type (Some nothing) ≡ wrong
size_of_void = refl

-- ---- room

short_room : measure [] (int UShort) ≡ known (record { size = 2; align = Two; cells = 1 })
short_room = refl

pointer_room : measure [] (pointer nothing) ≡ known (record { size = 8; align = Eight; cells = 1 })
pointer_room = refl

-- int a[2][3]
rows_room : measure [] (array (array (int Int) 3) 2) ≡ known (record { size = 24; align = Four; cells = 6 })
rows_room = refl

void_room : measure [] nothing ≡ incomplete
void_room = refl

-- struct { char c; long l; char d; }
padded_room : structure_measure [] (int Char ∷ int Long ∷ int Char ∷ []) ≡ known (record { size = 24; align = Eight; cells = 3 })
padded_room = refl

-- struct { short s; char c[3]; }
short_end_room : structure_measure [] (int Short ∷ array (int Char) 3 ∷ []) ≡ known (record { size = 6; align = Two; cells = 4 })
short_end_room = refl

-- the first structure in an array, over rows that know it; no structure has the number 0, and none the number 2
inner_room : measure (known (record { size = 6; align = Two; cells = 4 }) ∷ []) (array (structure 1) 2) ≡ known (record { size = 12; align = Two; cells = 8 })
inner_room = refl

no_structure : measure (known (record { size = 6; align = Two; cells = 4 }) ∷ []) (structure 0) ≡ incomplete
no_structure = refl

past_the_rows : measure (known (record { size = 6; align = Two; cells = 4 }) ∷ []) (structure 2) ≡ incomplete
past_the_rows = refl

-- a structure that names itself isn't complete yet
inside_itself : structure_measure (incomplete ∷ []) (int Int ∷ structure 1 ∷ []) ≡ incomplete
inside_itself = refl

-- the limit, one element more, and two halves with one more
most_cells : measure [] (array (int Char) 1048576) ≡ known (record { size = 1048576; align = One; cells = 1048576 })
most_cells = refl

one_cell_more : measure [] (array (int Char) 1048577) ≡ too_large
one_cell_more = refl

fields_too_large : structure_measure [] (array (int Char) 1048576 ∷ int Char ∷ []) ≡ too_large
fields_too_large = refl
