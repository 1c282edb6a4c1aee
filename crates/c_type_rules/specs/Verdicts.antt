-- What each operator makes of the types of its operands. Inner definitions speak of values, in which an array has become a pointer.
use Rattle.std.specs.Prelude.{Bool, true, false, nat_eq, ◌&&◌, ◌||◌, Option, Some, None, if◌then◌else◌}
use Rattle.c_base.specs.declared.place.IntKind.TheVariants.{Int, Long, ULong}
use Rattle.c_syntax.specs.Shape.{TypeOf, int, pointer, structure, nothing}
use Rattle.c_syntax.specs.View.{type_of}
use Rattle.c_syntax.specs.declared.tree.BinaryOp.{BinaryOp}
use Rattle.c_syntax.specs.declared.tree.BinaryOp.TheVariants as op
use Rattle.c_type_rules.specs.declared.judged.Judged.{Judged}
use Rattle.c_type_rules.specs.declared.judged.Judged.TheVariants.{Fine, Unknown, Wrong}
use Rattle.c_type_rules.specs.Kinds.{same_type, is_integer, is_scalar, is_structure, decay, promote, meet}

-- ---- verdicts

-- the type of the result; nothing, where an operand has a complaint inside; or that no such operands may stand there
pub data Verdict : Type 0 where
  fine : TypeOf → Verdict
  unknown : Verdict
  wrong : Verdict

abbrev pub verdict_of : Judged → Verdict
verdict_of (Fine t) = fine (type_of t)
verdict_of Unknown = unknown
verdict_of Wrong = wrong

-- the type, if the test holds
abbrev pub fine_if : Bool → TypeOf → Verdict
fine_if true t = fine t
fine_if false t = wrong

-- what goes on with the type that the verdict gives
abbrev pub on : Verdict → (TypeOf → Verdict) → Verdict
on (fine t) f = f t
on unknown f = unknown
on wrong f = wrong

-- an operator of operands of which each has a type: where one has none, nothing is known
abbrev pub with_one : (TypeOf → Verdict) → Option TypeOf → Verdict
with_one f None = unknown
with_one f (Some a) = f a

abbrev pub with_two : (TypeOf → TypeOf → Verdict) → Option TypeOf → Option TypeOf → Verdict
with_two f (Some a) (Some b) = f a b
with_two f _ _ = unknown

-- ---- two operands

-- the first is a null constant, and the second a pointer
abbrev pub null_for : Bool → TypeOf → TypeOf → Bool
null_for true (int k) (pointer t) = true
null_for _ _ _ = false

-- * / % & ^ |: integers, in the type where they meet
abbrev pub arithmetic_type : TypeOf → TypeOf → Verdict
arithmetic_type (int a) (int b) = fine (int (meet a b))
arithmetic_type _ _ = wrong

-- << >>: integers, in the type to which the left one is promoted
abbrev pub shift_type : TypeOf → TypeOf → Verdict
shift_type (int a) (int b) = fine (int (promote a))
shift_type _ _ = wrong

-- +: integers, or a pointer and an integer
abbrev pub sum_type : TypeOf → TypeOf → Verdict
sum_type (pointer t) (int k) = fine (pointer t)
sum_type (int k) (pointer t) = fine (pointer t)
sum_type a b = arithmetic_type a b

-- -: integers, a pointer less an integer, or two pointers to equal types, whose difference is a long
abbrev pub difference_type : TypeOf → TypeOf → Verdict
difference_type (pointer t) (int k) = fine (pointer t)
difference_type (pointer t) (pointer s) = fine_if (same_type t s) (int Long)
difference_type a b = arithmetic_type a b

-- < > <= >=: integers, or pointers to equal types; 0 or 1 as an int
abbrev pub order_type : TypeOf → TypeOf → Verdict
order_type (int a) (int b) = fine (int Int)
order_type (pointer t) (pointer s) = fine_if (same_type t s) (int Int)
order_type _ _ = wrong

-- == !=: also a pointer and a null constant; behind each type, whether it is that of a null constant
abbrev pub equality_type : TypeOf → Bool → TypeOf → Bool → Verdict
equality_type a m b n = if null_for m a b || null_for n b a then fine (int Int) else order_type a b

-- the operator between two values
abbrev pub values_type : BinaryOp → TypeOf → Bool → TypeOf → Bool → Verdict
values_type op.Mul a m b n = arithmetic_type a b
values_type op.Div a m b n = arithmetic_type a b
values_type op.Rem a m b n = arithmetic_type a b
values_type op.BitAnd a m b n = arithmetic_type a b
values_type op.BitXor a m b n = arithmetic_type a b
values_type op.BitOr a m b n = arithmetic_type a b
values_type op.Shl a m b n = shift_type a b
values_type op.Shr a m b n = shift_type a b
values_type op.Add a m b n = sum_type a b
values_type op.Sub a m b n = difference_type a b
values_type op.Lt a m b n = order_type a b
values_type op.Gt a m b n = order_type a b
values_type op.Le a m b n = order_type a b
values_type op.Ge a m b n = order_type a b
values_type op.Eq a m b n = equality_type a m b n
values_type op.Ne a m b n = equality_type a m b n

-- the operator between two operands, arrays among them
abbrev pub operator_type : BinaryOp → Bool → Bool → TypeOf → TypeOf → Verdict
operator_type o m n a b = values_type o (decay a) m (decay b) n

abbrev pub binary_type : BinaryOp → Option TypeOf → Bool → Option TypeOf → Bool → Verdict
binary_type o a m b n = with_two (operator_type o m n) a b

-- ---- truth

-- !, and what a test compares with 0: what may stand beside a null constant
abbrev pub truth_of : TypeOf → Verdict
truth_of a = equality_type (int Int) true (decay a) false

abbrev pub truth_type : Option TypeOf → Verdict
truth_type a = with_one truth_of a

-- && ||: both sides are tests
abbrev pub logical_type : Option TypeOf → Option TypeOf → Verdict
logical_type a b = with_two (λ x y. on (truth_of x) (λ t. truth_of y)) a b

-- ---- the conditional operator

-- integers, pointers to equal types, or two voids
abbrev pub alike_type : TypeOf → TypeOf → Verdict
alike_type (int a) (int b) = fine (int (meet a b))
alike_type (pointer t) (pointer s) = fine_if (same_type t s) (pointer t)
alike_type nothing nothing = fine nothing
alike_type _ _ = wrong

-- or a pointer and a null constant, which give the pointer's type
abbrev pub branches_type : TypeOf → Bool → TypeOf → Bool → Verdict
branches_type a m b n = if null_for m a b then fine b else if null_for n b a then fine a else alike_type a b

-- ?: a test, and then one of two values
abbrev pub conditional_type : Option TypeOf → Option TypeOf → Bool → Option TypeOf → Bool → Verdict
conditional_type test a m b n =
    with_one (λ t. with_two (λ x y. on (truth_of t) (λ u. branches_type (decay x) m (decay y) n)) a b) test

-- ---- what is stored

-- the value fits into an object of the first type, which is then the assignment's type: an integer into an integer, a pointer
-- of the equal type or a null constant into a pointer
abbrev pub stored_type : TypeOf → TypeOf → Bool → Verdict
stored_type (int k) b n = fine_if (is_integer b) (int k)
stored_type (pointer t) b n = fine_if (null_for n b (pointer t) || same_type (pointer t) b) (pointer t)
stored_type _ b n = wrong

abbrev pub fits_type : Option TypeOf → Option TypeOf → Bool → Verdict
fits_type to b n = with_two (λ t x. stored_type t (decay x) n) to b

-- one structure on both sides of `=`, of which the right one is a place, is copied (C89, 3.3.16.1)
abbrev pub is_copy : TypeOf → TypeOf → Bool → Bool
is_copy (structure m) (structure n) place = nat_eq m n && place
is_copy _ _ place = false

-- the type of `=`: a copy has no value
abbrev pub assigned_type : Option TypeOf → Option TypeOf → Bool → Bool → Verdict
assigned_type to b n place = with_two (λ t x. if is_copy t x place then fine nothing else stored_type t (decay x) n) to b

-- a op= b is a = a op b
abbrev pub changed_type : BinaryOp → TypeOf → TypeOf → Verdict
changed_type o a b = on (operator_type o false false a b) (λ t. stored_type a t false)

abbrev pub compound_type : BinaryOp → Option TypeOf → Option TypeOf → Verdict
compound_type o a b = with_two (changed_type o) a b

-- the operators that move a pointer along, and by what
abbrev pub moves : BinaryOp → TypeOf → Bool
moves op.Add b = is_integer b
moves op.Sub b = is_integer b
moves _ b = false

-- ++ -- add or take away an int of 1
abbrev pub step_type : Option TypeOf → Verdict
step_type a = with_one (λ t. changed_type op.Add t (int Int)) a

-- ---- one operand

-- + - ~: an integer, promoted
abbrev pub promoted_value : TypeOf → Verdict
promoted_value (int k) = fine (int (promote k))
promoted_value _ = wrong

abbrev pub promoted_type : Option TypeOf → Verdict
promoted_type a = with_one promoted_value a

-- *: what a pointer points to
abbrev pub target_of : TypeOf → Verdict
target_of (pointer t) = fine t
target_of _ = wrong

abbrev pub target_type : Option TypeOf → Verdict
target_type a = with_one (λ t. target_of (decay t)) a

-- a[b] is *(a + b)
abbrev pub element_type : Option TypeOf → Option TypeOf → Verdict
element_type a b = with_two (λ x y. on (sum_type (decay x) (decay y)) target_of) a b

-- &: a pointer to the place, which holds something; an array stays one
abbrev pub address_of : TypeOf → Verdict
address_of nothing = wrong
address_of t = fine (pointer t)

abbrev pub address_type : Option TypeOf → Verdict
address_type a = with_one address_of a

-- the structure before a point
abbrev pub structure_of : TypeOf → Verdict
structure_of (structure n) = fine (structure n)
structure_of _ = wrong

abbrev pub structure_type : Option TypeOf → Verdict
structure_type a = with_one structure_of a

-- a->f is (*a).f
abbrev pub pointed_type : Option TypeOf → Verdict
pointed_type a = with_one (λ t. on (target_of (decay t)) structure_of) a

-- sizeof: of anything but a void
abbrev pub size_of_type : TypeOf → Verdict
size_of_type nothing = wrong
size_of_type t = fine (int ULong)

abbrev pub size_type : Option TypeOf → Verdict
size_type a = with_one size_of_type a

-- a cast: an integer to an integer, anything to void
abbrev pub turned_type : TypeOf → TypeOf → Verdict
turned_type (int k) (int j) = fine (int k)
turned_type nothing a = fine nothing
turned_type _ _ = wrong

abbrev pub cast_type : Option TypeOf → Option TypeOf → Verdict
cast_type to a = with_two turned_type to a

-- ---- places and declarations

-- a place that holds an integer or a pointer
abbrev pub scalar_type : Option TypeOf → Verdict
scalar_type a = with_one (λ t. fine_if (is_scalar t) t) a

-- what the probes of uses and definitions stand round: a scalar, and a structure where it is copied
abbrev pub is_probed : Bool → TypeOf → Bool
is_probed copied t = is_scalar t || copied && is_structure t

abbrev pub probed_type : Bool → Option TypeOf → Verdict
probed_type copied a = with_one (λ t. fine_if (is_probed copied t) t) a

-- a parameter: an array is a pointer to its element; then a scalar
abbrev pub parameter_type : Option TypeOf → Verdict
parameter_type a = with_one (λ t. fine_if (is_scalar (decay t)) (decay t)) a

-- what a function gives: a scalar, or nothing
abbrev pub given_of : TypeOf → Verdict
given_of nothing = fine nothing
given_of t = fine_if (is_scalar t) t

abbrev pub result_type : Option TypeOf → Verdict
result_type a = with_one given_of a
