-- What is known of an expression before the program runs. A constant expression has a type, and a value where its evaluation meets no fault.
use Rattle.std.specs.Prelude.{ℕ, ℤ, pos, Bool, true, false, not, ◌&&◌, ◌||◌, int_lt, int_le, Option, Some, None, option_map, option_and_then, ⊤, if◌then◌else◌}
use Rattle.std.specs.Ordering.{int_eq}
use Rattle.std.specs.Result.{result_ok}
use Rattle.c_base.specs.declared.place.IntKind.{IntKind}
use Rattle.c_base.specs.declared.place.IntKind.TheVariants.{Char, Int}
use Rattle.c_arith.specs.declared.ArithUnary.{ArithUnary}
use Rattle.c_arith.specs.declared.ArithUnary.TheVariants as one
use Rattle.c_arith.specs.declared.ArithBinary.{ArithBinary}
use Rattle.c_arith.specs.declared.ArithBinary.TheVariants as two
use Rattle.c_arith.specs.Arith.{InRange, wrap, truth, unary_result, binary_result}
use Rattle.c_type_rules.specs.Kinds.{promote, meet}
use Rattle.c_syntax.specs.Shape.{TypeOf, int, array}
use Rattle.c_syntax.specs.declared.tree.UnaryOp.{UnaryOp}
use Rattle.c_syntax.specs.declared.tree.UnaryOp.TheVariants as front
use Rattle.c_syntax.specs.declared.tree.BinaryOp.{BinaryOp}
use Rattle.c_syntax.specs.declared.tree.BinaryOp.TheVariants as op
use Rattle.c_constants.specs.declared.constants.Constant.{Constant}
use Rattle.c_constants.specs.declared.constants.Constant.TheVariants.{No, Faulty, Known, Variable, Part, Address, Literal}

-- ---- constant expressions

-- the type, if it is one
abbrev pub kind_of : Constant → Option IntKind
kind_of (Known k v) = Some k
kind_of (Faulty k) = Some k
kind_of _ = None

-- the value, if its evaluation meets no fault
abbrev pub value : Constant → Option ℤ
value (Known k v) = Some v
value _ = None

-- the value in that type; without one a fault
abbrev pub given : IntKind → Option ℤ → Constant
given k (Some v) = Known k v
given k None = Faulty k

-- what comes of one, of two or of three that are constant expressions, by their types
abbrev pub with_one : Option IntKind → (IntKind → Constant) → Constant
with_one (Some k) f = f k
with_one None f = No

abbrev pub with_two : Option IntKind → Option IntKind → (IntKind → IntKind → Constant) → Constant
with_two (Some j) (Some k) f = f j k
with_two _ _ f = No

-- of two values, if both are there
abbrev pub of_both : (ℤ → ℤ → Option ℤ) → Option ℤ → Option ℤ → Option ℤ
of_both f (Some x) (Some y) = f x y
of_both f _ _ = None

abbrev pub is_zero : ℤ → Bool
is_zero x = int_eq x (pos 0)

-- the value 0
abbrev pub is_null : Constant → Bool
is_null (Known k v) = is_zero v
is_null _ = false

-- a character constant: the byte as a signed char
abbrev pub character : ℕ → Constant
character b = Known Int (wrap Char (pos b))

-- a known value is one of its type
abbrev pub Holds : Constant → Type 0
Holds (Known k v) = InRange k v
Holds _ = ⊤

-- ---- + - ~ !

-- they compute in the promoted type, and `!` gives an int
abbrev pub unary_kind : ArithUnary → IntKind → IntKind
unary_kind one.Not k = Int
unary_kind _ k = promote k

abbrev pub unary_value : ArithUnary → IntKind → ℤ → Option ℤ
unary_value o k x = result_ok (unary_result o k (wrap k x))

abbrev pub arithmetic : ArithUnary → Constant → Constant
arithmetic o a = with_one (kind_of a) (λ k. given (unary_kind o k) (option_and_then (unary_value o (promote k)) (value a)))

-- the address of a variable or a part
abbrev pub address : Constant → Constant
address Variable = Address
address Part = Address
address _ = No

abbrev pub unary : UnaryOp → Constant → Constant
unary front.Plus a = arithmetic one.Plus a
unary front.Minus a = arithmetic one.Minus a
unary front.Flip a = arithmetic one.Flip a
unary front.Not a = arithmetic one.Not a
unary front.AddressOf a = address a
unary front.Deref a = No

-- ---- between two operands

abbrev pub arith_of : BinaryOp → ArithBinary
arith_of op.Mul = two.Mul
arith_of op.Div = two.Div
arith_of op.Rem = two.Rem
arith_of op.Add = two.Add
arith_of op.Sub = two.Sub
arith_of op.Shl = two.Shl
arith_of op.Shr = two.Shr
arith_of op.Lt = two.Lt
arith_of op.Gt = two.Gt
arith_of op.Le = two.Le
arith_of op.Ge = two.Ge
arith_of op.Eq = two.Eq
arith_of op.Ne = two.Ne
arith_of op.BitAnd = two.And
arith_of op.BitXor = two.Xor
arith_of op.BitOr = two.Or

abbrev pub is_shift : BinaryOp → Bool
is_shift op.Shl = true
is_shift op.Shr = true
is_shift _ = false

abbrev pub is_comparison : BinaryOp → Bool
is_comparison op.Lt = true
is_comparison op.Gt = true
is_comparison op.Le = true
is_comparison op.Ge = true
is_comparison op.Eq = true
is_comparison op.Ne = true
is_comparison _ = false

-- the type in which it computes: where the operands meet; for a shift the left one's, promoted
abbrev pub computing_kind : BinaryOp → IntKind → IntKind → IntKind
computing_kind o j k = if is_shift o then promote j else meet j k

-- comparisons give an int
abbrev pub result_kind : BinaryOp → IntKind → IntKind → IntKind
result_kind o j k = if is_comparison o then Int else computing_kind o j k

-- the right operand: how far a shift goes stays as it is
abbrev pub right_operand : BinaryOp → IntKind → ℤ → ℤ
right_operand o k y = if is_shift o then y else wrap k y

abbrev pub binary_value : BinaryOp → IntKind → ℤ → ℤ → Option ℤ
binary_value o k x y = result_ok (binary_result (arith_of o) k (wrap k x) (right_operand o k y))

abbrev pub binary : BinaryOp → Constant → Constant → Constant
binary o a b =
    with_two (kind_of a) (kind_of b) (λ j k. given (result_kind o j k) (of_both (binary_value o (computing_kind o j k)) (value a) (value b)))

-- ---- evaluated only as far as needed

-- 1 for another value than 0
abbrev pub truth_value : ℤ → ℤ
truth_value x = truth (not (is_zero x))

abbrev pub both : Constant → Constant → Constant
both a b =
    with_two (kind_of a) (kind_of b) (λ j k. given Int (option_and_then (λ x. if is_zero x then Some (pos 0) else option_map truth_value (value b)) (value a)))

abbrev pub either : Constant → Constant → Constant
either a b =
    with_two (kind_of a) (kind_of b) (λ j k. given Int (option_and_then (λ x. if is_zero x then option_map truth_value (value b) else Some (pos 1)) (value a)))

-- the second operand where the test isn't 0, else the third, converted to the type where the two meet
abbrev pub choice : Constant → Constant → Constant → Constant
choice test a b =
    with_one (kind_of test) (λ i. with_two (kind_of a) (kind_of b) (λ j k. given (meet j k) (option_and_then (λ x. option_map (wrap (meet j k)) (if is_zero x then value b else value a)) (value test))))

-- ---- casts, probes and places

abbrev pub cast : TypeOf → Constant → Constant
cast (int k) a = with_one (kind_of a) (λ j. given k (option_map (wrap k) (value a)))
cast _ a = No

-- under a probe of a block or a test a constant expression stays one
abbrev pub probed : Constant → Constant
probed (Known k v) = Known k v
probed (Faulty k) = Faulty k
probed _ = No

-- a file-scope variable, or a part of one
abbrev pub is_place : Constant → Bool
is_place Variable = true
is_place Part = true
is_place _ = false

abbrev pub is_index : ℕ → Option ℤ → Bool
is_index n (Some i) = int_le (pos 0) i && int_lt i (pos n)
is_index n None = false

-- the first is an array's place, and the second an index below its length
abbrev pub reaches : TypeOf → Constant → Constant → Bool
reaches (array t n) a i = is_place a && is_index n (value i)
reaches _ a i = false

-- behind each operand's type the operand: a[b], in either order
abbrev pub element : TypeOf → Constant → TypeOf → Constant → Constant
element left a right b = if reaches left a b || reaches right b a then Part else No

abbrev pub field : Constant → Constant
field a = if is_place a then Part else No

abbrev pub is_array : TypeOf → Bool
is_array (array t n) = true
is_array _ = false

-- a constant initialiser
abbrev pub initialises : TypeOf → Constant → Bool
initialises t (Known k v) = true
initialises t Address = true
initialises t Literal = true
initialises t Variable = is_array t
initialises t _ = false
