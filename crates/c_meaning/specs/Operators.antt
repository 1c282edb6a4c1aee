-- What the operators make of values (C89, 3.3), by the types of their operands. An array as an operand has become a pointer.
use Rattle.std.specs.Prelude.{ℤ, pos, neg_ℤ, Bool, true, false, not, Option, Some, None, Result, Ok, Err}
use Rattle.c_base.specs.declared.place.IntKind.{IntKind}
use Rattle.c_base.specs.declared.place.IntKind.TheVariants.{Int as AnInt}
use Rattle.c_arith.specs.declared.ArithUnary.{ArithUnary}
use Rattle.c_arith.specs.declared.ArithUnary.TheVariants as one
use Rattle.c_arith.specs.declared.ArithFault.{ArithFault}
use Rattle.c_arith.specs.declared.ArithFault.TheVariants as arith
use Rattle.c_arith.specs.Arith.{wrap, truth, unary_result, binary_result}
use Rattle.c_syntax.specs.declared.tree.UnaryOp.{UnaryOp}
use Rattle.c_syntax.specs.declared.tree.UnaryOp.TheVariants as front
use Rattle.c_syntax.specs.declared.tree.BinaryOp.{BinaryOp}
use Rattle.c_syntax.specs.declared.tree.BinaryOp.TheVariants as op
use Rattle.c_syntax.specs.Shape.{TypeOf, int, pointer, nothing, Step, up, down}
use Rattle.c_type_rules.specs.Kinds.{promote}
use Rattle.c_constants.specs.Constants.{is_zero, arith_of, computing_kind, right_operand}
use Rattle.c_store.specs.declared.value.Value.{Value}
use Rattle.c_store.specs.declared.value.Value.TheVariants.{Int, Null, At}
use Rattle.c_store.specs.declared.value.Pointer.{Pointer}
use Rattle.c_store.specs.declared.value.Order.{Order}
use Rattle.c_store.specs.declared.value.Order.TheVariants as order
use Rattle.c_store.specs.declared.value.Fault.{Fault}
use Rattle.c_store.specs.declared.value.Fault.TheVariants as fault
use Rattle.c_store.specs.Cells.{stepped, differed, compared}

abbrev pub fault_of : ArithFault → Fault
fault_of arith.DivideByZero = fault.DivideByZero
fault_of arith.Overflow = fault.Overflow
fault_of arith.ShiftCount = fault.ShiftCount

-- an integer, or the fault of the arithmetic
abbrev pub integer : Result ℤ ArithFault → Result Value Fault
integer (Ok z) = Ok (Int z)
integer (Err f) = Err (fault_of f)

abbrev pub whether : Result Bool Fault → Result Value Fault
whether (Ok b) = Ok (Int (truth b))
whether (Err f) = Err f

abbrev pub distance : Result ℤ Fault → Result Value Fault
distance (Ok z) = Ok (Int z)
distance (Err f) = Err f

-- ---- conversion and truth

-- to the type: an integer modulo 2 to its width (C89, 3.2.1.2), a null constant to a null pointer (3.2.2.3)
abbrev pub converted : TypeOf → Value → Value
converted (int k) (Int z) = Int (wrap k z)
converted (pointer t) (Int z) = Null
converted t v = v

-- it compares unequal to 0
abbrev pub is_true : Value → Bool
is_true (Int z) = not (is_zero z)
is_true Null = false
is_true (At p) = true

-- ---- two operands

abbrev pub of_integers : BinaryOp → IntKind → IntKind → ℤ → ℤ → Result Value Fault
of_integers u j k x y =
    integer (binary_result (arith_of u) (computing_kind u j k) (wrap (computing_kind u j k) x) (right_operand u (computing_kind u j k) y))

abbrev pub order_of : BinaryOp → Option Order
order_of op.Lt = Some order.Lt
order_of op.Gt = Some order.Gt
order_of op.Le = Some order.Le
order_of op.Ge = Some order.Ge
order_of op.Eq = Some order.Eq
order_of op.Ne = Some order.Ne
order_of u = None

-- of two pointers, of which one may be a null constant
abbrev pub by_order : Option Order → Value → Value → Result Value Fault
by_order (Some o) v w = whether (compared o v w)
by_order None v w = Err fault.NoResult

abbrev pub of_pointers : BinaryOp → Value → Value → Result Value Fault
of_pointers op.Sub v w = distance (differed v w)
of_pointers u v w = by_order (order_of u) v w

-- a pointer moved along by an integer, or compared with a null constant
abbrev pub of_pointer_and_integer : BinaryOp → TypeOf → Value → Value → Result Value Fault
of_pointer_and_integer op.Add t v (Int n) = stepped v n
of_pointer_and_integer op.Sub t v (Int n) = stepped v (neg_ℤ n)
of_pointer_and_integer u t v w = by_order (order_of u) v (converted t w)

abbrev pub of_integer_and_pointer : BinaryOp → TypeOf → Value → Value → Result Value Fault
of_integer_and_pointer op.Add t (Int n) w = stepped w n
of_integer_and_pointer u t v w = by_order (order_of u) (converted t v) w

abbrev pub operated : BinaryOp → TypeOf → TypeOf → Value → Value → Result Value Fault
operated u (int j) (int k) (Int x) (Int y) = of_integers u j k x y
operated u (pointer a) (pointer b) v w = of_pointers u v w
operated u (pointer a) (int k) v w = of_pointer_and_integer u (pointer a) v w
operated u (int j) (pointer b) v w = of_integer_and_pointer u (pointer b) v w
operated u a b v w = Err fault.NoResult

-- ++ and -- add 1 or take it away
abbrev pub step_operator : Step → BinaryOp
step_operator up = op.Add
step_operator down = op.Sub

abbrev pub stepped_by_one : Step → TypeOf → Value → Result Value Fault
stepped_by_one u t v = operated (step_operator u) t (int AnInt) v (Int (pos 1))

-- an element: a pointer and an integer, in either order
abbrev pub element_pointer : TypeOf → TypeOf → Value → Value → Result Value Fault
element_pointer a b v w = operated op.Add a b v w

-- ---- one operand

abbrev pub promoted : ArithUnary → TypeOf → Value → Result Value Fault
promoted o (int k) (Int x) = integer (unary_result o (promote k) (wrap (promote k) x))
promoted o t v = Err fault.NoResult

abbrev pub of_one : UnaryOp → TypeOf → Value → Result Value Fault
of_one front.Plus t v = promoted one.Plus t v
of_one front.Minus t v = promoted one.Minus t v
of_one front.Flip t v = promoted one.Flip t v
of_one front.Not t v = Ok (Int (truth (not (is_true v))))
of_one u t v = Err fault.NoResult

-- what a pointer points to
abbrev pub target : Value → Result Pointer Fault
target (At p) = Ok p
target Null = Err fault.Null
target (Int z) = Err fault.NoResult

abbrev pub pointed : TypeOf → TypeOf
pointed (pointer t) = t
pointed t = nothing
