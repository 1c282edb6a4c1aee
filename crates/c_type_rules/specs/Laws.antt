-- What holds of the operators' types.
use Rattle.std.specs.Prelude.{◌≡◌, ◌≢◌, ℕ, ◌+◌, ◌%◌, ◌<◌, ◌≤◌, ℤ, pos, ◌≤ℤ◌, Bool, true, false, Option}
use Rattle.c_base.specs.declared.place.IntKind.{IntKind}
use Rattle.c_arith.specs.Arith.{InRange, is_signed}
use Rattle.c_syntax.specs.Shape.{TypeOf, nothing}
use Rattle.c_syntax.specs.declared.tree.BinaryOp.{BinaryOp}
use Rattle.c_syntax.specs.declared.tree.BinaryOp.TheVariants as op
use Rattle.c_type_rules.specs.Kinds.{is_scalar}
use Rattle.c_type_rules.specs.Verdicts.{fine, wrong, on, operator_type, binary_type, element_type, stored_type, address_of, target_of}

-- the operators whose operands may change places
abbrev pub commutes : BinaryOp → Bool
commutes op.Mul = true
commutes op.Add = true
commutes op.BitAnd = true
commutes op.BitXor = true
commutes op.BitOr = true
commutes op.Eq = true
commutes op.Ne = true
commutes _ = false

-- their operands may change places
abbrev pub OperandsTurn : BinaryOp → Type 0
OperandsTurn o = commutes o ≡ true → (a b : Option TypeOf) (m n : Bool) → binary_type o a m b n ≡ binary_type o b n a m

-- a[b] and b[a] are one
abbrev pub ElementsTurn : Type 0
ElementsTurn = (a b : Option TypeOf) → element_type a b ≡ element_type b a

-- a void is no operand, on either side
abbrev pub VoidIsNone : BinaryOp → Type 0
VoidIsNone o = (a : TypeOf) (m n : Bool) → (operator_type o m n nothing a ≡ wrong) × (operator_type o m n a nothing ≡ wrong)

-- a scalar fits into its own type
abbrev pub FitsItself : Type 0
FitsItself = (t : TypeOf) (n : Bool) → is_scalar t ≡ true → stored_type t t n ≡ fine t

-- *&a has the type of a, which holds something
abbrev pub AddressLeadsBack : Type 0
AddressLeadsBack = (t : TypeOf) → t ≢ nothing → on (address_of t) target_of ≡ fine t

-- the type has the number if that isn't negative, and in any case if it is signed
pub record Keeps (k : IntKind) (z : ℤ) : Type 0 where
  pub from_zero : pos 0 ≤ℤ z → InRange k z
  pub signed : is_signed k ≡ true → InRange k z

-- the number is the least multiple of a that isn't below n
pub record IsNextMultiple (a n m : ℕ) : Type 0 where
  pub multiple : m % a ≡ 0
  pub above : n ≤ m
  pub least : m < n + a
