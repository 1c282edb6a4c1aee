-- What holds of the operators' types.
use Rattle.std.proofs.Common.{◌≡◌, ℕ, Bool, true, false, ◌||◌, Some, None, nat_eq, refl, ap, rules}
use Rattle.c_base.specs.declared.place.IntKind.{IntKind}
use Rattle.c_base.specs.declared.place.IntKind.TheVariants.{Char, Short, Int, Long, UChar, UShort, UInt, ULong}
use Rattle.c_syntax.specs.Shape.{TypeOf, int, pointer, array, structure, nothing}
use Rattle.c_syntax.specs.declared.tree.BinaryOp.{BinaryOp}
use Rattle.c_syntax.specs.declared.tree.BinaryOp.TheVariants as op
use Rattle.c_type_rules.specs.Kinds.{same_int, same_type, decay, meet}
use Rattle.c_type_rules.specs.Verdicts.{fine, wrong, on, fine_if, null_for, arithmetic_type, sum_type, order_type, equality_type, operator_type, target_of}
use Rattle.c_type_rules.specs.Laws.{commutes, OperandsTurn, ElementsTurn, VoidIsNone, FitsItself, AddressLeadsBack}
use Rattle.c_type_rules.proofs.Same.{same_refl}

-- ---- turned

pub meet_turned : (a b : IntKind) → meet a b ≡ meet b a
meet_turned Char Char = refl
meet_turned Short Char = refl
meet_turned Int Char = refl
meet_turned Long Char = refl
meet_turned UChar Char = refl
meet_turned UShort Char = refl
meet_turned UInt Char = refl
meet_turned ULong Char = refl
meet_turned _ _ = refl

same_int_turned : (a b : IntKind) → same_int a b ≡ same_int b a
same_int_turned Char Char = refl
same_int_turned Short Char = refl
same_int_turned Int Char = refl
same_int_turned Long Char = refl
same_int_turned UChar Char = refl
same_int_turned UShort Char = refl
same_int_turned UInt Char = refl
same_int_turned ULong Char = refl
same_int_turned _ _ = refl

nat_eq_turned : (n m : ℕ) → nat_eq n m ≡ nat_eq m n
nat_eq_turned n m = search rules

pub same_turned : (a b : TypeOf) → same_type a b ≡ same_type b a
same_turned (int a) (int b) = same_int_turned a b
same_turned (pointer a) (pointer b) = same_turned a b
same_turned (array a n) (array b m) = rw (nat_eq_turned n m, same_turned a b) refl
same_turned (structure n) (structure m) = nat_eq_turned n m
same_turned nothing nothing = refl
same_turned _ _ = refl

arithmetic_turned : (a b : TypeOf) → arithmetic_type a b ≡ arithmetic_type b a
arithmetic_turned (int a) (int b) = ap (λ k. fine (int k)) (meet_turned a b)
arithmetic_turned (int k) nothing = refl
arithmetic_turned (pointer t) nothing = refl
arithmetic_turned (array t k) nothing = refl
arithmetic_turned (structure k) nothing = refl
arithmetic_turned nothing nothing = refl
arithmetic_turned _ _ = refl

sum_turned : (a b : TypeOf) → sum_type a b ≡ sum_type b a
sum_turned (int a) (int b) = ap (λ k. fine (int k)) (meet_turned a b)
sum_turned (int k) nothing = refl
sum_turned (pointer t) nothing = refl
sum_turned (array t k) nothing = refl
sum_turned (structure k) nothing = refl
sum_turned nothing nothing = refl
sum_turned _ _ = refl

order_turned : (a b : TypeOf) → order_type a b ≡ order_type b a
order_turned (pointer t) (pointer s) = ap (λ x. fine_if x (int Int)) (same_turned t s)
order_turned (int k) nothing = refl
order_turned (pointer t) nothing = refl
order_turned (array t k) nothing = refl
order_turned (structure k) nothing = refl
order_turned nothing nothing = refl
order_turned _ _ = refl

or_turned : (x y : Bool) → (x || y) ≡ (y || x)
or_turned true true = refl
or_turned true false = refl
or_turned false true = refl
or_turned false false = refl

equality_turned : (a b : TypeOf) (m n : Bool) → equality_type a m b n ≡ equality_type b n a m
equality_turned a b m n = rw (or_turned (null_for m a b) (null_for n b a), order_turned a b) refl

operator_turned : (o : BinaryOp) → commutes o ≡ true → (a b : TypeOf) (m n : Bool) → operator_type o m n a b ≡ operator_type o n m b a
operator_turned op.Mul h a b m n = arithmetic_turned (decay a) (decay b)
operator_turned op.BitAnd h a b m n = arithmetic_turned (decay a) (decay b)
operator_turned op.BitXor h a b m n = arithmetic_turned (decay a) (decay b)
operator_turned op.BitOr h a b m n = arithmetic_turned (decay a) (decay b)
operator_turned op.Add h a b m n = sum_turned (decay a) (decay b)
operator_turned op.Eq h a b m n = equality_turned (decay a) (decay b) m n
operator_turned op.Ne h a b m n = equality_turned (decay a) (decay b) m n
operator_turned _ h a b m n = cc

pub operands_turn : (o : BinaryOp) → OperandsTurn o
operands_turn o h None None m n = refl
operands_turn o h None (Some b) m n = refl
operands_turn o h (Some a) None m n = refl
operands_turn o h (Some a) (Some b) m n = operator_turned o h a b m n

pub elements_turn : ElementsTurn
elements_turn None None = refl
elements_turn None (Some b) = refl
elements_turn (Some a) None = refl
elements_turn (Some a) (Some b) = ap (λ v. on v target_of) (sum_turned (decay a) (decay b))

-- ---- void

no_null_left : (m : Bool) (a : TypeOf) → null_for m nothing a ≡ false
no_null_left true a = refl
no_null_left false a = refl

no_null_right : (m : Bool) (a : TypeOf) → null_for m a nothing ≡ false
no_null_right false a = refl
no_null_right true (int k) = refl
no_null_right true (pointer t) = refl
no_null_right true (array t k) = refl
no_null_right true (structure k) = refl
no_null_right true nothing = refl

void_left : (o : BinaryOp) (m n : Bool) (a : TypeOf) → operator_type o m n nothing a ≡ wrong
void_left op.Eq m n a = rw (no_null_left m (decay a), no_null_right n (decay a)) refl
void_left op.Ne m n a = rw (no_null_left m (decay a), no_null_right n (decay a)) refl
void_left _ m n a = refl

void_right : (o : BinaryOp) (m n : Bool) (a : TypeOf) → operator_type o m n a nothing ≡ wrong
void_right op.Eq m n (int k) = rw (no_null_right m (decay (int k)), no_null_left n (decay (int k))) refl
void_right op.Eq m n (pointer t) = rw (no_null_right m (decay (pointer t)), no_null_left n (decay (pointer t))) refl
void_right op.Eq m n (array t k) = rw (no_null_right m (decay (array t k)), no_null_left n (decay (array t k))) refl
void_right op.Eq m n (structure k) = rw (no_null_right m (decay (structure k)), no_null_left n (decay (structure k))) refl
void_right op.Eq m n nothing = rw (no_null_right m (decay nothing), no_null_left n (decay nothing)) refl
void_right op.Ne m n (int k) = rw (no_null_right m (decay (int k)), no_null_left n (decay (int k))) refl
void_right op.Ne m n (pointer t) = rw (no_null_right m (decay (pointer t)), no_null_left n (decay (pointer t))) refl
void_right op.Ne m n (array t k) = rw (no_null_right m (decay (array t k)), no_null_left n (decay (array t k))) refl
void_right op.Ne m n (structure k) = rw (no_null_right m (decay (structure k)), no_null_left n (decay (structure k))) refl
void_right op.Ne m n nothing = rw (no_null_right m (decay nothing), no_null_left n (decay nothing)) refl
void_right op.Mul m n nothing = refl
void_right op.Div m n nothing = refl
void_right op.Rem m n nothing = refl
void_right op.Add m n nothing = refl
void_right op.Sub m n nothing = refl
void_right op.Shl m n nothing = refl
void_right op.Shr m n nothing = refl
void_right op.Lt m n nothing = refl
void_right op.Gt m n nothing = refl
void_right op.Le m n nothing = refl
void_right op.Ge m n nothing = refl
void_right op.BitAnd m n nothing = refl
void_right op.BitXor m n nothing = refl
void_right op.BitOr m n nothing = refl
void_right _ m n a = refl

pub void_is_none : (o : BinaryOp) → VoidIsNone o
void_is_none o a m n = (void_left o m n a, void_right o m n a)

-- ---- a type and itself

pub fits_itself : FitsItself
fits_itself (int k) n h = refl
fits_itself (pointer t) true h = ap (λ x. fine_if x (pointer t)) (same_refl t)
fits_itself (pointer t) false h = ap (λ x. fine_if x (pointer t)) (same_refl t)
fits_itself _ n h = cc

pub address_leads_back : AddressLeadsBack
address_leads_back nothing h = absurd (h refl)
address_leads_back _ h = refl
