-- What is computed is a value of its type.
use Rattle.std.proofs.Common.{◌≡◌, ℤ, Bool, true, false, Result, Ok, Err, Option, IfOk, IfSome, if◌then◌else◌, refl, arith, inl, inr}
use Rattle.std.specs.Result.{result_ok}
use Rattle.std.proofs.lemmas.Int.{ints}
use Rattle.c_base.specs.declared.place.IntKind.{IntKind}
use Rattle.c_base.specs.declared.place.IntKind.TheVariants.{Int}
use Rattle.c_arith.specs.declared.ArithBinary.{ArithBinary}
use Rattle.c_arith.specs.declared.ArithFault.{ArithFault}
use Rattle.c_arith.specs.Arith.{InRange, RightFits, IsTruth, IsComparison}
use Rattle.c_syntax.specs.declared.tree.BinaryOp.{BinaryOp}
use Rattle.c_syntax.specs.declared.tree.BinaryOp.TheVariants as op
use Rattle.c_constants.specs.Constants.{arith_of, is_shift, is_comparison, computing_kind, result_kind}

-- ---- right operands

pub shift_fits : (o : BinaryOp) (k : IntKind) (z : ℤ) → is_shift o ≡ true → RightFits (arith_of o) k z
shift_fits op.Shl k z h = tt
shift_fits op.Shr k z h = tt
shift_fits _ k z h = absurd (cc)

pub right_fits : (o : BinaryOp) (k : IntKind) (z : ℤ) → InRange k z → RightFits (arith_of o) k z
right_fits op.Shl k z h = tt
right_fits op.Shr k z h = tt
right_fits _ k z h = h

-- ---- results

zero_or_one : (z : ℤ) → IsTruth z → InRange Int z
zero_or_one z (inl e) = record { at_least = omega (arith, ints, e); at_most = omega (arith, ints, e) }
zero_or_one z (inr e) = record { at_least = omega (arith, ints, e); at_most = omega (arith, ints, e) }

ok_held : (r : Result ℤ ArithFault) → IfOk r IsTruth → IfSome (result_ok r) (InRange Int)
ok_held (Ok z) h = zero_or_one z h
ok_held (Err e) h = tt

comparison_held : (o : BinaryOp) (r : Result ℤ ArithFault) → (IsComparison (arith_of o) → IfOk r IsTruth) → is_comparison o ≡ true → IfSome (result_ok r) (InRange Int)
comparison_held op.Lt r h e = ok_held r (h tt)
comparison_held op.Gt r h e = ok_held r (h tt)
comparison_held op.Le r h e = ok_held r (h tt)
comparison_held op.Ge r h e = ok_held r (h tt)
comparison_held op.Eq r h e = ok_held r (h tt)
comparison_held op.Ne r h e = ok_held r (h tt)
comparison_held _ r h e = absurd (cc)

pub truth_held : (o : BinaryOp) (a : ArithBinary) (r : Result ℤ ArithFault) (v : Option ℤ) → a ≡ arith_of o → (IsComparison a → IfOk r IsTruth) → v ≡ result_ok r → is_comparison o ≡ true → IfSome v (InRange Int)
truth_held o a r v ea h ev e = rw ev (comparison_held o r (rw ea at h) e)

one_of : (b : Bool) (v : Option ℤ) (i k : IntKind) → IfSome v (InRange k) → (b ≡ true → IfSome v (InRange i)) → IfSome v (InRange (if b then i else k))
one_of true v i k h f = f refl
one_of false v i k h f = h

pub result_held : (o : BinaryOp) (j k i m : IntKind) (v : Option ℤ) → m ≡ computing_kind o j k → i ≡ result_kind o j k → IfSome v (InRange m) → (is_comparison o ≡ true → IfSome v (InRange Int)) → IfSome v (InRange i)
result_held o j k i m v em ei h f = rw ei (one_of (is_comparison o) v Int (computing_kind o j k) (rw em at h) f)
