-- Where no conversion changes a value.
use Rattle.std.proofs.Common.{◌≡◌, ℤ, pos, ◌+ℤ◌, ◌*ℤ◌, ◌^◌, refl, ap, ap₂, sym, rules}
use Rattle.std.specs.Result.{result_ok}
use Rattle.c_base.specs.declared.place.IntKind.{IntKind}
use Rattle.c_arith.specs.declared.ArithUnary.{ArithUnary}
use Rattle.c_arith.specs.Arith.{width, InRange, RightFits, wrap, unary_result, binary_result}
use Rattle.c_arith.proofs.Patterns.{wrap-only}
use Rattle.c_type_rules.specs.Kinds.{promote}
use Rattle.c_type_rules.proofs.Ranges.{promote_keeps}
use Rattle.c_syntax.specs.declared.tree.BinaryOp.{BinaryOp}
use Rattle.c_syntax.specs.declared.tree.BinaryOp.TheVariants as op
use Rattle.c_constants.specs.Constants.{given, unary_kind, arith_of, computing_kind, result_kind, right_operand}
use Rattle.c_constants.specs.Laws.{UnaryIsArithmetic, BinaryIsArithmetic}

no_turn : (z w : ℤ) → z ≡ (z +ℤ pos 0 *ℤ w)
no_turn z w = search rules

wrap_same : (k : IntKind) (z : ℤ) → InRange k z → wrap k z ≡ z
wrap_same k z h = sym (wrap-only k z z (pos 0) h (no_turn z (pos (2 ^ width k))))

right_same : (o : BinaryOp) (k : IntKind) (z : ℤ) → RightFits (arith_of o) k z → right_operand o k z ≡ z
right_same op.Shl k z h = refl
right_same op.Shr k z h = refl
right_same _ k z h = wrap_same k z h

pub unary_exact : (o : ArithUnary) → UnaryIsArithmetic o
unary_exact o k z h = ap (λ x. given (unary_kind o k) (result_ok (unary_result o (promote k) x))) (wrap_same (promote k) z (promote_keeps k z h))

pub binary_exact : (o : BinaryOp) (j k : IntKind) → BinaryIsArithmetic o j k
binary_exact o j k x y hx hy =
    let m = computing_kind o j k in
    ap₂ (λ a b. given (result_kind o j k) (result_ok (binary_result (arith_of o) m a b))) (wrap_same m x hx) (right_same o m y hy)
