-- What holds of constants, and of specifier words.
use Rattle.std.specs.Prelude.{◌≡◌, ◌≢◌, ℤ, pos, true, is_some}
use Rattle.std.specs.Result.{result_ok}
use Rattle.c_base.specs.declared.place.IntKind.{IntKind}
use Rattle.c_base.specs.declared.place.IntKind.TheVariants.{Int}
use Rattle.c_arith.specs.declared.ArithUnary.{ArithUnary}
use Rattle.c_arith.specs.Arith.{InRange, RightFits, unary_result, binary_result}
use Rattle.c_type_rules.specs.Kinds.{promote}
use Rattle.c_syntax.specs.Shape.{TypeOf}
use Rattle.c_syntax.specs.declared.tree.BinaryOp.{BinaryOp}
use Rattle.c_syntax.specs.declared.token.Key.{Key}
use Rattle.c_constants.specs.declared.constants.Constant.{Constant}
use Rattle.c_constants.specs.declared.constants.Constant.TheVariants.{Known}
use Rattle.c_constants.specs.Constants.{kind_of, given, arithmetic, unary_kind, binary, arith_of, computing_kind, result_kind, both, either, element}
use Rattle.c_constants.specs.declared.words.Words.{Words}
use Rattle.c_constants.specs.Words.{added}

-- on a value of its type the operator gives what the arithmetic does in the promoted type
abbrev pub UnaryIsArithmetic : ArithUnary → Type 0
UnaryIsArithmetic o = (k : IntKind) (z : ℤ) → InRange k z → arithmetic o (Known k z) ≡ given (unary_kind o k) (result_ok (unary_result o (promote k) z))

-- on values that the computing type has, the operator gives what the arithmetic does
abbrev pub BinaryIsArithmetic : BinaryOp → IntKind → IntKind → Type 0
BinaryIsArithmetic o j k =
    let m = computing_kind o j k in
    (x y : ℤ) → InRange m x → RightFits (arith_of o) m y → binary o (Known j x) (Known k y) ≡ given (result_kind o j k) (result_ok (binary_result (arith_of o) m x y))

-- a constant expression behind 0 && or behind 1 || isn't looked at
pub record StopsEarly (j : IntKind) (b : Constant) : Type 0 where
  pub after_zero : is_some (kind_of b) ≡ true → both (Known j (pos 0)) b ≡ Known Int (pos 0)
  pub after_other : (z : ℤ) → z ≢ pos 0 → is_some (kind_of b) ≡ true → either (Known j z) b ≡ Known Int (pos 1)

-- a[b] and b[a] are one
abbrev pub ElementsTurn : Type 0
ElementsTurn = (left right : TypeOf) (a b : Constant) → element left a right b ≡ element right b left a

-- the words' order doesn't matter
abbrev pub WordsTurn : Key → Key → Type 0
WordsTurn a b = (w : Words) → added (added w a) b ≡ added (added w b) a
