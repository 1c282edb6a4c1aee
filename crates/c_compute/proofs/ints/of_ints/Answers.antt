use Rattle.std.proofs.Common.{◌≡◌, ◌∙◌, ◌+ℤ◌, ◌-ℤ◌, not, int_lt, int_le, to_z, of_z, ap, ap₂, arith}
use Rattle.std.specs.Int.{w32, w64}
use Rattle.std.proofs.lemmas.Int.{ints, to_z-of_z}
use Rattle.c_base.specs.declared.place.IntKind.TheVariants.{Int}
use Rattle.c_arith.specs.declared.ArithBinary.TheVariants as two
use Rattle.c_arith.specs.Arith.{fitted, truth, binary_result}
use Rattle.c_syntax.specs.declared.tree.BinaryOp.TheVariants as op
use Rattle.c_meaning.specs.Operators.{integer}
use Rattle.c_compute.specs.Narrow.{given}
use Rattle.c_compute.proofs.Integers.{int_range, of_op, product_is, eqb_bits, and_is, or_is, xor_is}
use Rattle.c_compute.proofs.ints.of_ints.Goals as goal

pub returns-in-Add : goal.returns-in-Add
unfolding binary_result
returns-in-Add c =
    let e : to_z w64 (of_z w64 (to_z w64 (of_z w64 c.from.result) +ℤ to_z w64 (of_z w64 c.from-in-Add.result))) ≡ c.args.a +ℤ c.args.b = omega (arith, ints, c.from.ensures, c.from-in-Add.ensures) in
    c.fitted.ensures ∙ ap (λ z. integer (fitted Int z)) e
    ∙ of_op op.Add c.args.op c.args.a c.args.b c.in-Add.is c.ranges.a c.ranges.b

pub returns-in-Sub : goal.returns-in-Sub
unfolding binary_result
returns-in-Sub c =
    let e : to_z w64 (of_z w64 (to_z w64 (of_z w64 c.from-in-Sub.result) -ℤ to_z w64 (of_z w64 c.from-in-Sub-2.result))) ≡ c.args.a -ℤ c.args.b = omega (arith, ints, c.from-in-Sub.ensures, c.from-in-Sub-2.ensures) in
    c.fitted-in-Sub.ensures ∙ ap (λ z. integer (fitted Int z)) e
    ∙ of_op op.Sub c.args.op c.args.a c.args.b c.in-Sub.is c.ranges.a c.ranges.b

pub returns-in-Mul : goal.returns-in-Mul
unfolding binary_result
returns-in-Mul c =
    c.fitted-in-Mul.ensures
    ∙ ap (λ z. integer (fitted Int z)) (product_is c.args.a c.args.b c.from-in-Mul.result c.from-in-Mul-2.result c.ranges.a c.ranges.b c.from-in-Mul.ensures c.from-in-Mul-2.ensures)
    ∙ of_op op.Mul c.args.op c.args.a c.args.b c.in-Mul.is c.ranges.a c.ranges.b

pub returns-in-Div : goal.returns-in-Div
returns-in-Div c =
    c.quotient.ensures ∙ ap₂ (λ a b. integer (binary_result two.Div Int a b)) (to_z-of_z w32 c.args.a c.ranges.a) (to_z-of_z w32 c.args.b c.ranges.b)
    ∙ of_op op.Div c.args.op c.args.a c.args.b c.in-Div.is c.ranges.a c.ranges.b

pub returns-in-Rem : goal.returns-in-Rem
returns-in-Rem c =
    c.remainder.ensures ∙ ap₂ (λ a b. integer (binary_result two.Rem Int a b)) (to_z-of_z w32 c.args.a c.ranges.a) (to_z-of_z w32 c.args.b c.ranges.b)
    ∙ of_op op.Rem c.args.op c.args.a c.args.b c.in-Rem.is c.ranges.a c.ranges.b

pub returns-in-Lt : goal.returns-in-Lt
unfolding binary_result
returns-in-Lt c =
    c.tested.ensures ∙ ap₂ (λ a b. given (truth (int_lt a b))) (to_z-of_z w32 c.args.a c.ranges.a) (to_z-of_z w32 c.args.b c.ranges.b)
    ∙ of_op op.Lt c.args.op c.args.a c.args.b c.in-Lt.is c.ranges.a c.ranges.b

pub returns-in-Gt : goal.returns-in-Gt
unfolding binary_result
returns-in-Gt c =
    c.tested-in-Gt.ensures ∙ ap₂ (λ a b. given (truth (int_lt b a))) (to_z-of_z w32 c.args.a c.ranges.a) (to_z-of_z w32 c.args.b c.ranges.b)
    ∙ of_op op.Gt c.args.op c.args.a c.args.b c.in-Gt.is c.ranges.a c.ranges.b

pub returns-in-Le : goal.returns-in-Le
unfolding binary_result
returns-in-Le c =
    c.tested-in-Le.ensures ∙ ap₂ (λ a b. given (truth (int_le a b))) (to_z-of_z w32 c.args.a c.ranges.a) (to_z-of_z w32 c.args.b c.ranges.b)
    ∙ of_op op.Le c.args.op c.args.a c.args.b c.in-Le.is c.ranges.a c.ranges.b

pub returns-in-Ge : goal.returns-in-Ge
unfolding binary_result
returns-in-Ge c =
    c.tested-in-Ge.ensures ∙ ap₂ (λ a b. given (truth (int_le b a))) (to_z-of_z w32 c.args.a c.ranges.a) (to_z-of_z w32 c.args.b c.ranges.b)
    ∙ of_op op.Ge c.args.op c.args.a c.args.b c.in-Ge.is c.ranges.a c.ranges.b

pub returns-in-Eq : goal.returns-in-Eq
unfolding binary_result
returns-in-Eq c =
    c.tested-in-Eq.ensures ∙ ap (λ t. given (truth t)) (eqb_bits c.args.a c.args.b c.ranges.a c.ranges.b)
    ∙ of_op op.Eq c.args.op c.args.a c.args.b c.in-Eq.is c.ranges.a c.ranges.b

pub returns-in-Ne : goal.returns-in-Ne
unfolding binary_result
returns-in-Ne c =
    c.tested-in-Ne.ensures ∙ ap (λ t. given (truth (not t))) (eqb_bits c.args.a c.args.b c.ranges.a c.ranges.b)
    ∙ of_op op.Ne c.args.op c.args.a c.args.b c.in-Ne.is c.ranges.a c.ranges.b

pub returns-in-BitAnd : goal.returns-in-BitAnd
unfolding binary_result
returns-in-BitAnd c =
    c.int.ensures ∙ ap given (and_is c.args.a c.args.b (int_range c.args.a c.ranges.a) (int_range c.args.b c.ranges.b))
    ∙ of_op op.BitAnd c.args.op c.args.a c.args.b c.in-BitAnd.is c.ranges.a c.ranges.b

pub returns-in-BitXor : goal.returns-in-BitXor
unfolding binary_result
returns-in-BitXor c =
    c.int-in-BitXor.ensures ∙ ap given (xor_is c.args.a c.args.b (int_range c.args.a c.ranges.a) (int_range c.args.b c.ranges.b))
    ∙ of_op op.BitXor c.args.op c.args.a c.args.b c.in-BitXor.is c.ranges.a c.ranges.b

pub returns-in-BitOr : goal.returns-in-BitOr
unfolding binary_result
returns-in-BitOr c =
    c.int-in-BitOr.ensures ∙ ap given (or_is c.args.a c.args.b (int_range c.args.a c.ranges.a) (int_range c.args.b c.ranges.b))
    ∙ of_op op.BitOr c.args.op c.args.a c.args.b c.in-BitOr.is c.ranges.a c.ranges.b

pub returns-in-Shl : goal.returns-in-Shl
returns-in-Shl c =
    c.shifted_up.ensures ∙ ap₂ (λ a b. integer (binary_result two.Shl Int a b)) (to_z-of_z w32 c.args.a c.ranges.a) (to_z-of_z w32 c.args.b c.ranges.b)
    ∙ of_op op.Shl c.args.op c.args.a c.args.b c.in-Shl.is c.ranges.a c.ranges.b

pub returns-in-Shr : goal.returns-in-Shr
returns-in-Shr c =
    c.shifted_down.ensures ∙ ap₂ (λ a b. integer (binary_result two.Shr Int a b)) (to_z-of_z w32 c.args.a c.ranges.a) (to_z-of_z w32 c.args.b c.ranges.b)
    ∙ of_op op.Shr c.args.op c.args.a c.args.b c.in-Shr.is c.ranges.a c.ranges.b
