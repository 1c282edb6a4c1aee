use Rattle.std.proofs.Common.{◌∙◌, ◌-◌, ◌^◌, arith, ap, sym, Ok}
use Rattle.std.specs.Int.{w128}
use Rattle.std.proofs.lemmas.Int.{to_z-of_z}
use Rattle.c_arith.specs.Arith.{width, pattern, value_of, fitted, truth, unary_result}
use Rattle.c_arith.proofs.Patterns.{pattern_below}
use Rattle.c_arith.proofs.Results.{neg_is, zero_test, unary-in_range}
use Rattle.c_arith.proofs.unary.Goals as goal

pub overflow_sub-mask : goal.overflow_sub-mask
overflow_sub-mask c =
    let kind = c.args.kind in
    let below = pattern_below kind c.args.a in
    let bits = c.pattern.ensures ∙ ap (pattern kind) (to_z-of_z w128 c.args.a c.ranges.a) in
    let all = c.mask.ensures in
    omega arith

pub returns-in-Plus-clause-value : goal.returns-in-Plus-clause-value
unfolding unary_result
returns-in-Plus-clause-value c =
    ap Ok (to_z-of_z w128 c.args.a c.ranges.a) ∙ ap (λ op. unary_result op c.args.kind c.args.a) (sym c.in-Plus.is)

pub returns-in-Minus-clause-value : goal.returns-in-Minus-clause-value
unfolding unary_result
returns-in-Minus-clause-value c =
    c.fitted.ensures ∙ ap (fitted c.args.kind) (neg_is c.args.kind c.args.a c.requires.operand)
    ∙ ap (λ op. unary_result op c.args.kind c.args.a) (sym c.in-Minus.is)

pub returns-in-Minus-clause-in_range : goal.returns-in-Minus-clause-in_range
returns-in-Minus-clause-in_range c =
    unary-in_range c.args.op c.args.kind c.args.a c.fitted.result c.requires.operand (returns-in-Minus-clause-value c)

pub returns-in-Flip-clause-value : goal.returns-in-Flip-clause-value
unfolding unary_result
returns-in-Flip-clause-value c =
    let kind = c.args.kind in
    let bits = c.pattern.ensures ∙ ap (pattern kind) (to_z-of_z w128 c.args.a c.ranges.a) in
    let all = c.mask.ensures in
    ap Ok (to_z-of_z w128 c.value_of.result (record { sfits = c.value_of.type_inv })
    ∙ c.value_of.ensures ∙ ap (λ m. value_of kind (m - c.pattern.result)) all ∙ ap (λ n. value_of kind (2 ^ width kind - 1 - n)) bits)
    ∙ ap (λ op. unary_result op kind c.args.a) (sym c.in-Flip.is)

pub returns-in-Flip-clause-in_range : goal.returns-in-Flip-clause-in_range
returns-in-Flip-clause-in_range c =
    unary-in_range c.args.op c.args.kind c.args.a _ c.requires.operand (returns-in-Flip-clause-value c)

pub returns-in-Not-clause-value : goal.returns-in-Not-clause-value
unfolding unary_result
returns-in-Not-clause-value c =
    ap Ok (to_z-of_z w128 c.truth.result (record { sfits = c.truth.type_inv })
    ∙ c.truth.ensures ∙ ap truth (zero_test c.args.a c.ranges.a))
    ∙ ap (λ op. unary_result op c.args.kind c.args.a) (sym c.in-Not.is)
