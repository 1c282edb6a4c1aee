use Rattle.std.proofs.Common.{◌≡◌, ◌∙◌, ◌<◌, ◌^◌, ◌*ℤ◌, ℕ, ap, ap₂, sym, subst, not, int_lt, int_le, bit_and, bit_or, bit_xor, Ok}
use Rattle.std.specs.Int.{w128}
use Rattle.std.proofs.lemmas.Int.{to_z-of_z}
use Rattle.c_arith.specs.declared.ArithBinary.TheVariants.{Div, Rem, Shl, Shr}
use Rattle.c_arith.specs.Arith.{width, pattern, value_of, fitted, truth, binary_result, RightFits, Divides}
use Rattle.c_arith.proofs.Results.{sum_is, difference_is, eqb-bits, and_below, or_below, xor_below, binary-in_range, quotient-divides, remainder-divides}
use Rattle.c_arith.proofs.binary.Goals as goal

pub returns-in-Add-clause-value : goal.returns-in-Add-clause-value
unfolding binary_result
returns-in-Add-clause-value c =
    c.fitted.ensures ∙ ap (fitted c.args.kind) (sum_is c.args.kind c.args.a c.args.b c.requires.left (subst (λ op. RightFits op c.args.kind c.args.b) c.in-Add.is c.requires.right))
    ∙ ap (λ op. binary_result op c.args.kind c.args.a c.args.b) (sym c.in-Add.is)

pub returns-in-Add-clause-in_range : goal.returns-in-Add-clause-in_range
returns-in-Add-clause-in_range c =
    binary-in_range c.args.op c.args.kind c.args.a c.args.b _ c.requires.left (returns-in-Add-clause-value c)

pub returns-in-Sub-clause-value : goal.returns-in-Sub-clause-value
unfolding binary_result
returns-in-Sub-clause-value c =
    c.fitted-in-Sub.ensures ∙ ap (fitted c.args.kind) (difference_is c.args.kind c.args.a c.args.b c.requires.left (subst (λ op. RightFits op c.args.kind c.args.b) c.in-Sub.is c.requires.right))
    ∙ ap (λ op. binary_result op c.args.kind c.args.a c.args.b) (sym c.in-Sub.is)

pub returns-in-Sub-clause-in_range : goal.returns-in-Sub-clause-in_range
returns-in-Sub-clause-in_range c =
    binary-in_range c.args.op c.args.kind c.args.a c.args.b _ c.requires.left (returns-in-Sub-clause-value c)

pub returns-in-Mul-clause-value : goal.returns-in-Mul-clause-value
unfolding binary_result
returns-in-Mul-clause-value c =
    c.product.ensures ∙ ap₂ (λ a b. fitted c.args.kind (a *ℤ b)) (to_z-of_z w128 c.args.a c.ranges.a) (to_z-of_z w128 c.args.b c.ranges.b)
    ∙ ap (λ op. binary_result op c.args.kind c.args.a c.args.b) (sym c.in-Mul.is)

pub returns-in-Mul-clause-in_range : goal.returns-in-Mul-clause-in_range
returns-in-Mul-clause-in_range c =
    binary-in_range c.args.op c.args.kind c.args.a c.args.b _ c.requires.left (returns-in-Mul-clause-value c)

pub returns-in-Div-clause-in_range : goal.returns-in-Div-clause-in_range
returns-in-Div-clause-in_range c =
    binary-in_range c.args.op c.args.kind c.args.a c.args.b _ c.requires.left (c.quotient.ensures ∙ ap₂ (binary_result Div c.args.kind) (to_z-of_z w128 c.args.a c.ranges.a) (to_z-of_z w128 c.args.b c.ranges.b) ∙ ap (λ op. binary_result op c.args.kind c.args.a c.args.b) (sym c.in-Div.is))

pub returns-in-Rem-clause-in_range : goal.returns-in-Rem-clause-in_range
returns-in-Rem-clause-in_range c =
    binary-in_range c.args.op c.args.kind c.args.a c.args.b _ c.requires.left (c.remainder.ensures ∙ ap₂ (binary_result Rem c.args.kind) (to_z-of_z w128 c.args.a c.ranges.a) (to_z-of_z w128 c.args.b c.ranges.b) ∙ ap (λ op. binary_result op c.args.kind c.args.a c.args.b) (sym c.in-Rem.is))

pub returns-in-Shl-clause-in_range : goal.returns-in-Shl-clause-in_range
returns-in-Shl-clause-in_range c =
    binary-in_range c.args.op c.args.kind c.args.a c.args.b _ c.requires.left (c.shifted_up.ensures ∙ ap₂ (binary_result Shl c.args.kind) (to_z-of_z w128 c.args.a c.ranges.a) (to_z-of_z w128 c.args.b c.ranges.b) ∙ ap (λ op. binary_result op c.args.kind c.args.a c.args.b) (sym c.in-Shl.is))

pub returns-in-Shr-clause-in_range : goal.returns-in-Shr-clause-in_range
returns-in-Shr-clause-in_range c =
    binary-in_range c.args.op c.args.kind c.args.a c.args.b _ c.requires.left (c.shifted_down.ensures ∙ ap₂ (binary_result Shr c.args.kind) (to_z-of_z w128 c.args.a c.ranges.a) (to_z-of_z w128 c.args.b c.ranges.b) ∙ ap (λ op. binary_result op c.args.kind c.args.a c.args.b) (sym c.in-Shr.is))

pub value_of-requires : goal.value_of-requires
value_of-requires c =
    let P : ℕ → Type 0 = λ n. n < 2 ^ width c.args.kind in
    let bits : bit_and c.pattern.result c.pattern-in-And.result ≡ bit_and (pattern c.args.kind c.args.a) (pattern c.args.kind c.args.b) =
    ap₂ bit_and
    (c.pattern.ensures ∙ ap (pattern c.args.kind) (to_z-of_z w128 c.args.a c.ranges.a))
    (c.pattern-in-And.ensures ∙ ap (pattern c.args.kind) (to_z-of_z w128 c.args.b c.ranges.b)) in
    subst P (sym bits) (and_below c.args.kind c.args.a c.args.b)

pub returns-in-And-clause-value : goal.returns-in-And-clause-value
unfolding binary_result
returns-in-And-clause-value c =
    ap Ok (to_z-of_z w128 c.value_of.result (record { sfits = c.value_of.type_inv })
    ∙ c.value_of.ensures ∙ ap (value_of c.args.kind) (ap₂ bit_and
    (c.pattern.ensures ∙ ap (pattern c.args.kind) (to_z-of_z w128 c.args.a c.ranges.a))
    (c.pattern-in-And.ensures ∙ ap (pattern c.args.kind) (to_z-of_z w128 c.args.b c.ranges.b))))
    ∙ ap (λ op. binary_result op c.args.kind c.args.a c.args.b) (sym c.in-And.is)

pub returns-in-And-clause-in_range : goal.returns-in-And-clause-in_range
returns-in-And-clause-in_range c =
    binary-in_range c.args.op c.args.kind c.args.a c.args.b _ c.requires.left (returns-in-And-clause-value c)

pub value_of-requires-in-Or : goal.value_of-requires-in-Or
value_of-requires-in-Or c =
    let P : ℕ → Type 0 = λ n. n < 2 ^ width c.args.kind in
    let bits : bit_or c.pattern-in-Or.result c.pattern-in-Or-2.result ≡ bit_or (pattern c.args.kind c.args.a) (pattern c.args.kind c.args.b) =
    ap₂ bit_or
    (c.pattern-in-Or.ensures ∙ ap (pattern c.args.kind) (to_z-of_z w128 c.args.a c.ranges.a))
    (c.pattern-in-Or-2.ensures ∙ ap (pattern c.args.kind) (to_z-of_z w128 c.args.b c.ranges.b)) in
    subst P (sym bits) (or_below c.args.kind c.args.a c.args.b)

pub returns-in-Or-clause-value : goal.returns-in-Or-clause-value
unfolding binary_result
returns-in-Or-clause-value c =
    ap Ok (to_z-of_z w128 c.value_of-in-Or.result (record { sfits = c.value_of-in-Or.type_inv })
    ∙ c.value_of-in-Or.ensures ∙ ap (value_of c.args.kind) (ap₂ bit_or
    (c.pattern-in-Or.ensures ∙ ap (pattern c.args.kind) (to_z-of_z w128 c.args.a c.ranges.a))
    (c.pattern-in-Or-2.ensures ∙ ap (pattern c.args.kind) (to_z-of_z w128 c.args.b c.ranges.b))))
    ∙ ap (λ op. binary_result op c.args.kind c.args.a c.args.b) (sym c.in-Or.is)

pub returns-in-Or-clause-in_range : goal.returns-in-Or-clause-in_range
returns-in-Or-clause-in_range c =
    binary-in_range c.args.op c.args.kind c.args.a c.args.b _ c.requires.left (returns-in-Or-clause-value c)

pub value_of-requires-in-Xor : goal.value_of-requires-in-Xor
value_of-requires-in-Xor c =
    let P : ℕ → Type 0 = λ n. n < 2 ^ width c.args.kind in
    let bits : bit_xor c.pattern-in-Xor.result c.pattern-in-Xor-2.result ≡ bit_xor (pattern c.args.kind c.args.a) (pattern c.args.kind c.args.b) =
    ap₂ bit_xor
    (c.pattern-in-Xor.ensures ∙ ap (pattern c.args.kind) (to_z-of_z w128 c.args.a c.ranges.a))
    (c.pattern-in-Xor-2.ensures ∙ ap (pattern c.args.kind) (to_z-of_z w128 c.args.b c.ranges.b)) in
    subst P (sym bits) (xor_below c.args.kind c.args.a c.args.b)

pub returns-in-Xor-clause-value : goal.returns-in-Xor-clause-value
unfolding binary_result
returns-in-Xor-clause-value c =
    ap Ok (to_z-of_z w128 c.value_of-in-Xor.result (record { sfits = c.value_of-in-Xor.type_inv })
    ∙ c.value_of-in-Xor.ensures ∙ ap (value_of c.args.kind) (ap₂ bit_xor
    (c.pattern-in-Xor.ensures ∙ ap (pattern c.args.kind) (to_z-of_z w128 c.args.a c.ranges.a))
    (c.pattern-in-Xor-2.ensures ∙ ap (pattern c.args.kind) (to_z-of_z w128 c.args.b c.ranges.b))))
    ∙ ap (λ op. binary_result op c.args.kind c.args.a c.args.b) (sym c.in-Xor.is)

pub returns-in-Xor-clause-in_range : goal.returns-in-Xor-clause-in_range
returns-in-Xor-clause-in_range c =
    binary-in_range c.args.op c.args.kind c.args.a c.args.b _ c.requires.left (returns-in-Xor-clause-value c)

pub returns-in-Lt-clause-value : goal.returns-in-Lt-clause-value
unfolding binary_result
returns-in-Lt-clause-value c =
    ap Ok (to_z-of_z w128 c.truth.result (record { sfits = c.truth.type_inv })
    ∙ c.truth.ensures ∙ ap₂ (λ a b. truth (int_lt a b)) (to_z-of_z w128 c.args.a c.ranges.a) (to_z-of_z w128 c.args.b c.ranges.b))
    ∙ ap (λ op. binary_result op c.args.kind c.args.a c.args.b) (sym c.in-Lt.is)

pub returns-in-Gt-clause-value : goal.returns-in-Gt-clause-value
unfolding binary_result
returns-in-Gt-clause-value c =
    ap Ok (to_z-of_z w128 c.truth-in-Gt.result (record { sfits = c.truth-in-Gt.type_inv })
    ∙ c.truth-in-Gt.ensures ∙ ap₂ (λ a b. truth (int_lt b a)) (to_z-of_z w128 c.args.a c.ranges.a) (to_z-of_z w128 c.args.b c.ranges.b))
    ∙ ap (λ op. binary_result op c.args.kind c.args.a c.args.b) (sym c.in-Gt.is)

pub returns-in-Le-clause-value : goal.returns-in-Le-clause-value
unfolding binary_result
returns-in-Le-clause-value c =
    ap Ok (to_z-of_z w128 c.truth-in-Le.result (record { sfits = c.truth-in-Le.type_inv })
    ∙ c.truth-in-Le.ensures ∙ ap₂ (λ a b. truth (int_le a b)) (to_z-of_z w128 c.args.a c.ranges.a) (to_z-of_z w128 c.args.b c.ranges.b))
    ∙ ap (λ op. binary_result op c.args.kind c.args.a c.args.b) (sym c.in-Le.is)

pub returns-in-Ge-clause-value : goal.returns-in-Ge-clause-value
unfolding binary_result
returns-in-Ge-clause-value c =
    ap Ok (to_z-of_z w128 c.truth-in-Ge.result (record { sfits = c.truth-in-Ge.type_inv })
    ∙ c.truth-in-Ge.ensures ∙ ap₂ (λ a b. truth (int_le b a)) (to_z-of_z w128 c.args.a c.ranges.a) (to_z-of_z w128 c.args.b c.ranges.b))
    ∙ ap (λ op. binary_result op c.args.kind c.args.a c.args.b) (sym c.in-Ge.is)

pub returns-in-Eq-clause-value : goal.returns-in-Eq-clause-value
unfolding binary_result
returns-in-Eq-clause-value c =
    ap Ok (to_z-of_z w128 c.truth-in-Eq.result (record { sfits = c.truth-in-Eq.type_inv })
    ∙ c.truth-in-Eq.ensures ∙ ap truth (eqb-bits c.args.a c.args.b c.ranges.a c.ranges.b))
    ∙ ap (λ op. binary_result op c.args.kind c.args.a c.args.b) (sym c.in-Eq.is)

pub returns-in-Ne-clause-value : goal.returns-in-Ne-clause-value
unfolding binary_result
returns-in-Ne-clause-value c =
    ap Ok (to_z-of_z w128 c.truth-in-Ne.result (record { sfits = c.truth-in-Ne.type_inv })
    ∙ c.truth-in-Ne.ensures ∙ ap (λ t. truth (not t)) (eqb-bits c.args.a c.args.b c.ranges.a c.ranges.b))
    ∙ ap (λ op. binary_result op c.args.kind c.args.a c.args.b) (sym c.in-Ne.is)

pub returns-in-Div-clause-division : goal.returns-in-Div-clause-division
returns-in-Div-clause-division c =
    let kind = c.args.kind in
    let a = to_z-of_z w128 c.args.a c.ranges.a in
    let b = to_z-of_z w128 c.args.b c.ranges.b in
    subst (λ op. Divides op c.args.a c.args.b c.quotient.result) (sym c.in-Div.is)
    (quotient-divides kind c.args.a c.args.b c.quotient.result c.requires.left
    (subst (λ op. RightFits op kind c.args.b) c.in-Div.is c.requires.right)
    (c.quotient.ensures ∙ ap₂ (binary_result Div kind) a b))

pub returns-in-Rem-clause-division : goal.returns-in-Rem-clause-division
returns-in-Rem-clause-division c =
    let kind = c.args.kind in
    let a = to_z-of_z w128 c.args.a c.ranges.a in
    let b = to_z-of_z w128 c.args.b c.ranges.b in
    subst (λ op. Divides op c.args.a c.args.b c.remainder.result) (sym c.in-Rem.is)
    (remainder-divides kind c.args.a c.args.b c.remainder.result (c.remainder.ensures ∙ ap₂ (binary_result Rem kind) a b))
