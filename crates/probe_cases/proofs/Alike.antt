-- What comes of constants by operators depends on their types and values alone.
use Rattle.std.proofs.Common.{◌≡◌, ℤ, pos, ◌⊎◌, inl, inr, Option, Some, None, Bool, true, false, refl, sym, ap, ap₂, ◌∙◌}
use Rattle.std.specs.Prelude.{option_map, option_and_then, ◌||◌, if◌then◌else◌}
use Rattle.c_base.specs.declared.place.IntKind.{IntKind}
use Rattle.c_base.specs.declared.place.IntKind.TheVariants.{Int}
use Rattle.c_arith.specs.declared.ArithUnary.{ArithUnary}
use Rattle.c_arith.specs.declared.ArithUnary.TheVariants as one
use Rattle.c_arith.specs.Arith.{wrap}
use Rattle.c_syntax.specs.declared.tree.UnaryOp.{UnaryOp}
use Rattle.c_syntax.specs.declared.tree.UnaryOp.TheVariants as front
use Rattle.c_syntax.specs.Shape.{TypeOf, int, pointer, array, structure, nothing, Infix, plain, and, or, assign, comma, Access, dot, arrow}
use Rattle.c_type_rules.specs.Kinds.{promote, meet}
use Rattle.c_constants.specs.declared.constants.Constant.{Constant}
use Rattle.c_constants.specs.declared.constants.Constant.TheVariants.{No, Faulty, Known, Variable, Part, Address, Literal}
use Rattle.c_constants.specs.Constants as constants
use Rattle.c_constants.specs.Constants.{kind_of, value, given, with_one, with_two, of_both, is_zero, truth_value, unary_kind, unary_value, arithmetic, computing_kind, result_kind, binary_value}
use Rattle.c_tree.specs.Rulings.{element_constant}
use Rattle.c_tree.specs.Operators.{field_constant}
use Rattle.c_walk.specs.Tests.{joined}
use Rattle.probe_rules.proofs.SameConstants.{AreAlike}

pub alike_same : {a b : Constant} → a ≡ b → AreAlike a b
alike_same e = record { kinds = ap kind_of e; values = ap value e }

-- what is no integer constant
pub none_alike : (c : Constant) → kind_of c ≡ None → AreAlike No c
none_alike No e = alike_same refl
none_alike (Faulty k) e = cc
none_alike (Known k v) e = cc
none_alike Variable e = record { kinds = refl; values = refl }
none_alike Part e = record { kinds = refl; values = refl }
none_alike Address e = record { kinds = refl; values = refl }
none_alike Literal e = record { kinds = refl; values = refl }

-- ---- of operands that are alike

arithmetic_alike : (o : ArithUnary) {a b : Constant} → AreAlike a b → arithmetic o a ≡ arithmetic o b
arithmetic_alike o p = ap₂ (λ i x. with_one i (λ k. given (unary_kind o k) (option_and_then (unary_value o (promote k)) x))) p.kinds p.values

pub address_none : (c : Constant) → kind_of (constants.address c) ≡ None
address_none No = refl
address_none (Faulty k) = refl
address_none (Known k v) = refl
address_none Variable = refl
address_none Part = refl
address_none Address = refl
address_none Literal = refl

both_none : (a b : Constant) → kind_of a ≡ None → kind_of b ≡ None → AreAlike a b
both_none a b e d =
    let p = none_alike a e in
    let q = none_alike b d in
    record { kinds = e ∙ q.kinds; values = sym p.values ∙ q.values }

pub unary_alike : (u : UnaryOp) {a b : Constant} → AreAlike a b → AreAlike (constants.unary u a) (constants.unary u b)
unary_alike front.AddressOf {a} {b} p = both_none (constants.address a) (constants.address b) (address_none a) (address_none b)
unary_alike front.Deref p = alike_same refl
unary_alike front.Plus p = alike_same (arithmetic_alike one.Plus p)
unary_alike front.Minus p = alike_same (arithmetic_alike one.Minus p)
unary_alike front.Flip p = alike_same (arithmetic_alike one.Flip p)
unary_alike front.Not p = alike_same (arithmetic_alike one.Not p)

-- of two operands, by their types and values
two_alike : (f : Option IntKind → Option IntKind → Option ℤ → Option ℤ → Constant) {a b c d : Constant} → AreAlike a b → AreAlike c d → AreAlike (f (kind_of a) (kind_of c) (value a) (value c)) (f (kind_of b) (kind_of d) (value b) (value d))
two_alike f {a} {b} {c} {d} p q = alike_same (ap₂ (λ i j. f i j (value a) (value c)) p.kinds q.kinds ∙ ap₂ (λ x y. f (kind_of b) (kind_of d) x y) p.values q.values)

pub joined_alike : (u : Infix) {a b c d : Constant} → AreAlike a b → AreAlike c d → AreAlike (joined u a c) (joined u b d)
joined_alike (plain u) p q = two_alike (λ i j x y. with_two i j (λ j k. given (result_kind u j k) (of_both (binary_value u (computing_kind u j k)) x y))) p q
joined_alike and p q = two_alike (λ i j x y. with_two i j (λ j k. given Int (option_and_then (λ x. if is_zero x then Some (pos 0) else option_map truth_value y) x))) p q
joined_alike or p q = two_alike (λ i j x y. with_two i j (λ j k. given Int (option_and_then (λ x. if is_zero x then option_map truth_value y else Some (pos 1)) x))) p q
joined_alike (assign u) p q = alike_same refl
joined_alike comma p q = alike_same refl

pub choice_alike : {a b c d e f : Constant} → AreAlike a b → AreAlike c d → AreAlike e f → AreAlike (constants.choice a c e) (constants.choice b d f)
choice_alike {a} {b} {c} {d} {e} {f} p q r =
    let g : Option IntKind → Option ℤ → Option IntKind → Option ℤ → Option IntKind → Option ℤ → Constant = λ h x i y j z. with_one h (λ i'. with_two i j (λ j k. given (meet j k) (option_and_then (λ x. option_map (wrap (meet j k)) (if is_zero x then z else y)) x))) in
    alike_same (ap₂ (λ h x. g h x (kind_of c) (value c) (kind_of e) (value e)) p.kinds p.values
    ∙ (ap₂ (λ i y. g (kind_of b) (value b) i y (kind_of e) (value e)) q.kinds q.values ∙ ap₂ (λ j z. g (kind_of b) (value b) (kind_of d) (value d) j z) r.kinds r.values))

pub cast_alike : (k : IntKind) {a b : Constant} → AreAlike a b → AreAlike (constants.cast (int k) a) (constants.cast (int k) b)
cast_alike k p = alike_same (ap₂ (λ i x. with_one i (λ j. given k (option_map (wrap k) x))) p.kinds p.values)

-- ---- of what is no integer constant comes none

left_none : (k : Option IntKind) (f : IntKind → IntKind → Constant) → kind_of (with_two None k f) ≡ None
left_none None f = refl
left_none (Some k) f = refl

right_none : (k : Option IntKind) (f : IntKind → IntKind → Constant) → kind_of (with_two k None f) ≡ None
right_none None f = refl
right_none (Some k) f = refl

either_none : (i j : Option IntKind) (f : IntKind → IntKind → Constant) → (i ≡ None) ⊎ (j ≡ None) → kind_of (with_two i j f) ≡ None
either_none i j f (inl e) = ap (λ k. kind_of (with_two k j f)) e ∙ left_none j f
either_none i j f (inr e) = ap (λ k. kind_of (with_two i k f)) e ∙ right_none i f

one_none : (i : Option IntKind) (f : IntKind → Constant) → i ≡ None → kind_of (with_one i f) ≡ None
one_none i f e = ap (λ k. kind_of (with_one k f)) e

pub unary_none : (u : UnaryOp) (a : Constant) → kind_of a ≡ None → kind_of (constants.unary u a) ≡ None
unary_none front.AddressOf a e = address_none a
unary_none front.Deref a e = refl
unary_none front.Plus a e = one_none (kind_of a) _ e
unary_none front.Minus a e = one_none (kind_of a) _ e
unary_none front.Flip a e = one_none (kind_of a) _ e
unary_none front.Not a e = one_none (kind_of a) _ e

pub joined_none : (u : Infix) (a b : Constant) → (kind_of a ≡ None) ⊎ (kind_of b ≡ None) → kind_of (joined u a b) ≡ None
joined_none (plain u) a b h = either_none (kind_of a) (kind_of b) _ h
joined_none and a b h = either_none (kind_of a) (kind_of b) _ h
joined_none or a b h = either_none (kind_of a) (kind_of b) _ h
joined_none (assign u) a b h = refl
joined_none comma a b h = refl

under_one : (i : Option IntKind) (f : IntKind → Constant) → ((k : IntKind) → kind_of (f k) ≡ None) → kind_of (with_one i f) ≡ None
under_one None f h = refl
under_one (Some k) f h = h k

pub test_none : (a b c : Constant) → kind_of a ≡ None → kind_of (constants.choice a b c) ≡ None
test_none a b c e = one_none (kind_of a) _ e

pub branches_none : (a b c : Constant) → (kind_of b ≡ None) ⊎ (kind_of c ≡ None) → kind_of (constants.choice a b c) ≡ None
branches_none a b c h = under_one (kind_of a) _ (λ i. either_none (kind_of b) (kind_of c) _ h)

pub cast_none : (t : TypeOf) (a : Constant) → kind_of a ≡ None → kind_of (constants.cast t a) ≡ None
cast_none (int k) a e = one_none (kind_of a) _ e
cast_none (pointer t) a e = refl
cast_none (array t n) a e = refl
cast_none (structure n) a e = refl
cast_none nothing a e = refl

-- ---- of places there are none

pub variable_none : (b : Bool) → kind_of (if b then Variable else No) ≡ None
variable_none true = refl
variable_none false = refl

part_none : (b : Bool) → kind_of (if b then Part else No) ≡ None
part_none true = refl
part_none false = refl

pub element_none : (k : Option TypeOf) (a : Constant) (l : Option TypeOf) (b : Constant) → kind_of (element_constant k a l b) ≡ None
element_none (Some t) a (Some u) b = part_none (constants.reaches t a b || constants.reaches u b a)
element_none (Some t) a None b = refl
element_none None a l b = refl

pub field_none : (h : Access) (a : Constant) → kind_of (field_constant h a) ≡ None
field_none dot a = part_none (constants.is_place a)
field_none arrow a = refl
