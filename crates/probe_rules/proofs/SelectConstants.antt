-- The constants of a select are the case constants.
use Rattle.std.proofs.Common.{◌≡◌, ℕ, zero, suc, ◌-◌, ◌^◌, ◌<◌, ◌++◌, ℤ, pos, negsuc, ◌≤ℤ◌, ◌<ℤ◌, List, [], ◌∷◌, Option, Some, None, Bool, true, false, ◌∙◌, refl, sym, ap, ap₂, true≢false, arith}
use Rattle.std.specs.Prelude.{int_le, ◌&&◌, not, if◌then◌else◌}
use Rattle.std.specs.Result.{result_ok}
use Rattle.std.proofs.lemmas.Int.{ints, by_lt_z}
use Rattle.std.proofs.lemmas.Bool.{and_from, and_parts}
use Rattle.c_base.specs.declared.place.Pos.{Pos}
use Rattle.c_base.specs.declared.place.IntKind.{IntKind}
use Rattle.c_base.specs.declared.place.IntKind.TheVariants.{Char, Short, Int, Long, UChar, UShort, UInt, ULong}
use Rattle.c_arith.specs.declared.ArithUnary.TheVariants as one
use Rattle.c_arith.specs.Arith.{least, greatest, InRange, in_range, is_signed, pattern, value_of, wrap, fitted, unary_result}
use Rattle.c_arith.proofs.Patterns.{bounds, pattern_below, value_of-in_range, wrap-only}
use Rattle.c_arith.proofs.Results.{fitted-held}
use Rattle.c_syntax.specs.declared.tree.UnaryOp.TheVariants as front
use Rattle.c_syntax.specs.Shape.{number, char, str, name, unary, before, size_of, plain, and, or, assign, comma, NodeShape, node, leaf, paren, call, prefix, size_of_type, cast, suffix, two, choose, probe, LabelShape, case, default, ItemShapes, no_items, more_items}
use Rattle.c_type_rules.specs.Kinds.{first_with}
use Rattle.c_constants.specs.declared.constants.Constant.{Constant}
use Rattle.c_constants.specs.declared.constants.Constant.TheVariants.{No, Faulty, Known, Variable, Part, Address, Literal}
use Rattle.c_constants.specs.Constants as constants
use Rattle.c_constants.specs.Constants.{given, unary_value}
use Rattle.c_walk.specs.declared.around.Taken.{Taken}
use Rattle.c_walk.specs.declared.around.Taken.TheVariants.{Read}
use Rattle.c_walk.specs.Tests as tests
use Rattle.c_walk.specs.Tests.{noted_constant, number_constant, cast_to, joined, case_value, label_values, case_values}
use Rattle.c_walk.specs.Walked.{operand_taken}
use Rattle.c_meaning.specs.Constants.{constant, label_constants, case_constants, select_constants}
use Rattle.probe_rules.specs.Marks.{constant_at, constants_at}
use Rattle.probe_rules.proofs.Ready.{IsReady, AreReadyLabels, AreReadyItems}
use Rattle.probe_rules.proofs.ReadNumbers.{number_again, zero_again}

-- ---- case constants: without probes the constants are those that the walk counts with

pub walk_constant : (r : Taken) (a : NodeShape) → IsReady r a → constant a ≡ tests.constant a
walk_constant r (node p o n (leaf (number x))) clean = refl
walk_constant r (node p o n (leaf (char x))) clean = refl
walk_constant r (node p o n (leaf (str x))) clean = refl
walk_constant r (node p o n (leaf (name x))) clean = refl
walk_constant r (node p o n (paren a)) clean = ap (noted_constant n) (walk_constant r a clean.1)
walk_constant r (node p o n (call x args)) clean = refl
walk_constant r (node p o n (prefix (unary u) a)) clean = ap (λ z. noted_constant n (constants.unary u z)) (walk_constant (operand_taken u) a clean.1)
walk_constant r (node p o n (prefix (before u) a)) clean = refl
walk_constant r (node p o n (prefix size_of a)) clean = refl
walk_constant r (node p o n (size_of_type y)) clean = refl
walk_constant r (node p o n (cast y a)) clean = ap (λ z. noted_constant n (cast_to n z)) (walk_constant Read a clean.1)
walk_constant r (node p o n (suffix a u)) clean = refl
walk_constant r (node p o n (two (plain u) a b)) clean = ap₂ (λ y z. noted_constant n (constants.binary u y z)) (walk_constant Read a clean.1.0) (walk_constant Read b clean.1.1)
walk_constant r (node p o n (two and a b)) clean = ap₂ (λ y z. noted_constant n (constants.both y z)) (walk_constant Read a clean.1.0) (walk_constant Read b clean.1.1)
walk_constant r (node p o n (two or a b)) clean = ap₂ (λ y z. noted_constant n (constants.either y z)) (walk_constant Read a clean.1.0) (walk_constant Read b clean.1.1)
walk_constant r (node p o n (two (assign u) a b)) clean = refl
walk_constant r (node p o n (two comma a b)) clean = refl
walk_constant r (node p o n (choose a b d)) clean =
    ap (λ z. noted_constant n (constants.choice z (constant b) (constant d))) (walk_constant Read a clean.1.0)
    ∙ ap₂ (λ y z. noted_constant n (constants.choice (tests.constant a) y z)) (walk_constant Read b clean.1.1) (walk_constant Read d clean.1.2)
walk_constant r (node p o n (probe u a)) clean = absurd clean.1

walk_labels : (k : Option IntKind) (labels : List LabelShape) → AreReadyLabels labels → label_constants k labels ≡ label_values k labels
walk_labels k [] clean = refl
walk_labels k (case p a ∷ labels) clean = ap₂ (λ y z. case_value k y ∷ z) (walk_constant Read a clean.0) (walk_labels k labels clean.1)
walk_labels k (default p ∷ labels) clean = walk_labels k labels clean

pub walk_cases : (k : Option IntKind) (items : ItemShapes) → AreReadyItems items → case_constants k items ≡ case_values k items
walk_cases k no_items clean = refl
walk_cases k (more_items labels a rest) clean = ap₂ (λ y z. y ++ z) (walk_labels k labels clean.0) (walk_cases k rest clean.2)

-- ---- values of a kind

wrap_held : (k : IntKind) (z : ℤ) → InRange k z → wrap k z ≡ z
wrap_held k z f = sym (wrap-only k z z (pos 0) f (omega (arith, ints)))

wrap_in_range : (k : IntKind) (z : ℤ) → InRange k (wrap k z)
wrap_in_range k z = value_of-in_range k (pattern k z) (pattern_below k z)

is_in_range : (k : IntKind) (z : ℤ) → InRange k z → in_range k z ≡ true
is_in_range k z f =
    let low : true ≡ int_le (least k) z = omega (arith, ints, f.at_least) in
    let high : true ≡ int_le z (greatest k) = omega (arith, ints, f.at_most) in
    and_from _ _ (sym low) (sym high)

-- minus a value, in a kind that has both
minus_known : (k : IntKind) (n : ℕ) → InRange k (pos (suc n)) → InRange k (negsuc n) → unary_value one.Minus k (pos (suc n)) ≡ Some (negsuc n)
unfolding unary_result
minus_known k n f g =
    ap (λ z. result_ok (unary_result one.Minus k z)) (wrap_held k (pos (suc n)) f)
    ∙ (ap result_ok (fitted-held k (negsuc n) (ap (λ b. is_signed k && not b) (is_in_range k (negsuc n) g) ∙ and_false (is_signed k))) ∙ ap Some (wrap_held k (negsuc n) g))
  where
    and_false : (b : Bool) → (b && false) ≡ false
    and_false true = refl
    and_false false = refl

of_range : (k : IntKind) (z : ℤ) → in_range k z ≡ true → InRange k z
of_range k z e =
    let both = and_parts (int_le (least k) z) (int_le z (greatest k)) e in
    let low = both.0 in
    let high = both.1 in
    record { at_least = omega (arith, ints); at_most = omega (arith, ints) }

out_of_range : (k : IntKind) (n : ℕ) → in_range k (pos n) ≡ false → greatest k <ℤ pos n
out_of_range k n e = by_lt_z (greatest k) (pos n) (λ g. g) (λ g. absurd (true≢false (sym (is_in_range k (pos n) (record { at_least = low k n; at_most = g })) ∙ e)))
  where
    low : (k : IntKind) (n : ℕ) → least k ≤ℤ pos n
    low k n = let b = (bounds k).low in omega (arith, ints)

-- the lowest value of all kinds
deepest : negsuc (2 ^ 63 - 1) ≡ case_value (Some Long) (constants.unary front.Minus (Known ULong (pos (2 ^ 63))))
unfolding pattern value_of fitted unary_result
deepest = refl

deep : (k : IntKind) (n : ℕ) → InRange k (negsuc n) → greatest Long <ℤ pos (suc n) → case_value (Some k) (constants.unary front.Minus (Known ULong (pos (suc n)))) ≡ negsuc n
deep Char n f g = absurd (omega (arith, ints, f.at_least))
deep Short n f g = absurd (omega (arith, ints, f.at_least))
deep Int n f g = absurd (omega (arith, ints, f.at_least))
deep UChar n f g = absurd (omega (arith, ints, f.at_least))
deep UShort n f g = absurd (omega (arith, ints, f.at_least))
deep UInt n f g = absurd (omega (arith, ints, f.at_least))
deep ULong n f g = absurd (omega (arith, ints, f.at_least))
deep Long n f g =
    let e : n ≡ 2 ^ 63 - 1 = omega (arith, ints, f.at_least) in
    ap (λ m. case_value (Some Long) (constants.unary front.Minus (Known ULong (pos (suc m))))) e ∙ (sym deepest ∙ ap negsuc (sym e))

minus_read : (k : IntKind) (n : ℕ) (b d : Bool) → InRange k (negsuc n) → in_range Int (pos (suc n)) ≡ b → in_range Long (pos (suc n)) ≡ d → case_value (Some k) (constants.unary front.Minus (Known (first_with (suc n) (Int ∷ Long ∷ ULong ∷ [])) (pos (suc n)))) ≡ negsuc n
minus_read k n true d f e h =
    let r = of_range Int (pos (suc n)) e in
    ap (λ b. case_value (Some k) (constants.unary front.Minus (Known (if b then Int else first_with (suc n) (Long ∷ ULong ∷ [])) (pos (suc n))))) e
    ∙ (ap (λ z. case_value (Some k) (given Int z)) (minus_known Int n r (record { at_least = omega (arith, ints, r.at_most); at_most = omega (arith, ints) })) ∙ wrap_held k (negsuc n) f)
minus_read k n false true f e h =
    let r = of_range Long (pos (suc n)) h in
    ap₂ (λ b d. case_value (Some k) (constants.unary front.Minus (Known (if b then Int else (if d then Long else first_with (suc n) (ULong ∷ []))) (pos (suc n))))) e h
    ∙ (ap (λ z. case_value (Some k) (given Long z)) (minus_known Long n r (record { at_least = omega (arith, ints, r.at_most); at_most = omega (arith, ints) })) ∙ wrap_held k (negsuc n) f)
minus_read k n false false f e h =
    ap₂ (λ b d. case_value (Some k) (constants.unary front.Minus (Known (if b then Int else (if d then Long else (if in_range ULong (pos (suc n)) then ULong else ULong))) (pos (suc n))))) e h
    ∙ (ap (λ j. case_value (Some k) (constants.unary front.Minus (Known j (pos (suc n))))) (same (in_range ULong (pos (suc n)))) ∙ deep k n f (out_of_range Long (suc n) h))
  where
    same : (b : Bool) → (if b then ULong else ULong) ≡ ULong
    same true = refl
    same false = refl

pub highest : (k : IntKind) (n : ℕ) → InRange k (pos n) → n < 2 ^ 64
highest Char n f = omega (arith, ints, f.at_most)
highest Short n f = omega (arith, ints, f.at_most)
highest Int n f = omega (arith, ints, f.at_most)
highest Long n f = omega (arith, ints, f.at_most)
highest UChar n f = omega (arith, ints, f.at_most)
highest UShort n f = omega (arith, ints, f.at_most)
highest UInt n f = omega (arith, ints, f.at_most)
highest ULong n f = omega (arith, ints, f.at_most)

pub lowest : (k : IntKind) (n : ℕ) → InRange k (negsuc n) → suc n < 2 ^ 64
lowest Char n f = omega (arith, ints, f.at_least)
lowest Short n f = omega (arith, ints, f.at_least)
lowest Int n f = omega (arith, ints, f.at_least)
lowest Long n f = omega (arith, ints, f.at_least)
lowest UChar n f = omega (arith, ints, f.at_least)
lowest UShort n f = omega (arith, ints, f.at_least)
lowest UInt n f = omega (arith, ints, f.at_least)
lowest ULong n f = omega (arith, ints, f.at_least)

zero_in_range : (k : IntKind) → InRange k (pos 0)
zero_in_range k =
    let b = bounds k in
    let low = b.low in
    let high = b.high in
    record { at_least = omega (arith, ints); at_most = omega (arith, ints) }

-- ---- constants as they are written

pub constant_read : (p o : Pos) (k : IntKind) (z : ℤ) → InRange k z → case_value (Some k) (constant (constant_at p o z)) ≡ z
constant_read p o k (pos zero) f = ap (λ x. case_value (Some k) (number_constant x)) zero_again ∙ wrap_held k (pos 0) f
constant_read p o k (pos (suc n)) f = ap (λ x. case_value (Some k) (number_constant x)) (number_again (suc n) (omega arith) (highest k (suc n) f)) ∙ wrap_held k (pos (suc n)) f
constant_read p o k (negsuc n) f =
    ap (λ x. case_value (Some k) (constants.unary front.Minus (number_constant x))) (number_again (suc n) (omega arith) (lowest k n f))
    ∙ minus_read k n (in_range Int (pos (suc n))) (in_range Long (pos (suc n))) f refl refl

-- a case constant of that type
abbrev pub IsCase : Option IntKind → ℤ → Type 0
IsCase (Some k) z = InRange k z
IsCase None z = z ≡ pos 0

abbrev pub AreCases : Option IntKind → List ℤ → Type 0
AreCases k [] = Unit {0}
AreCases k (z ∷ zs) = IsCase k z × AreCases k zs

case_read : (p o : Pos) (k : Option IntKind) (z : ℤ) → IsCase k z → case_value k (constant (constant_at p o z)) ≡ z
case_read p o (Some k) z is = constant_read p o k z is
case_read p o None z is = sym is

value_is_case : (k : Option IntKind) (c : Constant) → IsCase k (case_value k c)
value_is_case (Some k) (Known j v) = wrap_in_range k v
value_is_case (Some k) No = zero_in_range k
value_is_case (Some k) (Faulty j) = zero_in_range k
value_is_case (Some k) Variable = zero_in_range k
value_is_case (Some k) Part = zero_in_range k
value_is_case (Some k) Address = zero_in_range k
value_is_case (Some k) Literal = zero_in_range k
value_is_case None c = refl

labels_are_cases : (k : Option IntKind) (labels : List LabelShape) (zs : List ℤ) → AreCases k zs → AreCases k (label_values k labels ++ zs)
labels_are_cases k [] zs are = are
labels_are_cases k (case p a ∷ labels) zs are = (value_is_case k (tests.constant a), labels_are_cases k labels zs are)
labels_are_cases k (default p ∷ labels) zs are = labels_are_cases k labels zs are

pub items_are_cases : (k : Option IntKind) (items : ItemShapes) → AreCases k (case_values k items)
items_are_cases k no_items = tt
items_are_cases k (more_items labels a rest) = labels_are_cases k labels (case_values k rest) (items_are_cases k rest)

constants_read : (p o : Pos) (k : Option IntKind) (zs : List ℤ) → AreCases k zs → select_constants k (constants_at p o zs) ≡ zs
constants_read p o k [] are = refl
constants_read p o k (z ∷ zs) are = ap₂ (λ y ys. y ∷ ys) (case_read p o k z are.0) (constants_read p o k zs are.1)

pub select_read : (p o : Pos) (k : Option IntKind) (items : ItemShapes) → AreReadyItems items → select_constants k (constants_at p o (case_values k items)) ≡ case_constants k items
select_read p o k items clean = constants_read p o k (case_values k items) (items_are_cases k items) ∙ sym (walk_cases k items clean)
