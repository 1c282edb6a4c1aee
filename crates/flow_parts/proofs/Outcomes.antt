-- The outcomes of decisions, by the decisions' numbers.
use Rattle.std.proofs.Common.{◌≡◌, ◌⊎◌, ℕ, zero, suc, ◌+◌, ◌≤◌, ◌++◌, List, [], ◌∷◌, Bool, true, false, Option, if◌then◌else◌, inl, inr, refl, ap, sym, subst, arith}
use Rattle.std.specs.Prelude.{ℤ, length, Contains}
use Rattle.std.proofs.lemmas.List.Elements.{Contains-append_right}
use Rattle.c_base.specs.declared.place.IntKind.{IntKind}
use Rattle.c_base.specs.declared.place.Pos.{Pos}
use Rattle.c_base.specs.declared.labels.OutcomeLabel.{OutcomeLabel}
use Rattle.c_base.specs.declared.labels.OutcomeLabel.TheVariants.{True, False, Case, Rest}
use Rattle.c_syntax.specs.Shape.{number, char, str, name, NodeShape, node, ExprShape, leaf, paren, call, prefix, size_of_type, cast, suffix, two, choose, probe, LabelShape, case, default, ItemShapes, no_items, more_items}
use Rattle.c_constants.specs.declared.constants.Constant.{Constant}
use Rattle.c_constants.specs.declared.constants.Constant.TheVariants.{No, Faulty, Known, Variable, Part, Address, Literal}
use Rattle.c_constants.specs.Numbers.{number_of}
use Rattle.c_constants.specs.Constants as constants
use Rattle.c_walk.specs.Items.{Outcomes, both, only_true, only_false, cases, case_labels, labels, Item, decision}
use Rattle.c_walk.specs.Sound.{decision_count}
use Rattle.c_walk.specs.Tests.{outcome_of, number_constant, outcomes, outcomes_of_form, label_values, case_values}
use Rattle.c_walk.specs.Stating.{case_count}

-- the decision of that number may come to that outcome
pub record Tested (all : List Item) (k o : ℕ) : Type 0 where
  pub pre : List Item
  pub place : Pos
  pub outcomes : Outcomes
  pub rest : List Item
  pub is : all ≡ pre ++ decision place outcomes ∷ rest
  pub number : k ≡ suc (decision_count pre)
  pub label : OutcomeLabel
  pub listed : Contains (labels outcomes) (o, label)

abbrev pub Tests : List Item → ℕ → ℕ → Type 0
Tests all d n = (o : ℕ) → 1 ≤ o → o ≤ n → Tested all d o

-- ---- true and false

abbrev pub HasOutcome : Outcomes → ℕ → Type 0
HasOutcome q o = (l : OutcomeLabel) × Contains (labels q) (o, l)

abbrev pub IsPlain : Outcomes → Type 0
IsPlain (cases vs) = ⊥
IsPlain q = Unit {0}

-- those of an expression, or of one that may come to both
abbrev pub Under : Outcomes → Outcomes → Type 0
Under o q = (o ≡ q) ⊎ (q ≡ both)

plain_if : (b : Bool) → IsPlain (if b then only_false else only_true)
plain_if true = tt
plain_if false = tt

plain_outcome : (c : Constant) → IsPlain (outcome_of c)
plain_outcome (Known k v) = plain_if (constants.is_zero v)
plain_outcome No = tt
plain_outcome (Faulty k) = tt
plain_outcome Variable = tt
plain_outcome Part = tt
plain_outcome Address = tt
plain_outcome Literal = tt

mutual
  plain_node : (a : NodeShape) → IsPlain (outcomes a)
  plain_node (node p o n f) = plain_outcomes f

  pub plain_outcomes : (f : ExprShape) → IsPlain (outcomes_of_form f)
  plain_outcomes (paren a) = plain_node a
  plain_outcomes (leaf (number t)) = plain_outcome (number_constant (number_of t))
  plain_outcomes (leaf (char c)) = plain_outcome (constants.character c)
  plain_outcomes (leaf (str x)) = tt
  plain_outcomes (leaf (name x)) = tt
  plain_outcomes (call x args) = tt
  plain_outcomes (prefix u a) = tt
  plain_outcomes (size_of_type y) = tt
  plain_outcomes (cast y a) = tt
  plain_outcomes (suffix a u) = tt
  plain_outcomes (two u a b) = tt
  plain_outcomes (choose a b c) = tt
  plain_outcomes (probe u a) = tt

-- what an expression that comes to these outcomes may meet
abbrev pub Met : Outcomes → Outcomes → Type 0
Met both q = HasOutcome q 1 × HasOutcome q 2
Met only_true q = HasOutcome q 1
Met only_false q = HasOutcome q 2
Met (cases vs) q = HasOutcome q 1 × HasOutcome q 2

met_both : (o : Outcomes) → Met o both
met_both both = ((True, (0, omega arith, refl)), (False, (1, omega arith, refl)))
met_both only_true = (True, (0, omega arith, refl))
met_both only_false = (False, (1, omega arith, refl))
met_both (cases vs) = ((True, (0, omega arith, refl)), (False, (1, omega arith, refl)))

met_itself : (q : Outcomes) → IsPlain q → Met q q
met_itself both p = met_both both
met_itself only_true p = (True, (0, omega arith, refl))
met_itself only_false p = (False, (0, omega arith, refl))
met_itself (cases vs) p = absurd p

pub two_outcomes : (q o : Outcomes) → Under o q → IsPlain q → Met o q
two_outcomes q o (inl e) p = subst (λ z. Met z q) (sym e) (met_itself q p)
two_outcomes q o (inr e) p = subst (Met o) (sym e) (met_both o)

-- ---- cases

pub case_outcomes : (i : ℕ) (vs : List ℤ) (o : ℕ) → i ≤ o → o ≤ i + length vs → (l : OutcomeLabel) × Contains (case_labels i vs) (o, l)
case_outcomes i [] o a b = (Rest, (0, omega arith, ap (λ (n : ℕ). (n, Rest)) (omega (arith, a, b))))
case_outcomes i (v ∷ vs) o a b = elim (order i o a) [
  | inl e ↦ (Case v, (0, omega arith, ap (λ (n : ℕ). (n, Case v)) e))
  | inr lt ↦ let m = case_outcomes (i + 1) vs o lt (omega (arith, b)) in (m.0, Contains-append_right ((i, Case v) ∷ []) (case_labels (i + 1) vs) (o, m.0) m.1)
]
  where
    order : (i o : ℕ) → i ≤ o → (i ≡ o) ⊎ (i + 1 ≤ o)
    order zero zero a = inl refl
    order zero (suc o) a = inr (omega arith)
    order (suc i) zero a = absurd (omega (arith, a))
    order (suc i) (suc o) a = elim (order i o (omega (arith, a))) [ inl e ↦ inl (ap suc e) | inr lt ↦ inr (omega (arith, lt)) ]

-- how many labels of these items are cases
abbrev pub all_cases : ItemShapes → ℕ
all_cases no_items = 0
all_cases (more_items labels a rest) = case_count labels + all_cases rest

both_lengths : (xs ys : List ℤ) → length (xs ++ ys) ≡ length xs + length ys
both_lengths [] ys = omega arith
both_lengths (x ∷ xs) ys = let e = both_lengths xs ys in omega (arith, e)

labels_counted : (k : Option IntKind) (ls : List LabelShape) → length (label_values k ls) ≡ case_count ls
labels_counted k [] = refl
labels_counted k (case p a ∷ ls) = let e = labels_counted k ls in omega (arith, e)
labels_counted k (default p ∷ ls) = labels_counted k ls

pub cases_counted : (k : Option IntKind) (items : ItemShapes) → length (case_values k items) ≡ all_cases items
cases_counted k no_items = refl
cases_counted k (more_items labels a rest) =
    let e = both_lengths (label_values k labels) (case_values k rest) in
    let f = labels_counted k labels in
    let g = cases_counted k rest in
    omega (arith, e, f, g)
