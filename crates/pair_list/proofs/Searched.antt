-- A row of that kind is looked for in a list: so one is there where it would be absurd that none is.
use Rattle.std.proofs.Common.{ℕ, zero, suc, ◌≡◌, ◌⊎◌, inl, inr, List, [], ◌∷◌, Bool, true, false, refl, sym, subst, ◌∙◌, arith}
use Rattle.std.specs.Prelude.{nat_eq, Contains}
use Rattle.std.proofs.lemmas.Bool.{true≢false}
use Rattle.std.proofs.lemmas.Bool.Decides.{nat_tests}
use Rattle.std.proofs.lemmas.List.Elements.{Contains-append_right}
use Rattle.std.proofs.Math.Logic.{∥∥₁_elim}
use Rattle.flow_parts.proofs.Lists.{none_there}

either_by : (a b : ℕ) (e : Bool) → nat_eq a b ≡ e → (a ≡ b) ⊎ (a ≡ b → ⊥)
either_by a b true e = inl (grind (arith, nat_tests))
either_by a b false e = inr (λ h. true≢false (sym (subst (λ (c : ℕ). nat_eq a c ≡ true) h (grind arith)) ∙ e))

pub either : (a b : ℕ) → (a ≡ b) ⊎ (a ≡ b → ⊥)
either a b = either_by a b (nat_eq a b) refl

bottom_prop : IsProp ⊥
bottom_prop x y = absurd x

module _ {A : Type 0} where
  first_or : (y : A) (xs : List A) (x : A) → Contains (y ∷ xs) x → (y ≡ x) ⊎ Contains xs x
  first_or y xs x (zero, l, e) = inl e
  first_or y xs x (suc k, l, e) = inr (k, omega (arith, l), e)

  abbrev pub Has : (A → Type 0) → List A → Type 0
  Has Q xs = (x : A) × Contains xs x × Q x

  pub find : (Q : A → Type 0) → ((x : A) → Q x ⊎ (Q x → ⊥)) → (xs : List A) → Has Q xs ⊎ (Has Q xs → ⊥)
  find Q by [] = inr (λ h. none_there h.0 h.1)
  find Q by (y ∷ xs) = elim (by y) [
    | inl q ↦ inl (y, (0, omega arith, refl), q)
    | inr other ↦ elim (find Q by xs) [
      | inl h ↦ inl (h.0, Contains-append_right (y ∷ []) xs h.0 h.1, h.2)
      | inr none ↦ inr (λ h. elim (first_or y xs h.0 h.1) [ inl s ↦ other (subst Q (sym s) h.2) | inr c ↦ none (h.0, c, h.2) ])
    ]
  ]

  pub there : {H : Type 0} → (Q : A → Type 0) → ((x : A) → Q x ⊎ (Q x → ⊥)) → (xs : List A) → ∥ H ∥₁ → (H → Has Q xs) → Has Q xs
  there Q by xs held f = elim (find Q by xs) [ inl h ↦ h | inr none ↦ absurd (∥∥₁_elim held bottom_prop (λ h. none (f h))) ]
