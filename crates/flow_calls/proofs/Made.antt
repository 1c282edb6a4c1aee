-- The instance of a variable that an activation made last.
use Rattle.std.proofs.Common.{ℕ, List, [], ◌∷◌, ◌++◌, ◌≡◌, inl, inr, refl, ap, ◌∙◌, Option, Some, None, Bool, true, false}
use Rattle.std.specs.Prelude.{nat_eq, if◌then◌else◌}
use Rattle.c_meaning.specs.State.{Act, Deed, or_else}
use Rattle.flow_calls.specs.Placing.{Sites, made_in, made_by, last_made}
use Rattle.flow_calls.proofs.Lists.{some_not, or_assoc, or_some, are_equal}

module _ (S : Sites) where
  or_nothing : (p : Option ℕ) → p ≡ or_else p None
  or_nothing None = refl
  or_nothing (Some j) = refl

  pub last_append : (a x : ℕ) (xs ys : List Deed) → last_made S a x (xs ++ ys) ≡ or_else (last_made S a x ys) (last_made S a x xs)
  last_append a x [] ys = or_nothing (last_made S a x ys)
  last_append a x (d ∷ xs) ys = ap (λ o. or_else o (made_by S a x d)) (last_append a x xs ys) ∙ or_assoc (last_made S a x ys) (last_made S a x xs) (made_by S a x d)

  pub last_without : (a x : ℕ) (xs ys : List Deed) → last_made S a x ys ≡ None → last_made S a x (xs ++ ys) ≡ last_made S a x xs
  last_without a x xs ys e = last_append a x xs ys ∙ ap (λ o. or_else o (last_made S a x xs)) e

  only_if : (b : Bool) (o : Option ℕ) (j : ℕ) → (if b then o else None) ≡ Some j → (b ≡ true) × (o ≡ Some j)
  only_if true o j e = (refl, e)
  only_if false o j e = absurd (some_not j e)

  deed_is : (d : Deed) (a : ℕ) → d.activation ≡ a → d ≡ record { activation = a; act = d.act }
  deed_is d a e = ap (λ n. record { activation = n; act = d.act }) e

  -- the act that made it, and no other behind it
  pub record Maker (a x j : ℕ) (ds : List Deed) : Type 0 where
    pub front : List Deed
    pub rest : List Deed
    pub act : Act
    pub is : ds ≡ front ++ record { activation = a; act = act } ∷ rest
    pub makes_it : made_in S x act ≡ Some j
    pub none : last_made S a x rest ≡ None

  pub made_there : (a x j : ℕ) (ds : List Deed) → last_made S a x ds ≡ Some j → Maker a x j ds
  made_there a x j [] e = absurd (some_not j e)
  made_there a x j (d ∷ rest) e = elim (or_some (last_made S a x rest) (made_by S a x d) j e) [
    | inl s ↦ (let h = made_there a x j rest s in record { front = d ∷ h.front; rest = h.rest; act = h.act; is = ap (λ z. d ∷ z) h.is; makes_it = h.makes_it; none = h.none })
    | inr s ↦ (let h = only_if (nat_eq d.activation a) (made_in S x d.act) j s.1 in record { front = []; rest = rest; act = d.act; is = ap (λ z. z ∷ rest) (deed_is d a (are_equal d.activation a h.0)); makes_it = h.1; none = s.0 })
  ]
