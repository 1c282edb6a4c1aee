-- Rows in turn, the last one first.
use Rattle.std.proofs.Common.{ℕ, ◌<◌, ◌≡◌, List, [], ◌∷◌, ◌++◌, length, get_or, inl, inr, sym, subst, arith}
use Rattle.std.specs.Prelude.{Contains, reverse}
use Rattle.std.proofs.lemmas.List.{reverse-append, reverse-reverse}
use Rattle.std.proofs.lemmas.List.Elements.{Contains-push, Contains-push_cases, Contains-append_left, Contains-append_cases}

contains_back : (xs : List ℕ) (y : ℕ) → Contains xs y → Contains (reverse xs) y
contains_back [] y c = c
contains_back (x ∷ xs) y c = subst (λ l. Contains l y) (sym (reverse-append (x ∷ []) xs)) (elim (Contains-append_cases (x ∷ []) xs y c) [
  | inl h ↦ (elim (Contains-push_cases [] x y h) [ inl none ↦ (let lt = none.1 in absurd (omega arith)) | inr e ↦ subst (Contains (reverse xs ++ x ∷ [])) e (Contains-push (reverse xs) x) ])
  | inr h ↦ Contains-append_left (reverse xs) (x ∷ []) y (contains_back xs y h)
])

pub all_back : (gives old new : List ℕ) → new ≡ reverse old → ((row : ℕ) → (get_or gives row 0 ≡ 0 → ⊥) → Contains old row) → (row : ℕ) → (get_or gives row 0 ≡ 0 → ⊥) → Contains new row
all_back gives old new is all row h = subst (λ l. Contains l row) (sym is) (contains_back old row (all row h))

pub within_back : (gives old new : List ℕ) → new ≡ reverse old → ((row : ℕ) → Contains old row → row < length gives) → (row : ℕ) → Contains new row → row < length gives
within_back gives old new is within row c =
    within row (subst (λ l. Contains l row) (reverse-reverse old) (contains_back (reverse old) row (subst (λ l. Contains l row) is c)))
