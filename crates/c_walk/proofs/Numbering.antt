-- A row of a list that is searched for a number.
use Rattle.std.proofs.Common.{◌≡◌, ℕ, zero, suc, ◌+◌, Bool, true, false, List, [], ◌∷◌, drop, slice_get, Some, refl, ap, sym, ◌∙◌, add-one}
use Rattle.c_tables.specs.Rows.{number_from}

module _ {R : Type 0} where
  -- the test holds at a row
  pub number_here : (test : R → Bool) (n i j : ℕ) (rows : List R) (r : R) → slice_get rows j ≡ Some r → j ≡ i → test r ≡ true → number_from test n (drop i rows) ≡ Some n
  number_here test n i j [] r h e t = cc
  number_here test n zero zero (q ∷ rows) r h e t = let s : q ≡ r = cc in rw (s, t) refl
  number_here test n zero (suc j) (q ∷ rows) r h e t = cc
  number_here test n (suc i) zero (q ∷ rows) r h e t = cc
  number_here test n (suc i) (suc j) (q ∷ rows) r h e t = number_here test n i j rows r h (cc) t

  next_row : (test : R → Bool) (n i j : ℕ) (rows : List R) (r : R) → slice_get rows j ≡ Some r → j ≡ i → test r ≡ false → number_from test n (drop i rows) ≡ number_from test (n + 1) (drop (suc i) rows)
  next_row test n i j [] r h e t = cc
  next_row test n zero zero (q ∷ rows) r h e t = let s : q ≡ r = cc in rw (s, t) refl
  next_row test n zero (suc j) (q ∷ rows) r h e t = cc
  next_row test n (suc i) zero (q ∷ rows) r h e t = cc
  next_row test n (suc i) (suc j) (q ∷ rows) r h e t = next_row test n i j rows r h (cc) t

  -- the test doesn't hold there
  pub number_next : (test : R → Bool) (n i j : ℕ) (rows : List R) (r : R) → slice_get rows j ≡ Some r → j ≡ i → test r ≡ false → number_from test n (drop i rows) ≡ number_from test (n + 1) (drop (i + 1) rows)
  number_next test n i j rows r h e t = next_row test n i j rows r h e t ∙ ap (λ k. number_from test (n + 1) (drop k rows)) (sym (add-one i))
