-- A row of a list that is searched for a number.
use Rattle.std.proofs.Common.{◌≡◌, ℕ, zero, suc, ◌+◌, ◌-◌, ◌≤◌, Bool, true, false, cond, List, [], ◌∷◌, drop, slice_get, Option, Some, None, refl, ap, sym, ◌∙◌, add-one, arith}
use Rattle.c_tables.specs.Rows.{number_from}

module _ {R : Type 0} where
  -- the test holds at a row
  pub number_here : (test : R → Bool) (n i j : ℕ) (rows : List R) (r : R) → slice_get rows j ≡ Some r → j ≡ i → test r ≡ true → number_from test n (drop i rows) ≡ Some n
  number_here test n i j [] r h e t = cc
  number_here test n zero zero (q ∷ rows) r h e t = let s : q ≡ r = cc in rw (s, t) refl
  number_here test n zero (suc j) (q ∷ rows) r h e t = cc
  number_here test n (suc i) zero (q ∷ rows) r h e t = cc
  number_here test n (suc i) (suc j) (q ∷ rows) r h e t = number_here test n i j rows r h (cc) t

  next_row : (test : R → Bool) (n i j : ℕ) (rows : List R) (r : R) → slice_get rows j ≡ Some r → j ≡ i → test r ≡ false → number_from test n (drop i rows) ≡ number_from test (n + 1) (drop (suc i) rows)
  next_row test n i j [] r h e t = cc
  next_row test n zero zero (q ∷ rows) r h e t = let s : q ≡ r = cc in rw (s, t) refl
  next_row test n zero (suc j) (q ∷ rows) r h e t = cc
  next_row test n (suc i) zero (q ∷ rows) r h e t = cc
  next_row test n (suc i) (suc j) (q ∷ rows) r h e t = next_row test n i j rows r h (cc) t

  -- the test doesn't hold there
  pub number_next : (test : R → Bool) (n i j : ℕ) (rows : List R) (r : R) → slice_get rows j ≡ Some r → j ≡ i → test r ≡ false → number_from test n (drop i rows) ≡ number_from test (n + 1) (drop (i + 1) rows)
  number_next test n i j rows r h e t = next_row test n i j rows r h e t ∙ ap (λ k. number_from test (n + 1) (drop k rows)) (sym (add-one i))

-- where each row that the test takes is one that a wider test takes
module _ {R : Type 0} (test wide : R → Bool) (all_wide : (r : R) → test r ≡ true → wide r ≡ true) where
  narrow : (r : R) (b : Bool) → test r ≡ b → wide r ≡ false → b ≡ false
  narrow r false e f = refl
  narrow r true e f = absurd (let h : true ≡ false = sym (all_wide r e) ∙ f in cc)

  counted_at : (b : Bool) (n m : ℕ) (o : Option ℕ) → cond b (Some n) o ≡ Some m → (o ≡ Some m → n + 1 ≤ m) → n ≤ m
  counted_at true n m o h f = let k : Some n ≡ Some m = h in let l : n ≡ m = cc in omega (arith, l)
  counted_at false n m o h f = let l = f h in omega (arith, l)

  pub number_counted : (n m : ℕ) (rows : List R) → number_from wide n rows ≡ Some m → n ≤ m
  number_counted n m [] e = absurd (let h : None ≡ Some m = e in cc)
  number_counted n m (r ∷ rows) e = counted_at (wide r) n m (number_from wide (n + 1) rows) e (number_counted (n + 1) m rows)

  passed_at : (b : Bool) (n m : ℕ) (r : R) (rows : List R) → wide r ≡ b → cond b (Some n) (number_from wide (n + 1) rows) ≡ Some m
      → (number_from wide (n + 1) rows ≡ Some m → number_from test m (drop (m - (n + 1)) rows) ≡ number_from test (n + 1) rows)
      → number_from test m (drop (m - n) (r ∷ rows)) ≡ number_from test n (r ∷ rows)
  passed_at true n m r rows w h f =
      let k : Some n ≡ Some m = h in
      let l : m ≡ n = cc in
      let z : m - n ≡ 0 = omega (arith, l) in
      rw (z, l) refl
  passed_at false n m r rows w h f =
      let l = number_counted (n + 1) m rows h in
      let d : m - n ≡ suc (m - (n + 1)) = omega (arith, l) in
      rw (d, narrow r (test r) refl w) (f h)

  -- rows before the first that the wider test takes needn't be looked at
  pub number_passed : (n m : ℕ) (rows : List R) → number_from wide n rows ≡ Some m → number_from test m (drop (m - n) rows) ≡ number_from test n rows
  number_passed n m [] e = absurd (let h : None ≡ Some m = e in cc)
  number_passed n m (r ∷ rows) e = passed_at (wide r) n m r rows refl e (number_passed (n + 1) m rows)

  none_at : (b : Bool) (n : ℕ) (r : R) (rows : List R) → wide r ≡ b → cond b (Some n) (number_from wide (n + 1) rows) ≡ None
      → (number_from wide (n + 1) rows ≡ None → number_from test (n + 1) rows ≡ None) → number_from test n (r ∷ rows) ≡ None
  none_at true n r rows w h f = absurd (let k : Some n ≡ None = h in cc)
  none_at false n r rows w h f = rw (narrow r (test r) refl w) (f h)

  -- there is none where the wider test takes none
  pub number_none : (n : ℕ) (rows : List R) → number_from wide n rows ≡ None → number_from test n rows ≡ None
  number_none n [] e = refl
  number_none n (r ∷ rows) e = none_at (wide r) n r rows refl e (number_none (n + 1) rows)
