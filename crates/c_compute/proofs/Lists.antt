-- Cells are appended piece by piece.
use Rattle.std.proofs.Common.{◌≡◌, ℕ, zero, suc, ◌+◌, ◌*◌, ◌-◌, ◌<◌, ◌≤◌, List, [], ◌∷◌, ◌++◌, take, replicate, append_assoc, append-nil, refl, sym, ap, ◌∙◌, arith}
use Rattle.std.specs.List.{repeat}

module _ {A : Type 0} where
  -- one piece more
  pub one_more : (c d one rest all : List A) → d ≡ c ++ one → all ≡ one ++ rest → d ++ rest ≡ c ++ all
  one_more c d one rest all e same = ap (λ x. x ++ rest) e ∙ append_assoc c one rest ∙ ap (λ x. c ++ x) (sym same)

  -- none is left
  pub none_left : (c rest all : List A) → rest ≡ [] → c ++ rest ≡ all → c ≡ all
  none_left c rest all e h = sym (append-nil c) ∙ ap (λ x. c ++ x) (sym e) ∙ h

  -- ---- repeated

  pub repeat_first : (n : ℕ) (xs : List A) → 0 < n → repeat n xs ≡ xs ++ repeat (n - 1) xs
  repeat_first zero xs h = absurd (omega (arith, h))
  repeat_first (suc n) xs h = let k : suc n - 1 ≡ n = omega arith in rw k refl

  repeat_sum : (n m : ℕ) (xs : List A) → repeat n xs ++ repeat m xs ≡ repeat (n + m) xs
  repeat_sum zero m xs = let k : 0 + m ≡ m = omega arith in rw k refl
  repeat_sum (suc n) m xs = let k : suc n + m ≡ suc (n + m) = omega arith in rw k (append_assoc xs (repeat n xs) (repeat m xs) ∙ ap (λ x. xs ++ x) (repeat_sum n m xs))

  pub repeat_product : (n m : ℕ) (xs : List A) → repeat n (repeat m xs) ≡ repeat (n * m) xs
  repeat_product zero m xs = let k : 0 * m ≡ 0 = grind arith in rw k refl
  repeat_product (suc n) m xs = let k : suc n * m ≡ m + n * m = grind arith in rw k (ap (λ x. repeat m xs ++ x) (repeat_product n m xs) ∙ repeat_sum m (n * m) xs)

  pub replicate_first : (n : ℕ) (x : A) → 0 < n → replicate n x ≡ x ∷ replicate (n - 1) x
  replicate_first zero x h = absurd (omega (arith, h))
  replicate_first (suc n) x h = let k : suc n - 1 ≡ n = omega arith in rw k refl

  -- ---- padded

  fewer : (m r : ℕ) (xs : List A) (z : A) → m ≤ r → take m (xs ++ replicate (suc r) z) ≡ take m (xs ++ replicate r z)
  fewer zero r xs z h = refl
  fewer (suc m) zero xs z h = absurd (omega (arith, h))
  fewer (suc m) (suc r) [] z h = ap (λ x. z ∷ x) (fewer m r [] z (omega (arith, h)))
  fewer (suc m) (suc r) (x ∷ xs) z h = ap (λ y. x ∷ y) (fewer m (suc r) xs z (omega (arith, h)))

  pub padded_first : (n : ℕ) (x : A) (xs : List A) (z : A) → 0 < n → take n (x ∷ xs ++ replicate n z) ≡ x ∷ take (n - 1) (xs ++ replicate (n - 1) z)
  padded_first zero x xs z h = absurd (omega (arith, h))
  padded_first (suc n) x xs z h = let k : suc n - 1 ≡ n = omega arith in rw k (ap (λ y. x ∷ y) (fewer n n xs z (omega arith)))

  pub padding_first : (n : ℕ) (z : A) → 0 < n → take n (replicate n z) ≡ z ∷ take (n - 1) (replicate (n - 1) z)
  padding_first zero z h = absurd (omega (arith, h))
  padding_first (suc n) z h = let k : suc n - 1 ≡ n = omega arith in rw k refl
