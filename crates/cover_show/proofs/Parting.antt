-- The items on a line, before those on the lines behind it.
use Rattle.std.proofs.Common.{◌≡◌, ℕ, suc, ◌+◌, ◌≤◌, eqb, true, false, cond, List, [], ◌∷◌, take, drop, sym, ap, ◌∙◌, subst, inl, inr, arith}
use Rattle.std.proofs.lemmas.Bool.{cases_Bool}
use Rattle.std.proofs.lemmas.Bool.Decides.{nat_tests}
use Rattle.std.proofs.lemmas.List.Elements.{All-nil, All-cons}
use Rattle.std.specs.List.{All, prefix_len}
use Rattle.cover_show.specs.declared.missed.Missed.{Missed}
use Rattle.cover_show.specs.Missed.{is_on, Rises}

on : (m n : ℕ) → eqb m n ≡ true → m ≡ n
on m n e = grind (arith, nat_tests)

off : (m n : ℕ) → eqb m n ≡ false → n ≤ m → n + 1 ≤ m
off m n e h = grind (arith, nat_tests)

-- so many more
more : (n : ℕ) (m : Missed) (ms : List Missed) → is_on n m ≡ true → suc (prefix_len (is_on n) ms) ≡ prefix_len (is_on n) (m ∷ ms)
more n m ms e = let one : suc (prefix_len (is_on n) ms) ≡ 1 + prefix_len (is_on n) ms = omega arith in one ∙ sym (ap (λ t. cond t (1 + prefix_len (is_on n) ms) 0) e)

no_more : (n : ℕ) (m : Missed) (ms : List Missed) → is_on n m ≡ false → 0 ≡ prefix_len (is_on n) (m ∷ ms)
no_more n m ms e = sym (ap (λ t. cond t (1 + prefix_len (is_on n) ms) 0) e)

on_it : (n : ℕ) (ms : List Missed) → All (λ m. m.line ≡ n) (take (prefix_len (is_on n) ms) ms)
on_it n [] = All-nil (λ m. m.line ≡ n)
on_it n (m ∷ ms) =
    let P : ℕ → Type 0 = λ k. All (λ m. m.line ≡ n) (take k (m ∷ ms)) in
    elim (cases_Bool (is_on n m)) [
      | inl e ↦ subst P (more n m ms e) (All-cons (λ m. m.line ≡ n) m (take (prefix_len (is_on n) ms) ms) (on m.line n e) (on_it n ms))
      | inr e ↦ subst P (no_more n m ms e) (All-nil (λ m. m.line ≡ n))
    ]

behind_it : (n : ℕ) (ms : List Missed) → Rises n ms → Rises (n + 1) (drop (prefix_len (is_on n) ms) ms)
behind_it n [] h = tt
behind_it n (m ∷ ms) h =
    let P : ℕ → Type 0 = λ k. Rises (n + 1) (drop k (m ∷ ms)) in
    let Q : ℕ → Type 0 = λ low. Rises low ms in
    elim (cases_Bool (is_on n m)) [
      | inl e ↦ subst P (more n m ms e) (behind_it n ms (subst Q (on m.line n e) h.1))
      | inr e ↦ subst P (no_more n m ms e) (off m.line n e h.0, h.1)
    ]

-- AS THE CODE PARTS THEM

pub here : (n k : ℕ) (ms front : List Missed) → k ≡ prefix_len (is_on n) ms → front ≡ take k ms → All (λ m. m.line ≡ n) front
here n k ms front many e = let P : List Missed → Type 0 = λ l. All (λ m. m.line ≡ n) l in subst P (sym (e ∙ ap (λ k. take k ms) many)) (on_it n ms)

pub behind : (n k : ℕ) (ms back : List Missed) → k ≡ prefix_len (is_on n) ms → back ≡ drop k ms → Rises n ms → Rises (n + 1) back
behind n k ms back many e h = let P : List Missed → Type 0 = λ l. Rises (n + 1) l in subst P (sym (e ∙ ap (λ k. drop k ms) many)) (behind_it n ms h)
