-- The pairs that are picked are those that P holds of.
use Rattle.std.proofs.Common.{ℕ, zero, suc, ◌+◌, ◌-◌, ◌<◌, ◌≤◌, ◌≡◌, ◌↔◌, inl, inr, List, [], ◌∷◌, ◌++◌, length, get_or, Bool, true, false, cond, refl, ap, sym, subst, ◌∙◌, arith, append_assoc}
use Rattle.std.specs.Prelude.{◌==◌}
use Rattle.std.specs.Int.{bit_at}
use Rattle.std.proofs.lemmas.List.{append-nil}
use Rattle.std.proofs.lemmas.List.Sums.{sum_by_push}
use Rattle.std.proofs.lemmas.Bool.{eqb-true, eq-eqb}
use Rattle.flow_marks.specs.Words.{HasBit}
use Rattle.c_sites.specs.declared.numbered.Sites.{Sites}
use Rattle.pair_list.specs.declared.pairs.Pair.{Pair}
use Rattle.pair_list.specs.PairLists.{AreThose, with_uses, pairs_from, weight, items_in, picked}

pub items_push : (s : Sites) (pairs : List Pair) (p : Pair) → items_in s (pairs ++ p ∷ []) ≡ items_in s pairs + weight s p.used
items_push s pairs p = sum_by_push (λ p. weight s p.used) pairs p

-- one use more, whose word has the bit or doesn't
pub picked_hit : (d low j : ℕ) (hits : List ℕ) (n : ℕ) (hit : Bool) → hit ≡ (bit_at (get_or hits n 0) j == 1) → hit ≡ true → picked d low j hits (suc n) ≡ picked d low j hits n ++ record { def = d; used = low + n } ∷ []
picked_hit d low j hits n hit e is = ap (λ b. picked d low j hits n ++ cond b (record { def = d; used = low + n } ∷ []) []) (sym e ∙ is)

pub picked_missed : (d low j : ℕ) (hits : List ℕ) (n : ℕ) (hit : Bool) → hit ≡ (bit_at (get_or hits n 0) j == 1) → hit ≡ false → picked d low j hits (suc n) ≡ picked d low j hits n
picked_missed d low j hits n hit e is = ap (λ b. picked d low j hits n ++ cond b (record { def = d; used = low + n } ∷ []) []) (sym e ∙ is) ∙ append-nil (picked d low j hits n)

module _ (P : Pair → Type 0) where
  pub those_both : (xs ys xs' ys' : List Pair) → AreThose P xs ys → AreThose P xs' ys' → AreThose P (xs ++ xs') (ys ++ ys')
  those_both [] ys xs' ys' a b = subst (λ l. AreThose P xs' (l ++ ys')) (sym a) b
  those_both (x ∷ xs) ys xs' ys' (inl a) b = inl (a.0 ++ ys', a.1, ap (λ l. l ++ ys') a.2, those_both xs a.0 xs' ys' a.3 b)
  those_both (x ∷ xs) ys xs' ys' (inr a) b = inr (a.0, those_both xs ys xs' ys' a.1 b)

  one : (x : Pair) (b : Bool) → (P x → b ≡ true) → (b ≡ true → P x) → AreThose P (x ∷ []) (cond b (x ∷ []) [])
  one x true all only = inl ([], only refl, refl, refl)
  one x false all only = inr ((λ p. let e = all p in absurd (cc)), refl)

  -- none of the definition's pairs with these uses
  pub none_those : (d first n : ℕ) → ((k : ℕ) → k < n → P (record { def = d; used = first + k }) → ⊥) → AreThose P (with_uses d first n) []
  none_those d first zero none = refl
  none_those d first (suc n) none = those_both (with_uses d first n) [] (record { def = d; used = first + n } ∷ []) [] (none_those d first n (λ k lt. none k (omega arith))) (inr (none n (omega arith), refl))

  pub picked_those : (d low j : ℕ) (hits : List ℕ) (n : ℕ) → n ≤ length hits → ((k : ℕ) → k < length hits → HasBit hits k j ↔ P (record { def = d; used = low + k })) → AreThose P (with_uses d low n) (picked d low j hits n)
  picked_those d low j hits zero le is = refl
  picked_those d low j hits (suc n) le is = those_both (with_uses d low n) (picked d low j hits n) (record { def = d; used = low + n } ∷ []) (cond (bit_at (get_or hits n 0) j == 1) (record { def = d; used = low + n } ∷ []) []) (picked_those d low j hits n (omega arith) is)
      (one (record { def = d; used = low + n }) (bit_at (get_or hits n 0) j == 1) (λ p. eq-eqb (bit_at (get_or hits n 0) j) 1 ((is n (omega arith)).1 p)) (λ e. (is n (omega arith)).0 (eqb-true (bit_at (get_or hits n 0) j) 1 e)))

-- uses in parts
pub uses_split : (d first m n : ℕ) → with_uses d first (m + n) ≡ with_uses d first m ++ with_uses d (first + m) n
uses_split d first m zero = let e : m + zero ≡ m = omega arith in ap (with_uses d first) e ∙ sym (append-nil (with_uses d first m))
uses_split d first m (suc n) =
    let e : m + suc n ≡ suc (m + n) = omega arith in
    let f : first + (m + n) ≡ first + m + n = omega arith in
    ap (with_uses d first) e ∙ ap (λ l. l ++ record { def = d; used = first + (m + n) } ∷ []) (uses_split d first m n) ∙ ap (λ u. (with_uses d first m ++ with_uses d (first + m) n) ++ record { def = d; used = u } ∷ []) f ∙ append_assoc (with_uses d first m) (with_uses d (first + m) n) (record { def = d; used = first + m + n } ∷ [])

-- definitions in parts
pub pairs_split : (uses first m n : ℕ) → pairs_from uses first (m + n) ≡ pairs_from uses first m ++ pairs_from uses (first + m) n
pairs_split uses first m zero = let e : m + zero ≡ m = omega arith in ap (pairs_from uses first) e ∙ sym (append-nil (pairs_from uses first m))
pairs_split uses first m (suc n) =
    let e : m + suc n ≡ suc (m + n) = omega arith in
    let f : first + (m + n) ≡ first + m + n = omega arith in
    ap (pairs_from uses first) e ∙ ap (λ l. l ++ with_uses (first + (m + n)) 1 uses) (pairs_split uses first m n) ∙ ap (λ d. (pairs_from uses first m ++ pairs_from uses (first + m) n) ++ with_uses d 1 uses) f ∙ append_assoc (pairs_from uses first m) (pairs_from uses (first + m) n) (with_uses (first + m + n) 1 uses)

-- where uses outside of a span are in no pair, the whole of a definition's pairs is what is picked there
module _ (P : Pair → Type 0) (d low j uses : ℕ) (hits : List ℕ) (one_low : 1 ≤ low) (high : low + length hits ≤ uses + 1)
    (is : (k : ℕ) → k < length hits → HasBit hits k j ↔ P (record { def = d; used = low + k }))
    (outside : (u : ℕ) → P (record { def = d; used = u }) → (low ≤ u) × (u < low + length hits)) where
  before : AreThose P (with_uses d 1 (low - 1)) []
  before = none_those P d 1 (low - 1) (λ k lt p. let b = (outside (1 + k) p).0 in omega arith)

  behind : AreThose P (with_uses d (low + length hits) (uses + 1 - (low + length hits))) []
  behind = none_those P d (low + length hits) (uses + 1 - (low + length hits)) (λ k lt p. let b = (outside (low + length hits + k) p).1 in omega arith)

  pub first_those : (n : ℕ) → n ≤ length hits → AreThose P (with_uses d 1 (low - 1 + n)) (picked d low j hits n)
  first_those n le = subst (λ l. AreThose P l (picked d low j hits n)) (sym (uses_split d 1 (low - 1) n))
      (those_both P (with_uses d 1 (low - 1)) [] (with_uses d (1 + (low - 1)) n) (picked d low j hits n) before
      (subst (λ x. AreThose P (with_uses d x n) (picked d low j hits n)) (omega arith) (picked_those P d low j hits n le is)))

  pub def_those : AreThose P (with_uses d 1 uses) (picked d low j hits (length hits))
  def_those =
      let e : uses ≡ low - 1 + length hits + (uses + 1 - (low + length hits)) = omega arith in
      let f : 1 + (low - 1 + length hits) ≡ low + length hits = omega arith in
      subst (λ n. AreThose P (with_uses d 1 n) (picked d low j hits (length hits))) (sym e)
      (subst (λ l. AreThose P l (picked d low j hits (length hits))) (sym (uses_split d 1 (low - 1 + length hits) (uses + 1 - (low + length hits))))
      (subst (λ l. AreThose P (with_uses d 1 (low - 1 + length hits) ++ with_uses d (1 + (low - 1 + length hits)) (uses + 1 - (low + length hits))) l) (append-nil (picked d low j hits (length hits)))
      (those_both P (with_uses d 1 (low - 1 + length hits)) (picked d low j hits (length hits)) (with_uses d (1 + (low - 1 + length hits)) (uses + 1 - (low + length hits))) [] (first_those (length hits) (omega arith))
      (subst (λ x. AreThose P (with_uses d x (uses + 1 - (low + length hits))) []) (sym f) behind))))

-- there is one such list
pub those_one : (P : Pair → Type 0) (xs ys zs : List Pair) → AreThose P xs ys → AreThose P xs zs → ys ≡ zs
those_one P [] ys zs a b = a ∙ sym b
those_one P (x ∷ xs) ys zs (inl a) (inl b) = a.2 ∙ ap (λ l. x ∷ l) (those_one P xs a.0 b.0 a.3 b.3) ∙ sym b.2
those_one P (x ∷ xs) ys zs (inl a) (inr b) = absurd (b.0 a.1)
those_one P (x ∷ xs) ys zs (inr a) (inl b) = absurd (a.0 b.1)
those_one P (x ∷ xs) ys zs (inr a) (inr b) = those_one P xs ys zs a.1 b.1
