-- The pairs of definitions that follow each other.
use Rattle.std.proofs.Common.{ℕ, suc, ◌+◌, ◌-◌, ◌<◌, ◌≤◌, ◌≡◌, ◌↔◌, inl, inr, List, [], ◌∷◌, ◌++◌, length, refl, ap, sym, subst, ◌∙◌, arith, append_assoc}
use Rattle.std.proofs.lemmas.List.{append-nil}
use Rattle.flow_marks.specs.Words.{HasBit}
use Rattle.c_sites.specs.declared.numbered.Sites.{Sites}
use Rattle.pair_list.specs.declared.pairs.Pair.{Pair}
use Rattle.pair_list.specs.PairLists.{AreThose, with_uses, pairs_from, items_in, HasMore, Appends, picked}
use Rattle.pair_list.proofs.Picking.{those_both, def_those, first_those, uses_split, pairs_split}

pub appends_none : (P : Pair → Type 0) (uses first : ℕ) (old : List Pair) → Appends P (pairs_from uses first 0) old old
appends_none P uses first old = ([], refl, sym (append-nil old))

module _ (P : Pair → Type 0) (s : Sites) (uses first n low j : ℕ) (hits now : List ℕ) (base old : List Pair) (appends : Appends P (pairs_from uses first n) base old) (same : now ≡ hits) (one_low : 1 ≤ low) (high : low + length hits ≤ uses + 1)
    (is : (k : ℕ) → k < length hits → HasBit hits k j ↔ P (record { def = first + n; used = low + k }))
    (outside : (u : ℕ) → P (record { def = first + n; used = u }) → (low ≤ u) × (u < low + length hits)) where
  pub appends_more : (m : ℕ) (new : List Pair) → m ≡ suc n → new ≡ old ++ picked (first + n) low j now (length now) → Appends P (pairs_from uses first m) base new
  appends_more m new e put =
      let here = picked (first + n) low j hits (length hits) in
      let put' : new ≡ old ++ here = put ∙ ap (λ l. old ++ picked (first + n) low j l (length l)) same in
      subst (λ m. Appends P (pairs_from uses first m) base new) (sym e)
      (appends.0 ++ here, those_both P (pairs_from uses first n) appends.0 (with_uses (first + n) 1 uses) here appends.1 (def_those P (first + n) low j uses hits one_low high is outside), put' ∙ ap (λ l. l ++ here) appends.2 ∙ append_assoc base appends.0 here)

  pub more_now : (count limit : ℕ) → n < count → ((k : ℕ) × (k < length now) × (limit < items_in s (old ++ picked (first + n) low j now (suc k)))) → HasMore P (pairs_from uses first count) s base limit
  more_now count limit lt more =
      let k = more.0 in
      let below : k < length hits = (let l = more.1 in let e = ap length same in omega arith) in
      let here = picked (first + n) low j hits (suc k) in
      let d = first + n in
      let e : uses ≡ low - 1 + suc k + (uses - (low - 1 + suc k)) = omega arith in
      let f : count ≡ suc n + (count - suc n) = omega arith in
      let tail = with_uses d (1 + (low - 1 + suc k)) (uses - (low - 1 + suc k)) in
      let later = pairs_from uses (first + suc n) (count - suc n) in
      record {
        first = pairs_from uses first n ++ with_uses d 1 (low - 1 + suc k);
        rest = tail ++ later;
        is_all = ap (pairs_from uses first) f ∙ pairs_split uses first (suc n) (count - suc n)
            ∙ ap (λ l. (pairs_from uses first n ++ l) ++ later) (ap (with_uses d 1) e ∙ uses_split d 1 (low - 1 + suc k) (uses - (low - 1 + suc k)))
            ∙ ap (λ l. l ++ later) (sym (append_assoc (pairs_from uses first n) (with_uses d 1 (low - 1 + suc k)) tail))
            ∙ append_assoc (pairs_from uses first n ++ with_uses d 1 (low - 1 + suc k)) tail later;
        some = appends.0 ++ here;
        are = those_both P (pairs_from uses first n) appends.0 (with_uses d 1 (low - 1 + suc k)) here appends.1 (first_those P d low j uses hits one_low high is outside (suc k) (omega arith));
        more = subst (λ l. limit < items_in s l) (ap (λ l. l ++ here) appends.2 ∙ append_assoc base appends.0 here) (subst (λ l. limit < items_in s (old ++ picked d low j l (suc k))) same more.2);
      }

-- one run behind another
pub appends_both : (P : Pair → Type 0) (uses first m n : ℕ) (base old new : List Pair) → Appends P (pairs_from uses first m) base old → Appends P (pairs_from uses (first + m) n) old new → Appends P (pairs_from uses first (m + n)) base new
appends_both P uses first m n base old new a b = subst (λ l. Appends P l base new) (sym (pairs_split uses first m n))
    (a.0 ++ b.0, those_both P (pairs_from uses first m) a.0 (pairs_from uses (first + m) n) b.0 a.1 b.1, b.2 ∙ ap (λ l. l ++ b.0) a.2 ∙ append_assoc base a.0 b.0)

pub more_later : (P : Pair → Type 0) (s : Sites) (uses first m n count limit : ℕ) (base old : List Pair) → m + n ≤ count → Appends P (pairs_from uses first m) base old → HasMore P (pairs_from uses (first + m) n) s old limit → HasMore P (pairs_from uses first count) s base limit
more_later P s uses first m n count limit base old le a h =
    let f : count ≡ m + n + (count - (m + n)) = omega arith in
    let later = pairs_from uses (first + (m + n)) (count - (m + n)) in
    record {
      first = pairs_from uses first m ++ h.first;
      rest = h.rest ++ later;
      is_all = ap (pairs_from uses first) f ∙ pairs_split uses first (m + n) (count - (m + n)) ∙ ap (λ l. l ++ later) (pairs_split uses first m n ∙ ap (λ l. pairs_from uses first m ++ l) h.is_all ∙ sym (append_assoc (pairs_from uses first m) h.first h.rest)) ∙ append_assoc (pairs_from uses first m ++ h.first) h.rest later;
      some = a.0 ++ h.some;
      are = those_both P (pairs_from uses first m) a.0 h.first h.some a.1 h.are;
      more = subst (λ l. limit < items_in s l) (ap (λ l. l ++ h.some) a.2 ∙ append_assoc base a.0 h.some) h.more;
    }

-- and the same where two say the same of each pair
pub those_same : (P Q : Pair → Type 0) → ((p : Pair) → P p ↔ Q p) → (xs ys : List Pair) → AreThose P xs ys → AreThose Q xs ys
those_same P Q same [] ys a = a
those_same P Q same (x ∷ xs) ys (inl a) = inl (a.0, (same x).0 a.1, a.2, those_same P Q same xs a.0 a.3)
those_same P Q same (x ∷ xs) ys (inr a) = inr ((λ q. a.0 ((same x).1 q)), those_same P Q same xs ys a.1)

pub appends_same : (P Q : Pair → Type 0) → ((p : Pair) → P p ↔ Q p) → (all old new : List Pair) → Appends P all old new → Appends Q all old new
appends_same P Q same all old new a = (a.0, those_same P Q same all a.0 a.1, a.2)

pub more_same : (P Q : Pair → Type 0) → ((p : Pair) → P p ↔ Q p) → (all base : List Pair) (s : Sites) (limit : ℕ) → HasMore P all s base limit → HasMore Q all s base limit
more_same P Q same all base s limit h = record { first = h.first; rest = h.rest; is_all = h.is_all; some = h.some; are = those_same P Q same h.first h.some h.are; more = h.more }
