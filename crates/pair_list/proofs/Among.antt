-- The pairs that one predicate holds of are those of another, where the two say the same of each pair of the list.
use Rattle.std.proofs.Common.{ℕ, zero, suc, ◌+◌, ◌<◌, ◌≤◌, ◌≡◌, ◌↔◌, inl, inr, List, [], ◌∷◌, ◌++◌, refl, ap, sym, subst, ◌∙◌, arith}
use Rattle.std.specs.List.{AllByRecursion}
use Rattle.std.proofs.lemmas.List.Sums.{sum_by-append}
use Rattle.c_sites.specs.declared.numbered.Sites.{Sites}
use Rattle.pair_list.specs.declared.pairs.Pair.{Pair}
use Rattle.pair_list.specs.PairLists.{AreThose, with_uses, pairs_from, weight, items_in, HasMore, Appends}
use Rattle.pair_list.proofs.Picking.{those_one}

each_both : (R : Pair → Type 0) (xs ys : List Pair) → AllByRecursion R xs → AllByRecursion R ys → AllByRecursion R (xs ++ ys)
each_both R [] ys a b = b
each_both R (x ∷ xs) ys a b = (a.0, each_both R xs ys a.1 b)

each_first : (R : Pair → Type 0) (xs ys : List Pair) → AllByRecursion R (xs ++ ys) → AllByRecursion R xs
each_first R [] ys a = tt
each_first R (x ∷ xs) ys a = (a.0, each_first R xs ys a.1)

each_with : (R : Pair → Type 0) (d first n : ℕ) → ((u : ℕ) → first ≤ u → u < first + n → R (record { def = d; used = u })) → AllByRecursion R (with_uses d first n)
each_with R d first zero h = tt
each_with R d first (suc n) h = each_both R (with_uses d first n) (record { def = d; used = first + n } ∷ []) (each_with R d first n (λ u l m. h u l (omega arith))) (h (first + n) (omega arith) (omega arith), tt)

-- what holds of each pair of these definitions and uses holds of each pair of their run
pub each_from : (R : Pair → Type 0) (uses first n : ℕ) → ((d u : ℕ) → first ≤ d → d < first + n → 1 ≤ u → u < 1 + uses → R (record { def = d; used = u })) → AllByRecursion R (pairs_from uses first n)
each_from R uses first zero h = tt
each_from R uses first (suc n) h = each_both R (pairs_from uses first n) (with_uses (first + n) 1 uses) (each_from R uses first n (λ d u l m. h d u l (omega arith))) (each_with R (first + n) 1 uses (λ u l m. h (first + n) u (omega arith) (omega arith) l m))

pub none_among : (P : Pair → Type 0) (xs : List Pair) → AllByRecursion (λ p. P p → ⊥) xs → AreThose P xs []
none_among P [] a = refl
none_among P (x ∷ xs) a = inr (a.0, none_among P xs a.1)

pub those_among : (P Q : Pair → Type 0) (xs ys : List Pair) → AllByRecursion (λ p. P p ↔ Q p) xs → AreThose P xs ys → AreThose Q xs ys
those_among P Q [] ys h a = a
those_among P Q (x ∷ xs) ys h (inl a) = inl (a.0, h.0.0 a.1, a.2, those_among P Q xs a.0 h.1 a.3)
those_among P Q (x ∷ xs) ys h (inr a) = inr ((λ q. a.0 (h.0.1 q)), those_among P Q xs ys h.1 a.1)

pub appends_among : (P Q : Pair → Type 0) (all old new : List Pair) → AllByRecursion (λ p. P p ↔ Q p) all → Appends P all old new → Appends Q all old new
appends_among P Q all old new h a = (a.0, those_among P Q all a.0 h a.1, a.2)

pub more_among : (P Q : Pair → Type 0) (all base : List Pair) (s : Sites) (limit : ℕ) → AllByRecursion (λ p. P p ↔ Q p) all → HasMore P all s base limit → HasMore Q all s base limit
more_among P Q all base s limit h m = record {
  first = m.first;
  rest = m.rest;
  is_all = m.is_all;
  some = m.some;
  are = those_among P Q m.first m.some (each_first (λ p. P p ↔ Q p) m.first m.rest (subst (AllByRecursion (λ p. P p ↔ Q p)) m.is_all h)) m.are;
  more = m.more;
}

-- each of those is one of all, and the predicate holds of it
pub those_each : (P R : Pair → Type 0) (xs ys : List Pair) → AllByRecursion (λ p. P p → R p) xs → AreThose P xs ys → AllByRecursion R ys
those_each P R [] ys h a = subst (AllByRecursion R) (sym a) tt
those_each P R (x ∷ xs) ys h (inl a) = subst (AllByRecursion R) (sym a.2) (h.0 a.1, those_each P R xs a.0 h.1 a.3)
those_each P R (x ∷ xs) ys h (inr a) = those_each P R xs ys h.1 a.1

-- ---- a list within the limit, and a beginning beyond it, exclude each other

pub record Begins (P : Pair → Type 0) (xs ys : List Pair) : Type 0 where
  pub some : List Pair
  pub rest : List Pair
  pub are : AreThose P xs some
  pub is : ys ≡ some ++ rest

begins : (P : Pair → Type 0) (xs zs ys : List Pair) → AreThose P (xs ++ zs) ys → Begins P xs ys
begins P [] zs ys a = record { some = []; rest = ys; are = refl; is = refl }
begins P (x ∷ xs) zs ys (inl a) = let b = begins P xs zs a.0 a.3 in record { some = x ∷ b.some; rest = b.rest; are = inl (b.some, a.1, refl, b.are); is = a.2 ∙ ap (λ l. x ∷ l) b.is }
begins P (x ∷ xs) zs ys (inr a) = let b = begins P xs zs ys a.1 in record { some = b.some; rest = b.rest; are = inr (a.0, b.are); is = b.is }

pub not_both : (P : Pair → Type 0) (all : List Pair) (s : Sites) (limit : ℕ) (pairs : List Pair) → AreThose P all pairs → items_in s pairs ≤ limit → HasMore P all s [] limit → ⊥
not_both P all s limit pairs are few m =
    let b = begins P m.first m.rest pairs (subst (λ l. AreThose P l pairs) m.is_all are) in
    let same : m.some ≡ b.some = those_one P m.first m.some b.some m.are b.are in
    let e : items_in s pairs ≡ items_in s b.some + items_in s b.rest = ap (items_in s) b.is ∙ sum_by-append (λ p. weight s p.used) b.some b.rest in
    let f : items_in s m.some ≡ items_in s b.some = ap (items_in s) same in
    let more = m.more in
    omega arith
