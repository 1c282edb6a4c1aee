-- The first of a list that passes a test, where those before it don't.
use Rattle.std.proofs.Common.{◌≡◌, ℕ, ◌+◌, ◌<◌, Bool, true, false, cond, zero, suc, List, [], ◌∷◌, length, take, get_or, Option, Some, None, find, refl, sym, ap, ◌∙◌, add-one, arith}
use Rattle.std.proofs.lemmas.List.{get_or_default}

not_taken : {A : Type 0} (b : Bool) (x : A) (o : Option A) → cond b (Some x) o ≡ None → (b ≡ false) × (o ≡ None)
not_taken true x o e = absurd (cc)
not_taken false x o e = (refl, e)

find_at : {A : Type 0} (p : A → Bool) (xs : List A) (i : ℕ) (d : A) → find p (take i xs) ≡ None → i < length xs → p (get_or xs i d) ≡ true → find p xs ≡ Some (get_or xs i d)
find_at p [] i d before inside passes = absurd (omega arith)
find_at p (x ∷ xs) zero d before inside passes = ap (λ b. cond b (Some x) (find p xs)) passes
find_at p (x ∷ xs) (suc i) d before inside passes =
    let n = not_taken (p x) x (find p (take i xs)) before in
    ap (λ b. cond b (Some x) (find p xs)) n.0 ∙ find_at p xs i d n.1 (omega arith) passes

more_none : {A : Type 0} (p : A → Bool) (xs : List A) (i : ℕ) (d : A) → find p (take i xs) ≡ None → p (get_or xs i d) ≡ false → find p (take (suc i) xs) ≡ None
more_none p [] i d before fails = refl
more_none p (x ∷ xs) zero d before fails = ap (λ b. cond b (Some x) None) fails
more_none p (x ∷ xs) (suc i) d before fails =
    let n = not_taken (p x) x (find p (take i xs)) before in
    ap (λ b. cond b (Some x) (find p (take (suc i) xs))) n.0 ∙ more_none p xs i d n.1 fails

find_more : {A : Type 0} (p : A → Bool) (xs : List A) (i : ℕ) (d : A) → find p (take i xs) ≡ None → p (get_or xs i d) ≡ false → find p (take (i + 1) xs) ≡ None
find_more p xs i d before fails = ap (λ n. find p (take n xs)) (add-one i) ∙ more_none p xs i d before fails

-- the same of an element that was read there
pub find_read : {A : Type 0} (p : A → Bool) (xs : List A) (i : ℕ) (x : A) → find p (take i xs) ≡ None → i < length xs → x ≡ get_or xs i x → p x ≡ true → (d : A) → find p xs ≡ Some (get_or xs i d)
find_read p xs i x before inside is passes d = find_at p xs i x before inside (ap p (sym is) ∙ passes) ∙ ap Some (get_or_default xs i x d inside)

pub find_past : {A : Type 0} (p : A → Bool) (xs : List A) (i : ℕ) (x : A) → find p (take i xs) ≡ None → x ≡ get_or xs i x → p x ≡ false → find p (take (i + 1) xs) ≡ None
find_past p xs i x before is fails = find_more p xs i x before (ap p (sym is) ∙ fails)
