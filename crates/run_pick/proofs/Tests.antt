-- Tests and filters of lists.
use Rattle.std.proofs.Common.{◌≡◌, Bool, true, false, ◌&&◌, ◌||◌, ◌⊎◌, inl, inr, cond, List, [], ◌∷◌, refl, sym, ap, ◌∙◌, subst}
use Rattle.std.proofs.lemmas.Bool.{cases_Bool}
use Rattle.std.proofs.lemmas.List.Elements.{filter_agree}
use Rattle.std.specs.List.{filter, list_any}

-- TWO TRUTHS

pub or_false : (a : Bool) → (a || false) ≡ a
or_false true = refl
or_false false = refl

pub or_true : (a : Bool) → (a || true) ≡ true
or_true true = refl
or_true false = refl

pub or_assoc : (a b c : Bool) → ((a || b) || c) ≡ (a || (b || c))
or_assoc true b c = refl
or_assoc false b c = refl

pub or_swap : (t a b : Bool) → (t || (a || b)) ≡ ((t || b) || a)
or_swap true a b = refl
or_swap false true true = refl
or_swap false true false = refl
or_swap false false true = refl
or_swap false false false = refl

pub none_left : (a b : Bool) → (a || b) ≡ false → a ≡ false
none_left true b e = e
none_left false b e = refl

pub none_right : (a b : Bool) → (a || b) ≡ false → b ≡ false
none_right true true e = e
none_right true false e = refl
none_right false b e = e

-- MEMBERS OF A LIST

abbrev pub In : {X : Type 0} → X → List X → Type 0
In x [] = ⊥
In x (y ∷ ys) = (y ≡ x) ⊎ In x ys

pub in_filter : {X : Type 0} (q : X → Bool) (xs : List X) (x : X) → In x xs → q x ≡ true → In x (filter q xs)
in_filter q [] x i t = i
in_filter {X} q (y ∷ ys) x (inl e) t =
    let P : Bool → Type 0 = λ b. In x (cond b (y ∷ filter q ys) (filter q ys)) in
    subst P (sym (ap q e ∙ t)) (inl e)
in_filter {X} q (y ∷ ys) x (inr i) t =
    let rest : In x (filter q ys) = in_filter q ys x i t in
    elim (q y) as (λ b. In x (cond b (y ∷ filter q ys) (filter q ys))) [ true ↦ inr rest | false ↦ rest ]

-- FILTERS

pub filter_all : {X : Type 0} (xs : List X) → filter (λ x. true) xs ≡ xs
filter_all [] = refl
filter_all (x ∷ xs) = ap (λ ys. x ∷ ys) (filter_all xs)

filter_one : {X : Type 0} (p : X → Bool) (b : Bool) (x : X) (ys : List X) → filter p (cond b (x ∷ ys) ys) ≡ cond (b && p x) (x ∷ filter p ys) (filter p ys)
filter_one p true x ys = refl
filter_one p false x ys = refl

pub filter_filter : {X : Type 0} (p q : X → Bool) (xs : List X) → filter p (filter q xs) ≡ filter (λ x. q x && p x) xs
filter_filter p q [] = refl
filter_filter p q (x ∷ xs) = filter_one p (q x) x (filter q xs) ∙ ap (λ ys. cond (q x && p x) (x ∷ ys) ys) (filter_filter p q xs)

and_swap : (a b : Bool) → (a && b) ≡ (b && a)
and_swap true true = refl
and_swap true false = refl
and_swap false true = refl
and_swap false false = refl

pub filter_swap : {X : Type 0} (p q : X → Bool) (xs : List X) → filter p (filter q xs) ≡ filter q (filter p xs)
filter_swap p q xs = filter_filter p q xs ∙ filter_agree (λ x. q x && p x) (λ x. p x && q x) (λ x. and_swap (q x) (p x)) xs ∙ sym (filter_filter q p xs)

pub filter_agree_in : {X : Type 0} (p q : X → Bool) (xs : List X) → ((x : X) → In x xs → p x ≡ q x) → filter p xs ≡ filter q xs
filter_agree_in p q [] same = refl
filter_agree_in p q (x ∷ xs) same =
    ap (λ b. cond b (x ∷ filter p xs) (filter p xs)) (same x (inl refl))
    ∙ ap (λ ys. cond (q x) (x ∷ ys) ys) (filter_agree_in p q xs (λ y i. same y (inr i)))

-- WHETHER SOME ELEMENT PASSES

pub any_agree_in : {X : Type 0} (p q : X → Bool) (xs : List X) → ((x : X) → In x xs → p x ≡ q x) → list_any p xs ≡ list_any q xs
any_agree_in p q [] same = refl
any_agree_in p q (x ∷ xs) same =
    ap (λ b. b || list_any p xs) (same x (inl refl)) ∙ ap (λ b. q x || b) (any_agree_in p q xs (λ y i. same y (inr i)))

pub any_agree : {X : Type 0} (p q : X → Bool) (xs : List X) → ((x : X) → p x ≡ q x) → list_any p xs ≡ list_any q xs
any_agree p q xs same = any_agree_in p q xs (λ x i. same x)

any_one : {X : Type 0} (p : X → Bool) (b : Bool) (x : X) (ys : List X) → list_any p (cond b (x ∷ ys) ys) ≡ ((b && p x) || list_any p ys)
any_one p true x ys = refl
any_one p false x ys = refl

pub any_filter : {X : Type 0} (p q : X → Bool) (xs : List X) → list_any p (filter q xs) ≡ list_any (λ x. q x && p x) xs
any_filter p q [] = refl
any_filter p q (x ∷ xs) = any_one p (q x) x (filter q xs) ∙ ap (λ b. (q x && p x) || b) (any_filter p q xs)

pub any_in : {X : Type 0} (p : X → Bool) (xs : List X) (x : X) → In x xs → p x ≡ true → list_any p xs ≡ true
any_in p [] x i t = absurd i
any_in p (y ∷ ys) x (inl e) t = ap (λ b. b || list_any p ys) (ap p e ∙ t)
any_in p (y ∷ ys) x (inr i) t = ap (λ b. p y || b) (any_in p ys x i t) ∙ or_true (p y)

pub any_weaker : {X : Type 0} (p q : X → Bool) (xs : List X) → ((x : X) → p x ≡ true → q x ≡ true) → list_any p xs ≡ true → list_any q xs ≡ true
any_weaker p q [] more e = e
any_weaker p q (x ∷ xs) more e =
    elim (cases_Bool (p x)) [
      | inl t ↦ ap (λ b. b || list_any q xs) (more x t)
      | inr f ↦ ap (λ b. q x || b) (any_weaker p q xs more (ap (λ b. b || list_any p xs) (sym f) ∙ e)) ∙ or_true (q x)
    ]
