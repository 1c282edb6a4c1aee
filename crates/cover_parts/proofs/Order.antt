-- The pairs that wait, in the order of the activations.
use Rattle.std.proofs.Common.{◌≡◌, ◌+◌, ◌-◌, ◌<◌, ◌≤◌, ℕ, zero, suc, List, [], ◌∷◌, ◌++◌, length, get_or, take, drop, Bool, true, false, refl, sym, ap, ◌∙◌, subst, arith, inl, inr, eq-eqb, ne_eqb}
use Rattle.std.specs.Prelude.{◌↔◌, ◌⊎◌, not, nat_eq, nat_lt, nat_le}
use Rattle.std.specs.List.{Contains, filter, All, insert, remove}
use Rattle.std.specs.List.Sorted.{IsPartitionPoint}
use Rattle.std.proofs.lemmas.Bool.Decides.{nat_tests}
use Rattle.std.proofs.lemmas.List.{get_or-take, get_or-drop, take-append-drop}
use Rattle.std.proofs.lemmas.List.Elements.{filter-append, All-head, All-tail, Contains-append_cases, Contains-append_left, Contains-append_right}
use Rattle.std.proofs.lemmas.List.Edits.{split_between}
use Rattle.std.proofs.lemmas.List.Sorted.{IsNonDecreasingBy-insert}
use Rattle.cover_parts.specs.declared.pending.Wait.{Wait}
use Rattle.cover_parts.specs.Waits.{InOrder, is_in, is_for, those_in, others, Bounds}
use Rattle.cover_parts.proofs.Cases.{either, by_test, only}

no_wait : Wait
no_wait = record { activation = 0; decision = 0; definition = 0; user = 0 }

ltb_is : (m n : ℕ) → nat_lt m n ≡ true → m < n
ltb_is m n h = grind (arith, nat_tests)

leb_not : (m n : ℕ) → nat_le m n ≡ false → n < m
leb_not m n h = grind (arith, nat_tests)

ltb_not : (m n : ℕ) → nat_lt m n ≡ false → n ≤ m
ltb_not m n h = grind (arith, nat_tests)

leb_is : (m n : ℕ) → nat_le m n ≡ true → m ≤ n
leb_is m n h = grind (arith, nat_tests)

pub bounds_from : (a : ℕ) (xs : List Wait) (low high : ℕ) → low ≤ length xs → high ≤ length xs → IsPartitionPoint (λ (w : Wait). nat_lt w.activation a ≡ true) (λ (w : Wait). nat_lt w.activation a ≡ false) xs low → IsPartitionPoint (λ (w : Wait). nat_le w.activation a ≡ true) (λ (w : Wait). nat_le w.activation a ≡ false) xs high → Bounds a xs low high
bounds_from a xs low high m n l h = record {
  order = either (λ (q : low ≤ high). q) (λ (q : high < low). absurd (omega (arith, ltb_is _ _ (l.0 high no_wait (omega arith) q), leb_not _ _ (h.1 high no_wait (omega arith) (omega (arith, q, m)))))) (split low high);
  within = n;
  before = λ k d q. ltb_is _ _ (l.0 k d (omega arith) q);
  inside = λ k d p q. let x = ltb_not _ _ (l.1 k d p (omega (arith, q, n))) in let y = leb_is _ _ (h.0 k d (omega arith) q) in omega (arith, x, y);
  after = λ k d p q. leb_not _ _ (h.1 k d p q);
}
  where
    split : (m n : ℕ) → (m ≤ n) ⊎ (n < m)
    split zero n = inl (omega arith)
    split (suc m) zero = inr (omega arith)
    split (suc m) (suc n) = either (λ q. inl (omega (arith, q))) (λ q. inr (omega (arith, q))) (split m n)

-- FILTERS

pub filter_all : (p : Wait → Bool) (xs : List Wait) → All (λ w. p w ≡ true) xs → filter p xs ≡ xs
filter_all p [] h = refl
filter_all p (x ∷ xs) h = rw (All-head (λ w. p w ≡ true) x xs h) (ap (λ l. x ∷ l) (filter_all p xs (All-tail (λ w. p w ≡ true) x xs h)))

pub filter_none : (p : Wait → Bool) (xs : List Wait) → All (λ w. p w ≡ false) xs → filter p xs ≡ []
filter_none p [] h = refl
filter_none p (x ∷ xs) h = rw (All-head (λ w. p w ≡ false) x xs h) (filter_none p xs (All-tail (λ w. p w ≡ false) x xs h))

in_first : (x : Wait) (xs : List Wait) → Contains (x ∷ xs) x
in_first x xs = (0, omega arith, refl)

pub filter_in : (p : Wait → Bool) (xs : List Wait) (y : Wait) → Contains (filter p xs) y → Contains xs y × (p y ≡ true)
filter_in p [] y w = absurd (omega (arith, w.1))
filter_in p (x ∷ xs) y w = by_test (p x)
    (λ t. either (λ a. let e = only x y a in (subst (λ z. Contains (x ∷ xs) z) (sym e) (in_first x xs), ap p e ∙ t)) (λ a. let r = filter_in p xs y a in (Contains-append_right (x ∷ []) xs y r.0, r.1)) (Contains-append_cases (x ∷ []) (filter p xs) y (rw t at w)))
    (λ t. let r = filter_in p xs y (rw t at w) in (Contains-append_right (x ∷ []) xs y r.0, r.1))

pub in_filter : (p : Wait → Bool) (xs : List Wait) (y : Wait) → Contains xs y → p y ≡ true → Contains (filter p xs) y
in_filter p [] y w h = w
in_filter p (x ∷ xs) y w h = either
    (λ a. let e = only x y a in let t : p x ≡ true = ap p (sym e) ∙ h in rw t (subst (λ z. Contains (x ∷ filter p xs) z) (sym e) (in_first x (filter p xs))))
    (λ a. let r = in_filter p xs y a h in by_test (p x) (λ t. rw t (Contains-append_right (x ∷ []) (filter p xs) y r)) (λ t. rw t r))
    (Contains-append_cases (x ∷ []) xs y w)

-- THE PARTS OF AN ACTIVATION

short : (n k : ℕ) (xs : List Wait) → k < length (take n xs) → k < n
short zero k xs h = absurd (omega arith)
short (suc n) k [] h = absurd (omega arith)
short (suc n) zero (x ∷ xs) h = omega arith
short (suc n) (suc k) (x ∷ xs) h = omega (arith, short n k xs (omega arith))

long : (n k : ℕ) (xs : List Wait) → k < length (drop n xs) → n + k < length xs
long zero k xs h = omega (arith, h)
long (suc n) k [] h = absurd (omega arith)
long (suc n) k (x ∷ xs) h = omega (arith, long n k xs h)

stays : (k a : ℕ) (w : Wait) → (w.activation ≡ a → ⊥) → not (is_for k a w) ≡ true
stays k a w ne = rw (ne_eqb w.activation a ne) refl

gone : (k a : ℕ) (w : Wait) → w.activation ≡ a → w.decision ≡ k → not (is_for k a w) ≡ false
gone k a w e f = rw (eq-eqb w.activation a e, eq-eqb w.decision k f) refl

front_stays : (k a : ℕ) (xs : List Wait) (low high : ℕ) → Bounds a xs low high → others k a (take low xs) ≡ take low xs
front_stays k a xs low high b = filter_all (λ w. not (is_for k a w)) (take low xs) (λ j d h. let l = short low j xs h in rw (get_or-take low xs j d l) (stays k a (get_or xs j d) (λ e. absurd (omega (arith, e, b.before j d l)))))

back_stays : (k a : ℕ) (xs : List Wait) (low high : ℕ) → Bounds a xs low high → others k a (drop high xs) ≡ drop high xs
back_stays k a xs low high b = filter_all (λ w. not (is_for k a w)) (drop high xs) (λ j d h. rw (get_or-drop high xs j d) (stays k a (get_or xs (high + j) d) (λ e. absurd (omega (arith, e, b.after (high + j) d (omega arith) (long high j xs h))))))

pub all_at_first : (k a : ℕ) (xs : List Wait) (low high : ℕ) → Bounds a xs low high → xs ≡ take high xs ++ others k a (drop high xs)
all_at_first k a xs low high b = sym (take-append-drop high xs) ∙ ap (λ l. take high xs ++ l) (sym (back_stays k a xs low high b))

pub others_at_last : (k a : ℕ) (xs items : List Wait) (low high i : ℕ) → Bounds a xs low high → i ≡ low → items ≡ take i xs ++ others k a (drop i xs) → items ≡ others k a xs
others_at_last k a xs items low high i b e is =
    is ∙ ap (λ j. take j xs ++ others k a (drop j xs)) e ∙ ap (λ l. l ++ others k a (drop low xs)) (sym (front_stays k a xs low high b)) ∙ sym (filter-append (λ w. not (is_for k a w)) (take low xs) (drop low xs)) ∙ ap (others k a) (take-append-drop low xs)

read_front : (n : ℕ) (xs zs : List Wait) (d : Wait) → n < length xs → get_or (take (suc n) xs ++ zs) n d ≡ get_or xs n d
read_front n [] zs d h = absurd (omega arith)
read_front zero (x ∷ xs) zs d h = refl
read_front (suc n) (x ∷ xs) zs d h = read_front n xs zs d (omega arith)

step_out : (p : Wait → Bool) (xs : List Wait) (n : ℕ) (d : Wait) → n < length xs → p (get_or xs n d) ≡ false → remove (take (suc n) xs ++ filter p (drop (suc n) xs)) n ≡ take n xs ++ filter p (drop n xs)
step_out p [] n d h e = absurd (omega arith)
step_out p (x ∷ xs) zero d h e = rw e refl
step_out p (x ∷ xs) (suc n) d h e = ap (λ l. x ∷ l) (step_out p xs n d (omega arith) e)

pub one_out : (k a : ℕ) (xs items new : List Wait) (low high i n : ℕ) (x : Wait) → Bounds a xs low high → i ≡ suc n → low ≤ n → i ≤ high → items ≡ take i xs ++ others k a (drop i xs) → x ≡ get_or items n x → x.decision ≡ k → new ≡ remove items n → new ≡ take n xs ++ others k a (drop n xs)
one_out k a xs items new low high i n x b e l h is at d w =
    let within : n < length xs = omega (arith, b.within) in
    let is' : items ≡ take (suc n) xs ++ others k a (drop (suc n) xs) = subst (λ j. items ≡ take j xs ++ others k a (drop j xs)) e is in
    let at' : x ≡ get_or xs n x = at ∙ ap (λ l. get_or l n x) is' ∙ read_front n xs (others k a (drop (suc n) xs)) x within in
    let acts : x.activation ≡ a = ap (λ (w : Wait). w.activation) at' ∙ b.inside n x l (omega arith) in
    w ∙ ap (λ l. remove l n) is' ∙ step_out (λ w. not (is_for k a w)) xs n x within (ap (λ w. not (is_for k a w)) (sym at') ∙ gone k a x acts d)

step_in : (p : Wait → Bool) (xs : List Wait) (n : ℕ) (d : Wait) → n < length xs → p (get_or xs n d) ≡ true → take (suc n) xs ++ filter p (drop (suc n) xs) ≡ take n xs ++ filter p (drop n xs)
step_in p [] n d h e = absurd (omega arith)
step_in p (x ∷ xs) zero d h e = rw e refl
step_in p (x ∷ xs) (suc n) d h e = ap (λ l. x ∷ l) (step_in p xs n d (omega arith) e)

other_decision : (k a : ℕ) (w : Wait) → (w.decision ≡ k → ⊥) → not (is_for k a w) ≡ true
other_decision k a w ne = by_test (nat_eq w.activation a) (λ t. rw (t, ne_eqb w.decision k ne) refl) (λ t. rw t refl)

pub one_kept : (k a : ℕ) (xs items : List Wait) (low high i n : ℕ) (x : Wait) → Bounds a xs low high → i ≡ suc n → i ≤ high → items ≡ take i xs ++ others k a (drop i xs) → x ≡ get_or items n x → (x.decision ≡ k → ⊥) → items ≡ take n xs ++ others k a (drop n xs)
one_kept k a xs items low high i n x b e h is at d =
    let within : n < length xs = omega (arith, b.within) in
    let is' : items ≡ take (suc n) xs ++ others k a (drop (suc n) xs) = subst (λ j. items ≡ take j xs ++ others k a (drop j xs)) e is in
    let at' : x ≡ get_or xs n x = at ∙ ap (λ l. get_or l n x) is' ∙ read_front n xs (others k a (drop (suc n) xs)) x within in
    is' ∙ step_in (λ w. not (is_for k a w)) xs n x within (ap (λ w. not (is_for k a w)) (sym at') ∙ other_decision k a x d)

pub range_is : (a : ℕ) (xs : List Wait) (low high : ℕ) → Bounds a xs low high → take (high - low) (drop low xs) ≡ those_in a xs
range_is a xs low high b =
    let mid : List Wait = take (high - low) (drop low xs) in
    let whole : xs ≡ take low xs ++ (mid ++ drop high xs) = split_between xs low high b.order in
    let front : those_in a (take low xs) ≡ [] = filter_none (is_in a) (take low xs) (λ j d h. let l = short low j xs h in rw (get_or-take low xs j d l) (ne_eqb (get_or xs j d).activation a (λ e. absurd (omega (arith, e, b.before j d l))))) in
    let middle : those_in a mid ≡ mid = filter_all (is_in a) mid (λ j d h. let l = short (high - low) j (drop low xs) h in rw (get_or-take (high - low) (drop low xs) j d l, get_or-drop low xs j d) (eq-eqb (get_or xs (low + j) d).activation a (b.inside (low + j) d (omega arith) (omega (arith, l, b.order))))) in
    let behind : those_in a (drop high xs) ≡ [] = filter_none (is_in a) (drop high xs) (λ j d h. rw (get_or-drop high xs j d) (ne_eqb (get_or xs (high + j) d).activation a (λ e. absurd (omega (arith, e, b.after (high + j) d (omega arith) (long high j xs h)))))) in
    sym (ap (those_in a) whole ∙ filter-append (is_in a) (take low xs) (mid ++ drop high xs) ∙ ap (λ l. l ++ those_in a (mid ++ drop high xs)) front ∙ filter-append (is_in a) mid (drop high xs) ∙ ap (λ l. l ++ those_in a (drop high xs)) middle ∙ ap (λ l. mid ++ l) behind ∙ end_nil mid)
  where
    end_nil : (l : List Wait) → l ++ [] ≡ l
    end_nil [] = refl
    end_nil (x ∷ l) = ap (λ r. x ∷ r) (end_nil l)

pub inserted : (xs ys : List Wait) (i : ℕ) (x : Wait) → ys ≡ insert xs i x → (y : Wait) → Contains ys y ↔ (Contains xs y ⊎ (y ≡ x))
inserted xs ys i x e y =
    (λ w. either (λ a. inl (subst (λ l. Contains l y) (take-append-drop i xs) (Contains-append_left (take i xs) (drop i xs) y a))) (λ r. either (λ a. inr (only x y a)) (λ a. inl (subst (λ l. Contains l y) (take-append-drop i xs) (Contains-append_right (take i xs) (drop i xs) y a))) (Contains-append_cases (x ∷ []) (drop i xs) y r)) (Contains-append_cases (take i xs) (x ∷ drop i xs) y (subst (λ l. Contains l y) e w)), λ s. subst (λ l. Contains l y) (sym e) (either (λ w. either (λ a. Contains-append_left (take i xs) (x ∷ drop i xs) y a) (λ a. Contains-append_right (take i xs) (x ∷ drop i xs) y (Contains-append_right (x ∷ []) (drop i xs) y a)) (Contains-append_cases (take i xs) (drop i xs) y (subst (λ l. Contains l y) (sym (take-append-drop i xs)) w))) (λ q. Contains-append_right (take i xs) (x ∷ drop i xs) y (subst (λ z. Contains (x ∷ drop i xs) z) (sym q) (in_first x (drop i xs)))) s))

pub in_order_insert : (x : Wait) (xs : List Wait) (low high : ℕ) → Bounds x.activation xs low high → InOrder xs → InOrder (insert xs high x)
in_order_insert x xs low high b o = IsNonDecreasingBy-insert (λ w. w.activation) xs high x o b.within (λ k d h. either (λ l. omega (arith, b.before k d l)) (λ l. omega (arith, b.inside k d l h)) (split k low)) (λ k d h l. omega (arith, b.after k d h l))
  where
    split : (m n : ℕ) → (m < n) ⊎ (n ≤ m)
    split zero zero = inr (omega arith)
    split zero (suc n) = inl (omega arith)
    split (suc m) zero = inr (omega arith)
    split (suc m) (suc n) = either (λ q. inl (omega (arith, q))) (λ q. inr (omega (arith, q))) (split m n)
